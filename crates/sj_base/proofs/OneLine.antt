-- A compact text has no byte below 0x20.
use Rattle.std.specs.Prelude.{ℕ, ◌≤◌, ◌-◌, true, false, ◌==◌, nat_lt, List, [], ◌∷◌, ◌++◌, flat_map}
use Rattle.std.specs.List.{AllByRecursion}
use Rattle.std.specs.Char.{digit_char}
use Rattle.std.specs.Fmt.{signed_decimal}
use Rattle.std.proofs.Common.{arith}
use Rattle.std.proofs.lemmas.Bool.{cond_both, ltb-false}
use Rattle.sj_base.specs.Tree.{null, boolean, integer, decimal, string, list, object, Items, no_items, item, Members, no_members, member, AreValidItems, AreValidMembers}
use Rattle.sj_base.specs.Text.{escaped, quoted, text, items_text, more_items_text, members_text, more_members_text}
use Rattle.sj_base.specs.Laws.{OneLine}
use Rattle.sj_base.proofs.Fronts.{AllByRecursion-append, AllByRecursion-weaker}
use Rattle.sj_base.proofs.NumberBytes.{IsInNumber, number_low, integer_bytes, decimal_bytes}
use Rattle.sj_base.proofs.Decimals.{integer_spells}

-- no byte below 0x20
abbrev pub Visible : List ℕ → Type 0
Visible bs = AllByRecursion (λ b. 0x20 ≤ b) bs

-- Two parts without such a byte together have none.
pub visible_append : (xs ys : List ℕ) → Visible xs → Visible ys → Visible (xs ++ ys)
visible_append xs ys h k = AllByRecursion-append (λ b. 0x20 ≤ b) xs ys h k

-- The digit of an escape isn't below 0x20.
digit_visible : (d : ℕ) → 0x20 ≤ digit_char d
digit_visible d = cond_both (nat_lt d 10) _ _ (λ c. 0x20 ≤ c) (λ e. omega arith) (λ e. omega arith)

-- No byte of an escape is below 0x20, and no byte that is printed raw.
escaped_visible : (b : ℕ) → Visible (escaped b)
escaped_visible b =
    let P : List ℕ → Type 0 = λ bs. Visible bs in
    let two : (c : ℕ) → 0x20 ≤ c → Visible (0x5c ∷ c ∷ []) = λ c h. (omega arith, (h, tt)) in
    cond_both (b == 0x22) _ _ P (λ _. two 0x22 (omega arith)) (λ _.
    cond_both (b == 0x5c) _ _ P (λ _. two 0x5c (omega arith)) (λ _.
    cond_both (b == 0x08) _ _ P (λ _. two 0x62 (omega arith)) (λ _.
    cond_both (b == 0x09) _ _ P (λ _. two 0x74 (omega arith)) (λ _.
    cond_both (b == 0x0a) _ _ P (λ _. two 0x6e (omega arith)) (λ _.
    cond_both (b == 0x0c) _ _ P (λ _. two 0x66 (omega arith)) (λ _.
    cond_both (b == 0x0d) _ _ P (λ _. two 0x72 (omega arith)) (λ _.
    cond_both (nat_lt b 0x10) _ _ P (λ _. (omega arith, (omega arith, (omega arith, (omega arith, (omega arith, (digit_visible b, tt))))))) (λ _.
    cond_both (nat_lt b 0x20) _ _ P (λ _. (omega arith, (omega arith, (omega arith, (omega arith, (omega arith, (digit_visible (b - 0x10), tt))))))) (λ e.
    (ltb-false b 0x20 e, tt))))))))))

-- So the body of a string has none.
body_visible : (s : List ℕ) → Visible (flat_map escaped s)
body_visible [] = tt
body_visible (b ∷ s) = visible_append (escaped b) (flat_map escaped s) (escaped_visible b) (body_visible s)

-- a text between two bytes that aren't below 0x20
between_visible : (left right : ℕ) (inner : List ℕ) → 0x20 ≤ left → 0x20 ≤ right → Visible inner → Visible (left ∷ (inner ++ right ∷ []))
between_visible left right inner l r h = (l, visible_append inner (right ∷ []) h (r, tt))

-- a string with its quotes
pub quoted_visible : (s : List ℕ) → Visible (quoted s)
quoted_visible s = between_visible 0x22 0x22 (flat_map escaped s) (omega arith) (omega arith) (body_visible s)

-- a number
number_visible : (bs : List ℕ) → AllByRecursion IsInNumber bs → Visible bs
number_visible bs h = AllByRecursion-weaker IsInNumber (λ b. 0x20 ≤ b) (λ b i. let low = number_low b i in omega arith) bs h

-- each part of a text
mutual
  pub text_visible : OneLine
  text_visible null h = (omega arith, (omega arith, (omega arith, (omega arith, tt))))
  text_visible (boolean true) h = (omega arith, (omega arith, (omega arith, (omega arith, tt))))
  text_visible (boolean false) h = (omega arith, (omega arith, (omega arith, (omega arith, (omega arith, tt)))))
  text_visible (integer n) h = number_visible (signed_decimal n) (integer_bytes n (signed_decimal n) (integer_spells n h))
  text_visible (decimal literal) h = number_visible literal (decimal_bytes literal h)
  text_visible (string s) h = quoted_visible s
  text_visible (list ts) h = between_visible 0x5b 0x5d (items_text ts) (omega arith) (omega arith) (items_visible ts h)
  text_visible (object ms) h = between_visible 0x7b 0x7d (members_text ms) (omega arith) (omega arith) (members_visible ms h)

  items_visible : (ts : Items) → AreValidItems ts → Visible (items_text ts)
  items_visible no_items h = tt
  items_visible (item t ts) h = visible_append (text t) (more_items_text ts) (text_visible t h.0) (more_items_visible ts h.1)

  more_items_visible : (ts : Items) → AreValidItems ts → Visible (more_items_text ts)
  more_items_visible no_items h = tt
  more_items_visible (item t ts) h = (omega arith, visible_append (text t) (more_items_text ts) (text_visible t h.0) (more_items_visible ts h.1))

  members_visible : (ms : Members) → AreValidMembers ms → Visible (members_text ms)
  members_visible no_members h = tt
  members_visible (member k t ms) h = visible_append (quoted k) (0x3a ∷ (text t ++ more_members_text ms)) (quoted_visible k) (omega arith, visible_append (text t) (more_members_text ms) (text_visible t h.1) (more_members_visible ms h.2))

  more_members_visible : (ms : Members) → AreValidMembers ms → Visible (more_members_text ms)
  more_members_visible no_members h = tt
  more_members_visible (member k t ms) h = (omega arith, visible_append (quoted k) (0x3a ∷ (text t ++ more_members_text ms)) (quoted_visible k) (omega arith, visible_append (text t) (more_members_text ms) (text_visible t h.1) (more_members_visible ms h.2)))
