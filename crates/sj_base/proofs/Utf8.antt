-- Bytes that spell a tree are UTF-8.
use Rattle.std.specs.Prelude.{◌≡◌, ℕ, zero, suc, ◌<◌, ◌≤◌, ◌==◌, true, false, List, [], ◌∷◌, ◌++◌, codes, Option, IsSome, slice_index, flat_map, IsUtf8}
use Rattle.std.specs.List.{AllByRecursion}
use Rattle.std.specs.Str.Parse.{AllDigits}
use Rattle.std.specs.Char.{digit_value}
use Rattle.std.proofs.Common.{refl, sym, subst, inl, inr, arith}
use Rattle.std.proofs.lemmas.Bool.{false≢true, cases_lt, cond_both, eqb-true, le-ltb}
use Rattle.std.proofs.lemmas.Str.{IsUtf8-nil, IsUtf8-append, IsUtf8-encode, IsUtf8-from_ascii}
use Rattle.sj_base.specs.Tree.{Tree, null, boolean, integer, decimal, string, list, object, Items, no_items, item, Members, no_members, member}
use Rattle.sj_base.specs.Characters.{CharacterForm, raw, short, unit, pair, short_character, IsCharacterForm, form_bytes}
use Rattle.sj_base.specs.Spelling.{IsSpace, AreSpaces, Padded, Pairs, SpellsString, SpellsValue, SpellsItems, SpellsMoreItems, SpellsMembers, SpellsMoreMembers}
use Rattle.sj_base.specs.Laws.{SpelledInUtf8}
use Rattle.sj_base.proofs.Fronts.{AllByRecursion-append, AllByRecursion-weaker}
use Rattle.sj_base.proofs.NumberBytes.{IsInNumber, integer_bytes, decimal_bytes}
use Rattle.sj_base.proofs.Cuts.{space_low}

-- ASCII
abbrev Ascii : List ℕ → Type 0
Ascii bs = AllByRecursion (λ b. b < 128) bs

-- ASCII is UTF-8
ascii_utf8 : (bs : List ℕ) → Ascii bs → IsUtf8 bs
ascii_utf8 bs h = IsUtf8-from_ascii bs (at bs h)
  where
    at : (xs : List ℕ) → Ascii xs → (i : ℕ) → slice_index xs i < 128
    at [] k i = omega arith
    at (x ∷ xs) k zero = k.0
    at (x ∷ xs) k (suc i) = at xs k.1 i

-- the letter of an escape
pub letter_ascii : (letter : ℕ) → IsSome (short_character letter) → letter < 128
letter_ascii letter =
    let P : Option ℕ → Type 0 = λ o. IsSome o → letter < 128 in
    let at : (l : ℕ) → l < 128 → (letter == l) ≡ true → letter < 128 = λ l low e. let same = eqb-true letter l e in omega arith in
    cond_both (letter == 0x22) _ _ P (λ e _. at 0x22 (omega arith) e) (λ _.
    cond_both (letter == 0x5c) _ _ P (λ e _. at 0x5c (omega arith) e) (λ _.
    cond_both (letter == 0x2f) _ _ P (λ e _. at 0x2f (omega arith) e) (λ _.
    cond_both (letter == 0x62) _ _ P (λ e _. at 0x62 (omega arith) e) (λ _.
    cond_both (letter == 0x66) _ _ P (λ e _. at 0x66 (omega arith) e) (λ _.
    cond_both (letter == 0x6e) _ _ P (λ e _. at 0x6e (omega arith) e) (λ _.
    cond_both (letter == 0x72) _ _ P (λ e _. at 0x72 (omega arith) e) (λ _.
    cond_both (letter == 0x74) _ _ P (λ e _. at 0x74 (omega arith) e) (λ _ some. absurd (false≢true some)))))))))

-- the digits of an escape
pub hex_ascii : (ds : List ℕ) → AllDigits 16 ds → Ascii ds
hex_ascii [] h = tt
hex_ascii (d ∷ ds) h = (digit d h.0, hex_ascii ds h.1)
  where
    digit : (b : ℕ) → digit_value b < 16 → b < 128
    digit b below =
        elim (cases_lt b 128) [
          | inl low ↦ low
          | inr high ↦ let none : digit_value b ≡ 36 = rw (le-ltb b 48 (omega arith), le-ltb b 58 (omega arith), le-ltb b 65 (omega arith), le-ltb b 91 (omega arith), le-ltb b 97 (omega arith), le-ltb b 123 (omega arith)) refl in absurd (omega arith)
        ]

-- a form
form_utf8 : (r : CharacterForm) → IsCharacterForm r → IsUtf8 (form_bytes r)
form_utf8 (raw c) h = IsUtf8-encode c h.0
form_utf8 (short letter) h = ascii_utf8 (0x5c ∷ letter ∷ []) (omega arith, (letter_ascii letter h, tt))
form_utf8 (unit ds) h = ascii_utf8 (0x5c ∷ 0x75 ∷ ds) (omega arith, (omega arith, hex_ascii ds h.0.1))
form_utf8 (pair high low) h = ascii_utf8 (form_bytes (pair high low)) (omega arith, (omega arith, AllByRecursion-append (λ b. b < 128) high (0x5c ∷ 0x75 ∷ low) (hex_ascii high h.0.1) (omega arith, (omega arith, hex_ascii low h.1.1))))

-- forms
forms_utf8 : (forms : List CharacterForm) → AllByRecursion IsCharacterForm forms → IsUtf8 (flat_map form_bytes forms)
forms_utf8 [] h = IsUtf8-nil
forms_utf8 (r ∷ forms) h = IsUtf8-append (form_bytes r) (flat_map form_bytes forms) (form_utf8 r h.0) (forms_utf8 forms h.1)

-- a text between two ASCII bytes
between_utf8 : (left right : ℕ) (bs inner : List ℕ) → left < 128 → right < 128 → bs ≡ left ∷ (inner ++ right ∷ []) → IsUtf8 inner → IsUtf8 bs
between_utf8 left right bs inner l r e h = subst (λ (ys : List ℕ). IsUtf8 ys) (sym e) (IsUtf8-append (left ∷ []) (inner ++ right ∷ []) (ascii_utf8 (left ∷ []) (l, tt)) (IsUtf8-append inner (right ∷ []) h (ascii_utf8 (right ∷ []) (r, tt))))

-- a string
string_utf8 : (s bs : List ℕ) → SpellsString s bs → IsUtf8 bs
string_utf8 s bs h = between_utf8 0x22 0x22 bs h.body (omega arith) (omega arith) h.parts (subst (λ (ys : List ℕ). IsUtf8 ys) (sym h.means.shown) (forms_utf8 h.means.forms h.means.are_forms))

-- whitespace
spaces_utf8 : (bs : List ℕ) → AreSpaces bs → IsUtf8 bs
spaces_utf8 bs h = ascii_utf8 bs (AllByRecursion-weaker IsSpace (λ b. b < 128) (λ b s. let low = space_low b s in omega arith) bs h)

-- a text with whitespace around it
padded_utf8 : (P : List ℕ → Type 0) (bs : List ℕ) (p : Padded P bs) → IsUtf8 p.inner → IsUtf8 bs
padded_utf8 P bs p h = subst (λ (ys : List ℕ). IsUtf8 ys) (sym p.parts) (IsUtf8-append p.before (p.inner ++ p.after) (spaces_utf8 p.before p.spaces_before) (IsUtf8-append p.inner p.after h (spaces_utf8 p.after p.spaces_after)))

-- a byte of a number
number_ascii : (b : ℕ) → IsInNumber b → b < 128
number_ascii b (inl d) = let high : b ≤ 57 = d.1 in omega arith
number_ascii b (inr (inl e)) = omega arith
number_ascii b (inr (inr (inl e))) = omega arith
number_ascii b (inr (inr (inr (inl e)))) = omega arith
number_ascii b (inr (inr (inr (inr (inl e))))) = omega arith
number_ascii b (inr (inr (inr (inr (inr e))))) = omega arith

-- a number
pub number_utf8 : (bs : List ℕ) → AllByRecursion IsInNumber bs → IsUtf8 bs
number_utf8 bs h = ascii_utf8 bs (AllByRecursion-weaker IsInNumber (λ b. b < 128) number_ascii bs h)

-- two parts
both_utf8 : (bs first rest : List ℕ) → bs ≡ first ++ rest → IsUtf8 first → IsUtf8 rest → IsUtf8 bs
both_utf8 bs first rest e h k = subst (λ (ys : List ℕ). IsUtf8 ys) (sym e) (IsUtf8-append first rest h k)

-- an ASCII byte in front
behind_utf8 : (b : ℕ) (bs : List ℕ) → b < 128 → IsUtf8 bs → IsUtf8 (b ∷ bs)
behind_utf8 b bs low h = IsUtf8-append (b ∷ []) bs (ascii_utf8 (b ∷ []) (low, tt)) h

-- a comma and two parts
comma_utf8 : (bs first rest : List ℕ) → bs ≡ 0x2c ∷ (first ++ rest) → IsUtf8 first → IsUtf8 rest → IsUtf8 bs
comma_utf8 bs first rest e h k = subst (λ (ys : List ℕ). IsUtf8 ys) (sym e) (behind_utf8 0x2c (first ++ rest) (omega arith) (IsUtf8-append first rest h k))

-- a key and its value
pairs_utf8 : (k : List ℕ) (t : Tree) (bs : List ℕ) (p : Pairs (SpellsString k) (SpellsValue t) bs) → IsUtf8 p.4.inner → IsUtf8 bs
pairs_utf8 k t bs p h = both_utf8 bs p.0 (0x3a ∷ p.1) p.2 (padded_utf8 (SpellsString k) p.0 p.3 (string_utf8 k p.3.inner p.3.holds)) (behind_utf8 0x3a p.1 (omega arith) (padded_utf8 (SpellsValue t) p.1 p.4 h))

-- Bytes that spell a part are UTF-8.
mutual
  value_utf8 : (t : Tree) (bs : List ℕ) → SpellsValue t bs → IsUtf8 bs
  value_utf8 null bs h = subst (λ (ys : List ℕ). IsUtf8 ys) (sym h) (ascii_utf8 (codes "null") (omega arith, (omega arith, (omega arith, (omega arith, tt)))))
  value_utf8 (boolean true) bs h = subst (λ (ys : List ℕ). IsUtf8 ys) (sym h) (ascii_utf8 (codes "true") (omega arith, (omega arith, (omega arith, (omega arith, tt)))))
  value_utf8 (boolean false) bs h = subst (λ (ys : List ℕ). IsUtf8 ys) (sym h) (ascii_utf8 (codes "false") (omega arith, (omega arith, (omega arith, (omega arith, (omega arith, tt))))))
  value_utf8 (integer n) bs h = number_utf8 bs (integer_bytes n bs h.1)
  value_utf8 (decimal literal) bs h = subst (λ (ys : List ℕ). IsUtf8 ys) (sym h.0) (number_utf8 literal (decimal_bytes literal h.1))
  value_utf8 (string s) bs h = string_utf8 s bs h
  value_utf8 (list ts) bs h = between_utf8 0x5b 0x5d bs h.0 (omega arith) (omega arith) h.1 (items_utf8 ts h.0 h.2)
  value_utf8 (object ms) bs h = between_utf8 0x7b 0x7d bs h.0 (omega arith) (omega arith) h.1 (members_utf8 ms h.0 h.2)

  items_utf8 : (ts : Items) (bs : List ℕ) → SpellsItems ts bs → IsUtf8 bs
  items_utf8 no_items bs h = spaces_utf8 bs h
  items_utf8 (item t ts) bs h = both_utf8 bs h.0 h.1 h.2 (padded_utf8 (SpellsValue t) h.0 h.3 (value_utf8 t h.3.inner h.3.holds)) (more_items_utf8 ts h.1 h.4)

  more_items_utf8 : (ts : Items) (bs : List ℕ) → SpellsMoreItems ts bs → IsUtf8 bs
  more_items_utf8 no_items bs h = subst (λ (ys : List ℕ). IsUtf8 ys) (sym h) IsUtf8-nil
  more_items_utf8 (item t ts) bs h = comma_utf8 bs h.0 h.1 h.2 (padded_utf8 (SpellsValue t) h.0 h.3 (value_utf8 t h.3.inner h.3.holds)) (more_items_utf8 ts h.1 h.4)

  members_utf8 : (ms : Members) (bs : List ℕ) → SpellsMembers ms bs → IsUtf8 bs
  members_utf8 no_members bs h = spaces_utf8 bs h
  members_utf8 (member k t ms) bs h = both_utf8 bs h.0 h.1 h.2 (pairs_utf8 k t h.0 h.3 (value_utf8 t h.3.4.inner h.3.4.holds)) (more_members_utf8 ms h.1 h.4)

  more_members_utf8 : (ms : Members) (bs : List ℕ) → SpellsMoreMembers ms bs → IsUtf8 bs
  more_members_utf8 no_members bs h = subst (λ (ys : List ℕ). IsUtf8 ys) (sym h) IsUtf8-nil
  more_members_utf8 (member k t ms) bs h = comma_utf8 bs h.0 h.1 h.2 (pairs_utf8 k t h.0 h.3 (value_utf8 t h.3.4.inner h.3.4.holds)) (more_members_utf8 ms h.1 h.4)

-- also with whitespace around it
pub only_utf8 : SpelledInUtf8
only_utf8 bytes t h = padded_utf8 (SpellsValue t) bytes h (value_utf8 t h.inner h.holds)
