-- An indented text spells its tree: the line breaks are whitespace before each element and after the last one.
use Rattle.std.specs.Prelude.{◌≡◌, ℕ, zero, suc, ◌*◌, true, false, List, [], ◌∷◌, ◌++◌, replicate, IsUtf8}
use Rattle.std.proofs.Common.{refl, sym, ap, ◌∙◌, inl, inr, append_assoc, append-nil}
use Rattle.sj_base.specs.Tree.{Tree, null, boolean, integer, decimal, string, list, object, Items, no_items, item, Members, no_members, member, IsValidTree, AreValidItems, AreValidMembers}
use Rattle.sj_base.specs.Spelling.{AreSpaces, Padded, Pairs, Then, SpellsString, SpellsValue, SpellsMoreItems, SpellsMoreMembers}
use Rattle.sj_base.specs.Text.{quoted, line_break, pretty, pretty_pair, pretty_at, pretty_more_items, pretty_more_members}
use Rattle.sj_base.specs.Laws.{PrintsBack}
use Rattle.sj_base.proofs.Quotes.{quoted_spells}
use Rattle.sj_base.proofs.Decimals.{integer_spells}
use Rattle.sj_base.proofs.Compact.{bare}

-- Spaces are whitespace.
spaces : (n : ℕ) → AreSpaces (replicate n 0x20)
spaces zero = tt
spaces (suc n) = (inl refl, spaces n)

-- So is a line break.
break_spaces : (level : ℕ) → AreSpaces (line_break level)
break_spaces level = (inr (inr (inl refl)), spaces (2 * level))

-- the split before a comma
cut_comma : (before first next more tail : List ℕ) → before ++ (first ++ ((0x2c ∷ (before ++ (next ++ more))) ++ tail)) ≡ (before ++ (first ++ [])) ++ 0x2c ∷ (before ++ (next ++ (more ++ tail)))
cut_comma before first next more tail =
    let rest = 0x2c ∷ (before ++ (next ++ (more ++ tail))) in
    ap (λ (ys : List ℕ). before ++ (first ++ (0x2c ∷ ys))) (append_assoc before (next ++ more) tail ∙ ap (λ (ys : List ℕ). before ++ ys) (append_assoc next more tail))
    ∙ sym (append_assoc before first rest)
    ∙ ap (λ (ys : List ℕ). (before ++ ys) ++ rest) (sym (append-nil first))

-- the split before a closing bracket
cut_close : (before first more tail last : List ℕ) → before ++ (first ++ (more ++ (tail ++ last))) ≡ (before ++ (first ++ (more ++ tail))) ++ last
cut_close before first more tail last =
    ap (λ (ys : List ℕ). before ++ (first ++ ys)) (sym (append_assoc more tail last))
    ∙ ap (λ (ys : List ℕ). before ++ ys) (sym (append_assoc first (more ++ tail) last))
    ∙ sym (append_assoc before (first ++ (more ++ tail)) last)

-- a value with whitespace around it
within : (t : Tree) (before value tail : List ℕ) → AreSpaces before → AreSpaces tail → SpellsValue t value → Padded (SpellsValue t) (before ++ (value ++ tail))
within t before value tail b a h = record { before = before; inner = value; after = tail; parts = refl; spaces_before = b; spaces_after = a; holds = h }

-- a member with whitespace around it
member_within : (k : List ℕ) (t : Tree) (before value tail : List ℕ) → AreSpaces before → AreSpaces tail → SpellsString k (quoted k) → SpellsValue t value → Pairs (SpellsString k) (SpellsValue t) (before ++ (pretty_pair k value ++ tail))
member_within k t before value tail b a key h =
    let rest = 0x3a ∷ 0x20 ∷ (value ++ tail) in (
      before ++ (quoted k ++ []),
      0x20 ∷ (value ++ tail),
      ap (λ (ys : List ℕ). before ++ ys) (append_assoc (quoted k) (0x3a ∷ 0x20 ∷ value) tail) ∙ sym (append_assoc before (quoted k) rest) ∙ ap (λ (ys : List ℕ). (before ++ ys) ++ rest) (sym (append-nil (quoted k))),
      record { before = before; inner = quoted k; after = []; parts = refl; spaces_before = b; spaces_after = tt; holds = key },
      within t (0x20 ∷ []) value tail (inl refl, tt) a h,
    )

-- The text of each part, at each level, spells it.
mutual
  pretty_spells : (level : ℕ) (t : Tree) → IsValidTree t → SpellsValue t (pretty_at level t)
  pretty_spells level null h = refl
  pretty_spells level (boolean true) h = refl
  pretty_spells level (boolean false) h = refl
  pretty_spells level (integer n) h = (h, integer_spells n h)
  pretty_spells level (decimal literal) h = (refl, h)
  pretty_spells level (string s) h = quoted_spells s h
  pretty_spells level (list no_items) h = ([], refl, tt)
  pretty_spells level (list (item t ts)) h =
      let before = line_break (suc level) in
      let first = pretty_at (suc level) t in
      let more = pretty_more_items (suc level) ts in
      (before ++ (first ++ (more ++ line_break level)), ap (λ (ys : List ℕ). 0x5b ∷ ys) (cut_close before first more (line_break level) (0x5d ∷ [])), items_spell (suc level) (line_break level) (break_spaces level) ts h.1 t first (pretty_spells (suc level) t h.0))
  pretty_spells level (object no_members) h = ([], refl, tt)
  pretty_spells level (object (member k t ms)) h =
      let before = line_break (suc level) in
      let first = pretty_pair k (pretty_at (suc level) t) in
      let more = pretty_more_members (suc level) ms in
      (before ++ (first ++ (more ++ line_break level)), ap (λ (ys : List ℕ). 0x7b ∷ ys) (cut_close before first more (line_break level) (0x7d ∷ [])), members_spell (suc level) (line_break level) (break_spaces level) ms h.2 k h.0 t (pretty_at (suc level) t) (pretty_spells (suc level) t h.1))

  -- an item and the further items, with whitespace after the last one
  items_spell : (level : ℕ) (tail : List ℕ) → AreSpaces tail → (ts : Items) → AreValidItems ts → (t : Tree) (first : List ℕ) → SpellsValue t first → Then (Padded (SpellsValue t)) (SpellsMoreItems ts) (line_break level ++ (first ++ (pretty_more_items level ts ++ tail)))
  items_spell level tail a no_items h t first k = (line_break level ++ (first ++ tail), [], sym (append-nil (line_break level ++ (first ++ tail))), within t (line_break level) first tail (break_spaces level) a k, refl)
  items_spell level tail a (item u us) h t first k =
      let next = items_spell level tail a us h.1 u (pretty_at level u) (pretty_spells level u h.0) in (
        line_break level ++ (first ++ []),
        0x2c ∷ (line_break level ++ (pretty_at level u ++ (pretty_more_items level us ++ tail))),
        cut_comma (line_break level) first (pretty_at level u) (pretty_more_items level us) tail,
        within t (line_break level) first [] (break_spaces level) tt k,
        (next.0, next.1, ap (λ (ys : List ℕ). 0x2c ∷ ys) next.2, next.3, next.4),
      )

  -- a member and the further members, likewise
  members_spell : (level : ℕ) (tail : List ℕ) → AreSpaces tail → (ms : Members) → AreValidMembers ms → (k : List ℕ) → IsUtf8 k → (t : Tree) (value : List ℕ) → SpellsValue t value → Then (Pairs (SpellsString k) (SpellsValue t)) (SpellsMoreMembers ms) (line_break level ++ (pretty_pair k value ++ (pretty_more_members level ms ++ tail)))
  members_spell level tail a no_members h k u t value v = (line_break level ++ (pretty_pair k value ++ tail), [], sym (append-nil (line_break level ++ (pretty_pair k value ++ tail))), member_within k t (line_break level) value tail (break_spaces level) a (quoted_spells k u) v, refl)
  members_spell level tail a (member l s ms) h k u t value v =
      let next = members_spell level tail a ms h.2 l h.0 s (pretty_at level s) (pretty_spells level s h.1) in (
        line_break level ++ (pretty_pair k value ++ []),
        0x2c ∷ (line_break level ++ (pretty_pair l (pretty_at level s) ++ (pretty_more_members level ms ++ tail))),
        cut_comma (line_break level) (pretty_pair k value) (pretty_pair l (pretty_at level s)) (pretty_more_members level ms) tail,
        member_within k t (line_break level) value [] (break_spaces level) tt (quoted_spells k u) v,
        (next.0, next.1, ap (λ (ys : List ℕ). 0x2c ∷ ys) next.2, next.3, next.4),
      )

-- An indented text spells its tree.
pub pretty_back : PrintsBack pretty
pretty_back t h = bare (SpellsValue t) (pretty t) (pretty_spells 0 t h)
