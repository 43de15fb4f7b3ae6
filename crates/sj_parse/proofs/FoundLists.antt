-- A list that was read is spelled by the bytes that it was read from.
use Rattle.std.proofs.Common.{◌≡◌, ℕ, zero, suc, ◌≤◌, true, List, [], ◌∷◌, ◌++◌, length, Ok, Err, refl, sym, ap, ◌∙◌, subst, inl, inr, arith}
use Rattle.std.specs.Prelude.{◌==◌, if◌then◌else◌}
use Rattle.std.proofs.lemmas.Bool.{eqb-true}
use Rattle.sj_scan.specs.Positions.{is_operator}
use Rattle.sj_parse.specs.declared.descent_fault.DescentKind.{DescentKind}
use Rattle.sj_parse.specs.declared.descent_fault.DescentKind.TheVariants.{InternalError, ExpectedArrayContent, ExpectedArrayComma}
use Rattle.sj_base.specs.Tree.{Tree, list, Items, no_items, item, depth, items_depth}
use Rattle.sj_base.specs.Spelling.{Padded, SpellsValue, SpellsMoreItems}
use Rattle.sj_parse.specs.Token.{Token}
use Rattle.sj_parse.specs.Escapes.{stop}
use Rattle.sj_parse.specs.Descent.{Left, left}
use Rattle.sj_parse.specs.inside.Trees.{Reading, with_rest, mapped, tree_of_item_end, tree_of_more_items, tree_of_items, tree_value}
use Rattle.sj_parse.proofs.Pieces.{clean}
use Rattle.sj_parse.proofs.FirstToken.{Good, Takes, operator_first}
use Rattle.sj_parse.proofs.Joined.{if_parts, on_token_parts, then_parts, read_parts, mapped_parts, InSpaces, ClosedBy, Sequence, takes_map, takes_empty, takes_sequence, padded_value}

-- What is read from a place on, where nothing is bad, is spelled there, within so many levels.
abbrev pub Finds : {A : Type 0} → (A → List ℕ → Type 0) → (A → ℕ) → ℕ → (List Token → Reading A) → Type 0
Finds {A} Spelled levels limit read = (bs : List ℕ) (n : ℕ) (ts : List Token) (x : A) (l : Left) → Good n bs → (clean n bs).tokens ≡ ts → read ts ≡ Ok (x, l) → Takes (Spelled x) bs l.tokens × (levels x ≤ limit)

abbrev pub FindsValue : ℕ → Type 0
FindsValue limit = (kind : DescentKind) (last : ℕ) → Finds SpellsValue depth limit (tree_value limit kind last)

-- what was read and what is left, by equations
pub found_as : {A : Type 0} (Spelled : A → List ℕ → Type 0) (levels : A → ℕ) (limit : ℕ) (bs : List ℕ) (x y : A) (k l : Left) → x ≡ y → k ≡ l → Takes (Spelled x) bs k.tokens → levels x ≤ limit → Takes (Spelled y) bs l.tokens × (levels y ≤ limit)
found_as Spelled levels limit bs x y k l e f h le =
    (subst (λ (v : Left). Takes (Spelled y) bs v.tokens) f (subst (λ z. Takes (Spelled z) bs k.tokens) e h), subst (λ z. levels z ≤ limit) e le)

-- the operator with this byte
pub operator_is : (c : ℕ) (u : Token) (us : List Token) (bs : List ℕ) (n : ℕ) → is_operator c ≡ true → (u.byte == c) ≡ true → Good n bs → (clean n bs).tokens ≡ u ∷ us → Takes (λ piece. piece ≡ c ∷ []) bs us
operator_is c u us bs n is e good found =
    let same = eqb-true u.byte c e in
    takes_map (λ piece. piece ≡ u.byte ∷ []) (λ piece. piece ≡ c ∷ []) bs us (λ piece q. q ∙ ap (λ x. x ∷ []) same) (operator_first u us (ap is_operator same ∙ is) bs n good found)

-- ---- lists

module _ (limit : ℕ) (finds : FindsValue limit) where
  abbrev MoreItems : ℕ → ℕ → Type 0
  MoreItems count last = Finds (λ xs. ClosedBy 0x5d (SpellsMoreItems xs)) items_depth limit (tree_of_more_items (tree_value limit) count last)

  -- an item and further ones, behind the byte before the item
  items_found : (opening : ℕ) (kind : DescentKind) (last count : ℕ) (bs : List ℕ) (us : List Token) (a : Takes (λ piece. piece ≡ opening ∷ []) bs us) (x : Tree) (k : Left) (xs : Items) (l : Left) → tree_value limit kind last us ≡ Ok (x, k) → tree_of_more_items (tree_value limit) count k.last k.tokens ≡ Ok (xs, l) → MoreItems count k.last → Takes (Sequence opening 0x5d (Padded (SpellsValue x)) (SpellsMoreItems xs)) bs l.tokens × (items_depth (item x xs) ≤ limit)
  items_found opening kind last count bs us a x k xs l e f more =
      let b = finds kind last a.rest a.end us x k a.good (sym a.left) e in
      let first = takes_map (SpellsValue x) (InSpaces (Padded (SpellsValue x))) a.rest k.tokens (padded_value x) b.0 in
      let d = more first.rest first.end k.tokens xs l first.good (sym first.left) f in
      let shallow = b.1 in
      let others = d.1 in
      (takes_sequence opening 0x5d (Padded (SpellsValue x)) (SpellsMoreItems xs) bs us k.tokens l.tokens a first d.0, omega arith)

  more_items_found : (count last : ℕ) → MoreItems count last
  more_items_found zero last bs n ts xs l good found e = absurd cc
  more_items_found (suc count) last bs n ts xs l good found e =
      let p = on_token_parts (tree_of_item_end (tree_value limit) (tree_of_more_items (tree_value limit) count)) last ts (xs, l) e in
      let u = p.0 in
      let us = p.1 in
      let more = λ (x : Tree) (place : ℕ) (others : List Token). mapped (item x) (tree_of_more_items (tree_value limit) count place others) in
      elim (if_parts (u.byte == 0x5d) (Ok (no_items, left u.place us)) (if u.byte == 0x2c then with_rest (tree_value limit InternalError u.place us) more else Err (stop ExpectedArrayComma u.place)) (xs, l) p.3) [
        | inl h ↦
            let r = read_parts (no_items, left u.place us) (xs, l) h.1 in
            let a = operator_is 0x5d u us bs n refl h.0 good (found ∙ p.2) in
            found_as (λ ys. ClosedBy 0x5d (SpellsMoreItems ys)) items_depth limit bs no_items xs (left u.place us) l r.0 r.1 (takes_map (λ piece. piece ≡ 0x5d ∷ []) (ClosedBy 0x5d (SpellsMoreItems no_items)) bs us (λ piece q. ([], q, refl)) a) (omega arith)
        | inr h ↦ elim (if_parts (u.byte == 0x2c) (with_rest (tree_value limit InternalError u.place us) more) (Err (stop ExpectedArrayComma u.place)) (xs, l) h.1) [
          | inl k ↦
              let a = operator_is 0x2c u us bs n refl k.0 good (found ∙ p.2) in
              let q = then_parts (tree_value limit InternalError u.place us) more (xs, l) k.1 in
              let m = mapped_parts (item q.0) (tree_of_more_items (tree_value limit) count q.1.last q.1.tokens) xs l q.3 in
              let s = items_found 0x2c InternalError u.place count bs us a q.0 q.1 m.0 l q.2 m.1 (more_items_found count q.1.last) in
              found_as (λ ys. ClosedBy 0x5d (SpellsMoreItems ys)) items_depth limit bs (item q.0 m.0) xs l l m.2 refl (takes_map (Sequence 0x2c 0x5d (Padded (SpellsValue q.0)) (SpellsMoreItems m.0)) (ClosedBy 0x5d (SpellsMoreItems (item q.0 m.0))) bs l.tokens (λ piece w. (0x2c ∷ (w.0 ++ w.1), w.2, (w.0, w.1, refl, w.3, w.4))) s.0) s.1
          | inr k ↦ absurd cc
        ]
      ]

  pub list_found : (bs : List ℕ) (u : Token) (us : List Token) (a : Takes (λ piece. piece ≡ 0x5b ∷ []) bs us) (t : Tree) (l : Left) → tree_of_items (tree_value limit) u us ≡ Ok (t, l) → Takes (SpellsValue t) bs l.tokens × (depth t ≤ suc limit)
  list_found bs u us a t l e =
      let more = λ (x : Tree) (place : ℕ) (rest : List Token). mapped (λ xs. list (item x xs)) (tree_of_more_items (tree_value limit) (length us) place rest) in
      let first = with_rest (tree_value limit ExpectedArrayContent u.place us) more in
      let p = on_token_parts (λ v vs. if v.byte == 0x5d then Ok (list no_items, left v.place vs) else first) u.place us (t, l) e in
      let v = p.0 in
      let vs = p.1 in
      elim (if_parts (v.byte == 0x5d) (Ok (list no_items, left v.place vs)) first (t, l) p.3) [
        | inl h ↦
            let r = read_parts (list no_items, left v.place vs) (t, l) h.1 in
            let b = operator_is 0x5d v vs a.rest a.end refl h.0 a.good (sym a.left ∙ p.2) in
            found_as SpellsValue depth (suc limit) bs (list no_items) t (left v.place vs) l r.0 r.1 (takes_empty 0x5b 0x5d bs us vs a b) (omega arith)
        | inr h ↦
            let q = then_parts (tree_value limit ExpectedArrayContent u.place us) more (t, l) h.1 in
            let m = mapped_parts (λ xs. list (item q.0 xs)) (tree_of_more_items (tree_value limit) (length us) q.1.last q.1.tokens) t l q.3 in
            let s = items_found 0x5b ExpectedArrayContent u.place (length us) bs us a q.0 q.1 m.0 l q.2 m.1 (more_items_found (length us) q.1.last) in
            let shallow = s.1 in
            found_as SpellsValue depth (suc limit) bs (list (item q.0 m.0)) t l l m.2 refl (takes_map (Sequence 0x5b 0x5d (Padded (SpellsValue q.0)) (SpellsMoreItems m.0)) (SpellsValue (list (item q.0 m.0))) bs l.tokens (λ piece w. (w.0 ++ w.1, w.2, (w.0, w.1, refl, w.3, w.4))) s.0) (omega arith)
      ]
