-- A value that was read is spelled by the bytes that it was read from, within the limit of levels.
use Rattle.std.proofs.Common.{◌≡◌, ℕ, zero, suc, ◌≤◌, true, ◌||◌, List, [], ◌∷◌, Ok, Err, refl, sym, ap, ◌∙◌, inl, inr, arith}
use Rattle.std.specs.Prelude.{◌==◌, if◌then◌else◌}
use Rattle.std.proofs.lemmas.Bool.{cases_Bool, or_right}
use Rattle.sj_scan.specs.Positions.{is_whitespace, is_operator}
use Rattle.sj_parse.specs.declared.descent_fault.DescentKind.{DescentKind}
use Rattle.sj_base.specs.Tree.{Tree, depth}
use Rattle.sj_base.specs.Spelling.{AreSpaces, SpellsValue}
use Rattle.sj_parse.specs.Token.{Token}
use Rattle.sj_parse.specs.Escapes.{stop}
use Rattle.sj_parse.specs.Descent.{Left, left, scalar_stop, begins_scalar}
use Rattle.sj_parse.specs.inside.Trees.{Reading, on_token, judged, token_tree, tree_of_value, tree_of_items, tree_of_members, no_tree, tree_value}
use Rattle.sj_parse.proofs.Pieces.{clean, IsSpace-from_test, space_step}
use Rattle.sj_parse.proofs.FirstToken.{Takes}
use Rattle.sj_parse.proofs.FoundScalars.{token_depth, scalar_first}
use Rattle.sj_parse.proofs.FoundLists.{Finds, FindsValue, found_as, operator_is, list_found}
use Rattle.sj_parse.proofs.FoundObjects.{object_found}
use Rattle.sj_parse.proofs.Joined.{if_parts, on_token_parts, judged_parts}

-- what a reader behind an opening byte finds
abbrev FindsBehind : ℕ → ℕ → (Token → List Token → Reading Tree) → Type 0
FindsBehind opening limit read = (bs : List ℕ) (u : Token) (us : List Token) (a : Takes (λ piece. piece ≡ opening ∷ []) bs us) (t : Tree) (l : Left) → read u us ≡ Ok (t, l) → Takes (SpellsValue t) bs l.tokens × (depth t ≤ limit)

value_found : (limit : ℕ) (items members : Token → List Token → Reading Tree) → FindsBehind 0x5b limit items → FindsBehind 0x7b limit members → (kind : DescentKind) (last : ℕ) → Finds SpellsValue depth limit (on_token (tree_of_value items members kind) last)
value_found limit items members lists objects kind last bs n ts t l good found e =
    let p = on_token_parts (tree_of_value items members kind) last ts (t, l) e in
    let u = p.0 in
    let us = p.1 in
    let first = found ∙ p.2 in
    let scalar = judged (scalar_stop u) (token_tree u) (left u.place us) in
    let none : Reading Tree = Err (stop kind u.place) in
    elim (if_parts (u.byte == 0x5b) (items u us) (if u.byte == 0x7b then members u us else (if begins_scalar u.byte then scalar else none)) (t, l) p.3) [
      | inl h ↦ lists bs u us (operator_is 0x5b u us bs n refl h.0 good first) t l h.1
      | inr h ↦ elim (if_parts (u.byte == 0x7b) (members u us) (if begins_scalar u.byte then scalar else none) (t, l) h.1) [
        | inl k ↦ objects bs u us (operator_is 0x7b u us bs n refl k.0 good first) t l k.1
        | inr k ↦ elim (if_parts (begins_scalar u.byte) scalar none (t, l) k.1) [
          | inl s ↦
              let j = judged_parts (scalar_stop u) (token_tree u) t (left u.place us) l s.1 in
              let flat = token_depth u in
              found_as SpellsValue depth limit bs (token_tree u) t (left u.place us) l j.1 j.2 (scalar_first u us s.0 bs n good first j.0) (omega arith)
          | inr s ↦ absurd cc
        ]
      ]
    ]

pub find_value : (limit : ℕ) → FindsValue limit
unfolding tree_value
find_value zero kind last = value_found zero no_tree no_tree (λ bs u us a t l e. absurd cc) (λ bs u us a t l e. absurd cc) kind last
find_value (suc limit) kind last =
    value_found (suc limit) (tree_of_items (tree_value limit)) (tree_of_members (tree_value limit)) (list_found limit (find_value limit)) (object_found limit (find_value limit)) kind last

-- where no token is left, nothing but whitespace is
pub no_tokens : (bs : List ℕ) (n : ℕ) → (clean n bs).tokens ≡ [] → AreSpaces bs
no_tokens [] n e = tt
no_tokens (b ∷ bs) n e = elim (cases_Bool (is_whitespace b)) [
  | inl h ↦ let space = IsSpace-from_test b h in (space, no_tokens bs (suc n) (sym (ap (λ w. w.tokens) (space_step true n b bs space)) ∙ e))
  | inr h ↦
      let any = or_right (is_operator b || b == 0x22) true refl in
      let begun = rw (h, any) at e in
      absurd cc
]
