-- An object that was read is spelled by the bytes that it was read from.
use Rattle.std.proofs.Common.{◌≡◌, ℕ, zero, suc, ◌≤◌, true, List, [], ◌∷◌, ◌++◌, length, None, Ok, Err, refl, sym, ap, ap₂, ◌∙◌, inl, inr, arith}
use Rattle.std.specs.Prelude.{◌==◌, if◌then◌else◌}
use Rattle.std.proofs.lemmas.Bool.{eqb-true}
use Rattle.sj_parse.specs.declared.descent_fault.DescentKind.{DescentKind}
use Rattle.sj_parse.specs.declared.descent_fault.DescentKind.TheVariants.{InternalError, ExpectedObjectContent, ExpectedObjectKey, ExpectedObjectColon, ExpectedMapComma}
use Rattle.sj_base.specs.Tree.{Tree, object, Members, no_members, member, depth, members_depth}
use Rattle.sj_base.specs.Spelling.{Pairs, SpellsString, SpellsValue, SpellsMoreMembers}
use Rattle.sj_parse.specs.Token.{Token}
use Rattle.sj_parse.specs.Escapes.{stop, bad_escape}
use Rattle.sj_parse.specs.Descent.{Left, left, scalar_stop}
use Rattle.sj_parse.specs.inside.Decoded.{decoded}
use Rattle.sj_parse.specs.inside.Trees.{Reading, with_rest, mapped, on_token, judged, tree_of_member, tree_of_expected_member, tree_of_member_end, tree_of_more_members, tree_of_members, tree_value}
use Rattle.sj_parse.proofs.Pieces.{clean}
use Rattle.sj_parse.proofs.FirstToken.{Good, Takes, string_first}
use Rattle.sj_parse.proofs.FoundLists.{Finds, FindsValue, found_as, operator_is}
use Rattle.sj_parse.proofs.Joined.{if_parts, on_token_parts, then_parts, read_parts, mapped_parts, judged_parts, InSpaces, ClosedBy, Sequence, takes_map, takes_empty, takes_sequence, takes_pair}

module _ (limit : ℕ) (finds : FindsValue limit) where
  -- a key and its value
  abbrev SpellsMember : List ℕ × Tree → List ℕ → Type 0
  SpellsMember m = InSpaces (Pairs (SpellsString m.0) (SpellsValue m.1))

  abbrev member_depth : List ℕ × Tree → ℕ
  member_depth m = depth m.1

  abbrev FindsMember : DescentKind → ℕ → Type 0
  FindsMember kind last = Finds SpellsMember member_depth limit (on_token (tree_of_expected_member (tree_value limit) kind) last)

  -- behind a key
  abbrev behind_key : List ℕ → ℕ → List Token → Reading (List ℕ × Tree)
  behind_key k last ts = on_token (λ t others. if t.byte == 0x3a then mapped (λ x. (k, x)) (tree_value limit InternalError t.place others) else Err (stop ExpectedObjectColon t.place)) last ts

  colon_found : (bs k : List ℕ) (last : ℕ) (us : List Token) (a : Takes (SpellsString k) bs us) (m : List ℕ × Tree) (l : Left) → behind_key k last us ≡ Ok (m, l) → Takes (SpellsMember m) bs l.tokens × (member_depth m ≤ limit)
  colon_found bs k last us a m l e =
      let pair : Tree → List ℕ × Tree = λ x. (k, x) in
      let p = on_token_parts (λ t others. if t.byte == 0x3a then mapped pair (tree_value limit InternalError t.place others) else Err (stop ExpectedObjectColon t.place)) last us (m, l) e in
      let v = p.0 in
      let vs = p.1 in
      elim (if_parts (v.byte == 0x3a) (mapped pair (tree_value limit InternalError v.place vs)) (Err (stop ExpectedObjectColon v.place)) (m, l) p.3) [
        | inl h ↦
            let b = operator_is 0x3a v vs a.rest a.end refl h.0 a.good (sym a.left ∙ p.2) in
            let q = mapped_parts pair (tree_value limit InternalError v.place vs) m l h.1 in
            let d = finds InternalError v.place b.rest b.end vs q.0 l b.good (sym b.left) q.1 in
            found_as SpellsMember member_depth limit bs (k, q.0) m l l q.2 refl (takes_pair k q.0 bs us vs l.tokens a b d.0) d.1
        | inr h ↦ absurd cc
      ]

  key_found : (u : Token) (us : List Token) (bs : List ℕ) (n : ℕ) (m : List ℕ × Tree) (l : Left) → Good n bs → (clean n bs).tokens ≡ u ∷ us → (u.byte == 0x22) ≡ true → tree_of_member (tree_value limit) u us ≡ Ok (m, l) → Takes (SpellsMember m) bs l.tokens × (member_depth m ≤ limit)
  key_found u us bs n m l good found quote e =
      let q = then_parts (judged (scalar_stop u) (decoded u.text) (left u.place us)) behind_key (m, l) e in
      let j = judged_parts (scalar_stop u) (decoded u.text) q.0 (left u.place us) q.1 q.2 in
      let text : bad_escape (suc u.place) u.text ≡ None = rw quote at j.0 in
      let a = string_first u us (eqb-true u.byte 0x22 quote) text bs n good found in
      colon_found bs (decoded u.text) u.place us a m l (ap₂ (λ k (x : Left). behind_key k x.last x.tokens) j.1 j.2 ∙ q.3)

  member_found : (kind : DescentKind) (last : ℕ) → FindsMember kind last
  member_found kind last bs n ts m l good found e =
      let p = on_token_parts (tree_of_expected_member (tree_value limit) kind) last ts (m, l) e in
      let u = p.0 in
      let us = p.1 in
      elim (if_parts (u.byte == 0x22) (tree_of_member (tree_value limit) u us) (Err (stop kind u.place)) (m, l) p.3) [
        | inl h ↦ key_found u us bs n m l good (found ∙ p.2) h.0 h.1
        | inr h ↦ absurd cc
      ]

  abbrev MoreMembers : ℕ → ℕ → Type 0
  MoreMembers count last = Finds (λ ms. ClosedBy 0x7d (SpellsMoreMembers ms)) members_depth limit (tree_of_more_members (tree_value limit) count last)

  -- a member and further ones, behind the byte before the member
  members_found : (opening : ℕ) (kind : DescentKind) (last count : ℕ) (bs : List ℕ) (us : List Token) (a : Takes (λ piece. piece ≡ opening ∷ []) bs us) (m : List ℕ × Tree) (k : Left) (ms : Members) (l : Left) → on_token (tree_of_expected_member (tree_value limit) kind) last us ≡ Ok (m, k) → tree_of_more_members (tree_value limit) count k.last k.tokens ≡ Ok (ms, l) → MoreMembers count k.last → Takes (Sequence opening 0x7d (Pairs (SpellsString m.0) (SpellsValue m.1)) (SpellsMoreMembers ms)) bs l.tokens × (members_depth (member m.0 m.1 ms) ≤ limit)
  members_found opening kind last count bs us a m k ms l e f more =
      let b = member_found kind last a.rest a.end us m k a.good (sym a.left) e in
      let first = b.0 in
      let d = more first.rest first.end k.tokens ms l first.good (sym first.left) f in
      let shallow = b.1 in
      let others = d.1 in
      (takes_sequence opening 0x7d (Pairs (SpellsString m.0) (SpellsValue m.1)) (SpellsMoreMembers ms) bs us k.tokens l.tokens a first d.0, omega arith)

  more_members_found : (count last : ℕ) → MoreMembers count last
  more_members_found zero last bs n ts ms l good found e = absurd cc
  more_members_found (suc count) last bs n ts ms l good found e =
      let p = on_token_parts (tree_of_member_end (tree_value limit) (tree_of_more_members (tree_value limit) count)) last ts (ms, l) e in
      let u = p.0 in
      let us = p.1 in
      let more = λ (m : List ℕ × Tree) (place : ℕ) (others : List Token). mapped (member m.0 m.1) (tree_of_more_members (tree_value limit) count place others) in
      let first = on_token (tree_of_expected_member (tree_value limit) ExpectedObjectKey) u.place us in
      elim (if_parts (u.byte == 0x7d) (Ok (no_members, left u.place us)) (if u.byte == 0x2c then with_rest first more else Err (stop ExpectedMapComma u.place)) (ms, l) p.3) [
        | inl h ↦
            let r = read_parts (no_members, left u.place us) (ms, l) h.1 in
            let a = operator_is 0x7d u us bs n refl h.0 good (found ∙ p.2) in
            found_as (λ xs. ClosedBy 0x7d (SpellsMoreMembers xs)) members_depth limit bs no_members ms (left u.place us) l r.0 r.1 (takes_map (λ piece. piece ≡ 0x7d ∷ []) (ClosedBy 0x7d (SpellsMoreMembers no_members)) bs us (λ piece q. ([], q, refl)) a) (omega arith)
        | inr h ↦ elim (if_parts (u.byte == 0x2c) (with_rest first more) (Err (stop ExpectedMapComma u.place)) (ms, l) h.1) [
          | inl k ↦
              let a = operator_is 0x2c u us bs n refl k.0 good (found ∙ p.2) in
              let q = then_parts first more (ms, l) k.1 in
              let m = mapped_parts (member q.0.0 q.0.1) (tree_of_more_members (tree_value limit) count q.1.last q.1.tokens) ms l q.3 in
              let s = members_found 0x2c ExpectedObjectKey u.place count bs us a q.0 q.1 m.0 l q.2 m.1 (more_members_found count q.1.last) in
              found_as (λ xs. ClosedBy 0x7d (SpellsMoreMembers xs)) members_depth limit bs (member q.0.0 q.0.1 m.0) ms l l m.2 refl (takes_map (Sequence 0x2c 0x7d (Pairs (SpellsString q.0.0) (SpellsValue q.0.1)) (SpellsMoreMembers m.0)) (ClosedBy 0x7d (SpellsMoreMembers (member q.0.0 q.0.1 m.0))) bs l.tokens (λ piece w. (0x2c ∷ (w.0 ++ w.1), w.2, (w.0, w.1, refl, w.3, w.4))) s.0) s.1
          | inr k ↦ absurd cc
        ]
      ]

  pub object_found : (bs : List ℕ) (u : Token) (us : List Token) (a : Takes (λ piece. piece ≡ 0x7b ∷ []) bs us) (t : Tree) (l : Left) → tree_of_members (tree_value limit) u us ≡ Ok (t, l) → Takes (SpellsValue t) bs l.tokens × (depth t ≤ suc limit)
  object_found bs u us a t l e =
      let more = λ (m : List ℕ × Tree) (place : ℕ) (rest : List Token). mapped (λ ms. object (member m.0 m.1 ms)) (tree_of_more_members (tree_value limit) (length us) place rest) in
      let p = on_token_parts (λ v vs. if v.byte == 0x7d then Ok (object no_members, left v.place vs) else with_rest (tree_of_expected_member (tree_value limit) ExpectedObjectContent v vs) more) u.place us (t, l) e in
      let v = p.0 in
      let vs = p.1 in
      let first = tree_of_expected_member (tree_value limit) ExpectedObjectContent v vs in
      elim (if_parts (v.byte == 0x7d) (Ok (object no_members, left v.place vs)) (with_rest first more) (t, l) p.3) [
        | inl h ↦
            let r = read_parts (object no_members, left v.place vs) (t, l) h.1 in
            let b = operator_is 0x7d v vs a.rest a.end refl h.0 a.good (sym a.left ∙ p.2) in
            found_as SpellsValue depth (suc limit) bs (object no_members) t (left v.place vs) l r.0 r.1 (takes_empty 0x7b 0x7d bs us vs a b) (omega arith)
        | inr h ↦
            let q = then_parts first more (t, l) h.1 in
            let m = mapped_parts (λ ms. object (member q.0.0 q.0.1 ms)) (tree_of_more_members (tree_value limit) (length us) q.1.last q.1.tokens) t l q.3 in
            let read = ap (λ ws. on_token (tree_of_expected_member (tree_value limit) ExpectedObjectContent) u.place ws) p.2 ∙ q.2 in
            let s = members_found 0x7b ExpectedObjectContent u.place (length us) bs us a q.0 q.1 m.0 l read m.1 (more_members_found (length us) q.1.last) in
            let shallow = s.1 in
            found_as SpellsValue depth (suc limit) bs (object (member q.0.0 q.0.1 m.0)) t l l m.2 refl (takes_map (Sequence 0x7b 0x7d (Pairs (SpellsString q.0.0) (SpellsValue q.0.1)) (SpellsMoreMembers m.0)) (SpellsValue (object (member q.0.0 q.0.1 m.0))) bs l.tokens (λ piece w. (w.0 ++ w.1, w.2, (w.0, w.1, refl, w.3, w.4))) s.0) (omega arith)
      ]
