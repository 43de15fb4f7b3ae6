-- What spells a tree within a limit of levels is read as this tree.
use Rattle.std.proofs.Common.{◌≡◌, ℕ, zero, suc, ◌≤◌, List, [], ◌∷◌, ◌++◌, refl, arith}
use Rattle.sj_base.specs.Tree.{Tree, null, boolean, integer, decimal, string, list, object, Items, no_items, item, Members, no_members, member, depth, items_depth, members_depth}
use Rattle.sj_base.specs.Spelling.{SpellsValue, SpellsItems, SpellsMoreItems, SpellsMembers, SpellsMoreMembers}
use Rattle.sj_parse.proofs.Pieces.{Ends}
use Rattle.sj_parse.proofs.ReadingValues.{ReadsValue, reads_scalar, reads_padded}
use Rattle.sj_parse.proofs.ReadingLists.{ReadsMore, more_none, more_item, list_none, list_some}
use Rattle.sj_parse.proofs.ReadingObjects.{ReadsMoreMembers, reads_pairs, more_members_none, more_members_some, object_none, object_some}

-- what stands behind an item or a member ends its last token
items_end : (ts : Items) (bs rest : List ℕ) → SpellsMoreItems ts bs → Ends (bs ++ 0x5d ∷ rest)
items_end no_items bs rest h = rw h refl
items_end (item t ts) bs rest h = let e = h.2 in rw e refl

members_end : (ms : Members) (bs rest : List ℕ) → SpellsMoreMembers ms bs → Ends (bs ++ 0x7d ∷ rest)
members_end no_members bs rest h = rw h refl
members_end (member k t ms) bs rest h = let e = h.2 in rw e refl

mutual
  pub reads_value : (t : Tree) (limit : ℕ) (bs : List ℕ) → SpellsValue t bs → depth t ≤ limit → ReadsValue limit t bs
  reads_value null limit bs h le = reads_scalar limit null bs tt h
  reads_value (boolean b) limit bs h le = reads_scalar limit (boolean b) bs tt h
  reads_value (integer i) limit bs h le = reads_scalar limit (integer i) bs tt h
  reads_value (decimal literal) limit bs h le = reads_scalar limit (decimal literal) bs tt h
  reads_value (string s) limit bs h le = reads_scalar limit (string s) bs tt h
  reads_value (list ts) zero bs h le = absurd (omega arith)
  reads_value (list ts) (suc limit) bs h le = reads_list ts limit bs h.0 h.1 h.2 (omega arith)
  reads_value (object ms) zero bs h le = absurd (omega arith)
  reads_value (object ms) (suc limit) bs h le = reads_object ms limit bs h.0 h.1 h.2 (omega arith)

  reads_list : (ts : Items) (limit : ℕ) (bs inner : List ℕ) → bs ≡ 0x5b ∷ (inner ++ 0x5d ∷ []) → SpellsItems ts inner → items_depth ts ≤ limit → ReadsValue (suc limit) (list ts) bs
  reads_list no_items limit bs inner e h le = list_none limit bs inner e h
  reads_list (item t ts) limit bs inner e h le =
      list_some limit t ts bs inner h.0 h.1 e h.2 (λ rest. items_end ts h.1 rest h.4) (reads_padded limit t h.0 h.3 (reads_value t limit h.3.inner h.3.holds (omega arith))) (reads_more_items ts limit h.1 h.4 (omega arith))

  reads_more_items : (ts : Items) (limit : ℕ) (bs : List ℕ) → SpellsMoreItems ts bs → items_depth ts ≤ limit → ReadsMore limit ts bs
  reads_more_items no_items limit bs h le = more_none limit bs h
  reads_more_items (item t ts) limit bs h le =
      more_item limit t ts bs h.0 h.1 h.2 (λ rest. items_end ts h.1 rest h.4) (reads_padded limit t h.0 h.3 (reads_value t limit h.3.inner h.3.holds (omega arith))) (reads_more_items ts limit h.1 h.4 (omega arith))

  reads_object : (ms : Members) (limit : ℕ) (bs inner : List ℕ) → bs ≡ 0x7b ∷ (inner ++ 0x7d ∷ []) → SpellsMembers ms inner → members_depth ms ≤ limit → ReadsValue (suc limit) (object ms) bs
  reads_object no_members limit bs inner e h le = object_none limit bs inner e h
  reads_object (member k t ms) limit bs inner e h le =
      object_some limit k t ms bs inner h.0 h.1 e h.2 (λ rest. members_end ms h.1 rest h.4) (reads_pairs limit k t h.0 h.3 (reads_padded limit t h.3.1 h.3.4 (reads_value t limit h.3.4.inner h.3.4.holds (omega arith)))) (reads_more_members ms limit h.1 h.4 (omega arith))

  reads_more_members : (ms : Members) (limit : ℕ) (bs : List ℕ) → SpellsMoreMembers ms bs → members_depth ms ≤ limit → ReadsMoreMembers limit ms bs
  reads_more_members no_members limit bs h le = more_members_none limit bs h
  reads_more_members (member k t ms) limit bs h le =
      more_members_some limit k t ms bs h.0 h.1 h.2 (λ rest. members_end ms h.1 rest h.4) (reads_pairs limit k t h.0 h.3 (reads_padded limit t h.3.1 h.3.4 (reads_value t limit h.3.4.inner h.3.4.holds (omega arith)))) (reads_more_members ms limit h.1 h.4 (omega arith))
