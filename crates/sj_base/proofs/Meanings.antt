-- No bytes spell two trees.
use Rattle.std.specs.Prelude.{◌≡◌, ℕ, true, false, List, [], ◌∷◌, ◌++◌}
use Rattle.std.proofs.Common.{refl, sym, ap, ◌∙◌, subst, arith}
use Rattle.sj_base.specs.Tree.{Tree, null, boolean, integer, decimal, string, list, object, Items, no_items, item, Members, no_members, member}
use Rattle.sj_base.specs.Spelling.{IsSpace, AreSpaces, Padded, SpellsString, Pairs, SpellsValue, SpellsItems, SpellsMoreItems, SpellsMembers, SpellsMoreMembers}
use Rattle.sj_base.specs.Laws.{OneMeaning}
use Rattle.sj_base.proofs.Fronts.{cons_parts, same_front}
use Rattle.sj_base.proofs.Cuts.{kind_of, kind_at, no_space, Stops, stops_at, Cuts, padded_cuts, pairs_cuts, then_cuts, comma_cuts, Begins, padded_begins, pairs_begin, no_first}
use Rattle.sj_base.proofs.Values.{value_opens, string_opens, CutsValue, null_cuts, true_cuts, false_cuts, integer_cuts, decimal_cuts, string_cuts, key_cuts, Before, list_cuts, object_cuts}

-- Further items end the value before them.
items_stop : (ts : Items) (f r : List ℕ) → SpellsMoreItems ts f → Before 0x5d r → Stops (f ++ r)
items_stop no_items f r h b = subst Stops (sym (ap (λ (ys : List ℕ). ys ++ r) h ∙ b.1)) (stops_at 0x5d b.0 refl)
items_stop (item t ts) f r h b = subst (λ (ys : List ℕ). Stops (ys ++ r)) (sym h.2) (stops_at 0x2c ((h.0 ++ h.1) ++ r) refl)

-- So do further members.
members_stop : (ms : Members) (f r : List ℕ) → SpellsMoreMembers ms f → Before 0x7d r → Stops (f ++ r)
members_stop no_members f r h b = subst Stops (sym (ap (λ (ys : List ℕ). ys ++ r) h ∙ b.1)) (stops_at 0x7d b.0 refl)
members_stop (member k t ms) f r h b = subst (λ (ys : List ℕ). Stops (ys ++ r)) (sym h.2) (stops_at 0x2c ((h.0 ++ h.1) ++ r) refl)

-- Where there is a comma, there is a further element.
no_more : (close : ℕ) (f g r q others : List ℕ) → f ≡ [] → g ≡ 0x2c ∷ others → r ≡ close ∷ q → (rest : List ℕ) → f ++ r ≡ g ++ rest → close ≡ 0x2c
no_more close f g r q others h k c rest e = (cons_parts (sym (ap (λ (ys : List ℕ). ys ++ r) h ∙ c) ∙ e ∙ ap (λ (ys : List ℕ). ys ++ rest) k)).0

-- an item with whitespace around it
abbrev IsItem : Tree → List ℕ → Type 0
IsItem t bs = Padded (SpellsValue t) bs

-- a member with whitespace around its key and around its value
abbrev IsMember : List ℕ × Tree → List ℕ → Type 0
IsMember p bs = Pairs (SpellsString p.0) (SpellsValue p.1) bs

-- The split after an item is unique.
item_cuts : (t : Tree) → CutsValue t → Cuts IsItem Stops t
item_cuts t cuts = padded_cuts SpellsValue t value_opens cuts

-- So is the split after a member.
member_cuts : (k : List ℕ) (t : Tree) → CutsValue t → Cuts IsMember Stops (k, t)
member_cuts k t cuts = pairs_cuts SpellsString SpellsValue k t string_opens value_opens (key_cuts k) cuts

-- an item begins with a value
item_begins : (t : Tree) → Begins (IsItem t)
item_begins t = padded_begins SpellsValue t value_opens

-- a member begins with its key
member_begins : (k : List ℕ) (t : Tree) → Begins (Pairs (SpellsString k) (SpellsValue t))
member_begins k t = pairs_begin SpellsString SpellsValue k t string_opens

-- whitespace alone before a closing bracket
same_rest : (close : ℕ) (f g r q : List ℕ) → kind_of close ≡ 8 → AreSpaces f → AreSpaces g → Before close r → Before close q → f ++ r ≡ g ++ q → r ≡ q
same_rest close f g r q c h k m n e =
    let left = ap kind_at m.1 ∙ c in
    let right = ap kind_at n.1 ∙ c in
    (same_front IsSpace f g r q h k (no_space r (omega arith)) (no_space q (omega arith)) e).1

-- no item
no_items_cuts : Cuts SpellsItems (Before 0x5d) no_items
no_items_cuts no_items f g r q h k m n e = (refl, same_rest 0x5d f g r q refl h k m n e)
no_items_cuts (item t ts) f g r q h k m n e = absurd (no_first (IsItem t) (SpellsMoreItems ts) f g r q (item_begins t) h (ap kind_at m.1) k e)

-- no member
no_members_cuts : Cuts SpellsMembers (Before 0x7d) no_members
no_members_cuts no_members f g r q h k m n e = (refl, same_rest 0x7d f g r q refl h k m n e)
no_members_cuts (member l t ts) f g r q h k m n e = absurd (no_first (Pairs (SpellsString l) (SpellsValue t)) (SpellsMoreMembers ts) f g r q (member_begins l t) h (ap kind_at m.1) k e)

-- a first item, and further ones
some_items_cuts : (s : Tree) (ss : Items) → CutsValue s → Cuts SpellsMoreItems (Before 0x5d) ss → Cuts SpellsItems (Before 0x5d) (item s ss)
some_items_cuts s ss cuts more no_items f g r q h k m n e = absurd (no_first (IsItem s) (SpellsMoreItems ss) g f q r (item_begins s) k (ap kind_at n.1) h (sym e))
some_items_cuts s ss cuts more (item t ts) f g r q h k m n e =
    let p = then_cuts IsItem SpellsMoreItems (Before 0x5d) s ss items_stop (item_cuts s cuts) more (t, ts) f g r q h k m n e in
    (ap (λ x. item x.0 x.1) p.0, p.1)

-- a first member, and further ones
some_members_cuts : (l : List ℕ) (s : Tree) (ss : Members) → CutsValue s → Cuts SpellsMoreMembers (Before 0x7d) ss → Cuts SpellsMembers (Before 0x7d) (member l s ss)
some_members_cuts l s ss cuts more no_members f g r q h k m n e = absurd (no_first (Pairs (SpellsString l) (SpellsValue s)) (SpellsMoreMembers ss) g f q r (member_begins l s) k (ap kind_at n.1) h (sym e))
some_members_cuts l s ss cuts more (member j t ts) f g r q h k m n e =
    let p = then_cuts IsMember SpellsMoreMembers (Before 0x7d) (l, s) ss members_stop (member_cuts l s cuts) more ((j, t), ts) f g r q h k m n e in
    (ap (λ x. member x.0.0 x.0.1 x.1) p.0, p.1)

-- no further item
no_more_items_cuts : Cuts SpellsMoreItems (Before 0x5d) no_items
no_more_items_cuts no_items f g r q h k m n e = (refl, ap (λ (ys : List ℕ). ys ++ r) (sym h) ∙ e ∙ ap (λ (ys : List ℕ). ys ++ q) k)
no_more_items_cuts (item t ts) f g r q h k m n e = let c = no_more 0x5d f g r m.0 (k.0 ++ k.1) h k.2 m.1 q e in absurd (omega arith)

-- no further member
no_more_members_cuts : Cuts SpellsMoreMembers (Before 0x7d) no_members
no_more_members_cuts no_members f g r q h k m n e = (refl, ap (λ (ys : List ℕ). ys ++ r) (sym h) ∙ e ∙ ap (λ (ys : List ℕ). ys ++ q) k)
no_more_members_cuts (member l t ts) f g r q h k m n e = let c = no_more 0x7d f g r m.0 (k.0 ++ k.1) h k.2 m.1 q e in absurd (omega arith)

-- one item more
more_items_cuts : (s : Tree) (ss : Items) → CutsValue s → Cuts SpellsMoreItems (Before 0x5d) ss → Cuts SpellsMoreItems (Before 0x5d) (item s ss)
more_items_cuts s ss cuts more no_items f g r q h k m n e = let c = no_more 0x5d g f q n.0 (h.0 ++ h.1) k h.2 n.1 r (sym e) in absurd (omega arith)
more_items_cuts s ss cuts more (item t ts) f g r q h k m n e =
    let p = comma_cuts IsItem SpellsMoreItems (Before 0x5d) s ss items_stop (item_cuts s cuts) more (t, ts) f g r q h k m n e in
    (ap (λ x. item x.0 x.1) p.0, p.1)

-- one member more
more_members_cuts : (l : List ℕ) (s : Tree) (ss : Members) → CutsValue s → Cuts SpellsMoreMembers (Before 0x7d) ss → Cuts SpellsMoreMembers (Before 0x7d) (member l s ss)
more_members_cuts l s ss cuts more no_members f g r q h k m n e = let c = no_more 0x7d g f q n.0 (h.0 ++ h.1) k h.2 n.1 r (sym e) in absurd (omega arith)
more_members_cuts l s ss cuts more (member j t ts) f g r q h k m n e =
    let p = comma_cuts IsMember SpellsMoreMembers (Before 0x7d) (l, s) ss members_stop (member_cuts l s cuts) more ((j, t), ts) f g r q h k m n e in
    (ap (λ x. member x.0.0 x.0.1 x.1) p.0, p.1)

-- The split after each value is unique, and the value has one tree.
mutual
  value_cuts : (t : Tree) → CutsValue t
  value_cuts null = null_cuts
  value_cuts (boolean true) = true_cuts
  value_cuts (boolean false) = false_cuts
  value_cuts (integer n) = integer_cuts n
  value_cuts (decimal literal) = decimal_cuts literal
  value_cuts (string s) = string_cuts s
  value_cuts (list ts) = list_cuts ts (items_cuts ts)
  value_cuts (object ms) = object_cuts ms (members_cuts ms)

  items_cuts : (ts : Items) → Cuts SpellsItems (Before 0x5d) ts
  items_cuts no_items = no_items_cuts
  items_cuts (item t ts) = some_items_cuts t ts (value_cuts t) (further_items_cuts ts)

  further_items_cuts : (ts : Items) → Cuts SpellsMoreItems (Before 0x5d) ts
  further_items_cuts no_items = no_more_items_cuts
  further_items_cuts (item t ts) = more_items_cuts t ts (value_cuts t) (further_items_cuts ts)

  members_cuts : (ms : Members) → Cuts SpellsMembers (Before 0x7d) ms
  members_cuts no_members = no_members_cuts
  members_cuts (member k t ms) = some_members_cuts k t ms (value_cuts t) (further_members_cuts ms)

  further_members_cuts : (ms : Members) → Cuts SpellsMoreMembers (Before 0x7d) ms
  further_members_cuts no_members = no_more_members_cuts
  further_members_cuts (member k t ms) = more_members_cuts k t ms (value_cuts t) (further_members_cuts ms)

-- The whole text has no rest.
pub same_tree : OneMeaning
same_tree bytes s t h k = (item_cuts s (value_cuts s) t bytes bytes [] [] h k (record { no_space = tt; no_number = tt }) (record { no_space = tt; no_number = tt }) refl).0
