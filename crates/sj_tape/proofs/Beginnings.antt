-- Each entry of a listing begins the listing of a tree: of a part, or of a key as a string.
use Rattle.std.proofs.Common.{◌≡◌, ℕ, zero, suc, ◌<◌, List, [], ◌∷◌, ◌++◌, drop, length, refl, sym, ap, ◌∙◌, arith, append_assoc, append-nil}
use Rattle.std.proofs.lemmas.List.{length-drop, drop-map}
use Rattle.sj_base.specs.Tree.{Tree, null, boolean, integer, decimal, string, list, object, Items, no_items, item, Members, no_members, member, IsValidTree, AreValidItems, AreValidMembers}
use Rattle.sj_tape.specs.Listing.{Entry, string_entry, listing, items_listing, members_listing}
use Rattle.sj_tape.specs.Listed.{IsTape, tree_of}
use Rattle.sj_tape.specs.Nodes.{node_entry, entries}
use Rattle.sj_tape.specs.declared.node.Node.{Node}
use Rattle.sj_tape.proofs.NodeLists.{length-entries}
use Rattle.sj_tape.proofs.Tapes.{tape_is_listing}
use Rattle.sj_tape.proofs.ValidTrees.{tree_found}

-- one list of items behind another
abbrev joined : Items → Items → Items
joined no_items us = us
joined (item t ts) us = item t (joined ts us)

joined-listing : (ts us : Items) → items_listing (joined ts us) ≡ items_listing ts ++ items_listing us
joined-listing no_items us = refl
joined-listing (item t ts) us = ap (λ l. listing t ++ l) (joined-listing ts us) ∙ sym (append_assoc (listing t) (items_listing ts) (items_listing us))

joined-are_valid : (ts us : Items) → AreValidItems ts → AreValidItems us → AreValidItems (joined ts us)
joined-are_valid no_items us a b = b
joined-are_valid (item t ts) us a b = (a.0, joined-are_valid ts us a.1 b)

-- keys and values in turn
abbrev in_turn : Members → Items
in_turn no_members = no_items
in_turn (member k t ms) = item (string k) (item t (in_turn ms))

in_turn-listing : (ms : Members) → items_listing (in_turn ms) ≡ members_listing ms
in_turn-listing no_members = refl
in_turn-listing (member k t ms) = ap (λ l. string_entry k ∷ (listing t ++ l)) (in_turn-listing ms)

in_turn-are_valid : (ms : Members) → AreValidMembers ms → AreValidItems (in_turn ms)
in_turn-are_valid no_members h = tt
in_turn-are_valid (member k t ms) h = (h.0, (h.1, in_turn-are_valid ms h.2))

-- the trees that are listed behind the first entry
abbrev behind : Items → Items
behind no_items = no_items
behind (item null ts) = ts
behind (item (boolean b) ts) = ts
behind (item (integer n) ts) = ts
behind (item (decimal literal) ts) = ts
behind (item (string s) ts) = ts
behind (item (list us) ts) = joined us ts
behind (item (object ms) ts) = joined (in_turn ms) ts

behind-listing : (ts : Items) → items_listing (behind ts) ≡ drop 1 (items_listing ts)
behind-listing no_items = refl
behind-listing (item null ts) = refl
behind-listing (item (boolean b) ts) = refl
behind-listing (item (integer n) ts) = refl
behind-listing (item (decimal literal) ts) = refl
behind-listing (item (string s) ts) = refl
behind-listing (item (list us) ts) = joined-listing us ts
behind-listing (item (object ms) ts) = joined-listing (in_turn ms) ts ∙ ap (λ l. l ++ items_listing ts) (in_turn-listing ms)

behind-are_valid : (ts : Items) → AreValidItems ts → AreValidItems (behind ts)
behind-are_valid no_items h = tt
behind-are_valid (item null ts) h = h.1
behind-are_valid (item (boolean b) ts) h = h.1
behind-are_valid (item (integer n) ts) h = h.1
behind-are_valid (item (decimal literal) ts) h = h.1
behind-are_valid (item (string s) ts) h = h.1
behind-are_valid (item (list us) ts) h = joined-are_valid us ts h.0 h.1
behind-are_valid (item (object ms) ts) h = joined-are_valid (in_turn ms) ts (in_turn-are_valid ms h.0) h.1

drop_next : (n : ℕ) (es : List Entry) → drop n (drop 1 es) ≡ drop (suc n) es
drop_next zero [] = refl
drop_next (suc n) [] = refl
drop_next n (e ∷ es) = refl

-- what entries begin with: a valid tree
abbrev pub Begins : List Entry → Type 0
Begins es = (t : Tree) × (rest : List Entry) × IsValidTree t × (es ≡ listing t ++ rest)

begins : (ts : Items) → AreValidItems ts → (i : ℕ) → 0 < length (drop i (items_listing ts)) → Begins (drop i (items_listing ts))
begins no_items h zero some = absurd (omega (arith, some))
begins no_items h (suc i) some = absurd (omega (arith, some))
begins (item t ts) h zero some = (t, items_listing ts, h.0, refl)
begins (item t ts) h (suc i) some =
    let same : drop i (items_listing (behind (item t ts))) ≡ drop (suc i) (items_listing (item t ts)) = ap (drop i) (behind-listing (item t ts)) ∙ drop_next i (items_listing (item t ts)) in
    let more = begins (behind (item t ts)) (behind-are_valid (item t ts) h) i (omega (arith, some, ap (λ (es : List Entry). length es) same)) in
    (more.0, more.1, more.2, sym same ∙ more.3)

-- The nodes of a tape from one on.
pub nodes_begin : (ns : List Node) (i : ℕ) → IsTape (entries ns) → ∥ IsValidTree (tree_of (entries ns)) ∥₁ → i < length ns → Begins (entries (drop i ns))
nodes_begin ns i tape valid some =
    let t = tree_of (entries ns) in
    let long = length-entries ns in
    let whole : listing t ≡ entries ns = tape_is_listing (entries ns) tape (λ none. omega (arith, some, long, ap (λ (es : List Entry). length es) none)) in
    let same : drop i (items_listing (item t no_items)) ≡ entries (drop i ns) = ap (drop i) (append-nil (listing t) ∙ whole) ∙ drop-map node_entry i ns in
    let more = begins (item t no_items) (tree_found t valid, tt) i (omega (arith, some, long, length-drop i (entries ns), ap (λ (es : List Entry). length es) same, ap (λ (es : List Entry). length es) (drop-map node_entry i ns))) in
    (more.0, more.1, more.2, sym same ∙ more.3)
