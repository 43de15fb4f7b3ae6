-- The trees of tapes and views are valid.
use Rattle.std.proofs.Common.{◌≡◌, ◌⊎◌, inl, inr, ℕ, List, [], ◌∷◌, IfSome, sym, ap, subst, true}
use Rattle.std.specs.Prelude.{IsUtf8, ℤ, pos, negsuc}
use Rattle.std.specs.Str.{is_utf8}
use Rattle.std.proofs.Math.Bool.{Bool-set}
use Rattle.std.proofs.Math.Bridge.{le_prop}
use Rattle.std.proofs.Math.Logic.{∥∥₁_elim, ∥∥₁_map}
use Rattle.std.proofs.lemmas.Str.{IsUtf8-from_is_utf8, is_utf8-from_IsUtf8}
use Rattle.sj_base.specs.Tree.{Tree, null, boolean, integer, decimal, string, list, object, Items, no_items, item, Members, no_members, member, IsValidTree, AreValidItems, AreValidMembers, IsInRange}
use Rattle.sj_base.specs.Containers.{items_len, members_len}
use Rattle.sj_base.proofs.Literals.{found}
use Rattle.sj_tape.specs.Listing.{Entry, listing, items_listing, members_listing}
use Rattle.sj_tape.specs.Listed.{IsPreorder, tree_of, listed_tree, listed_items, listed_members}
use Rattle.sj_tape.specs.Nodes.{entries}
use Rattle.sj_tape.specs.declared.node.Node.{Node}
use Rattle.sj_tape.proofs.Listings.{tree_from, items_from, members_from}

-- validity under a truncation, taken out of it: each part is decidable
utf8_found : (bs : List ℕ) → ∥ IsUtf8 bs ∥₁ → IsUtf8 bs
utf8_found bs h = IsUtf8-from_is_utf8 bs (∥∥₁_elim h (Bool-set (is_utf8 bs) true) (is_utf8-from_IsUtf8 bs))

range_found : (n : ℤ) → ∥ IsInRange n ∥₁ → IsInRange n
range_found (pos n) h = ∥∥₁_elim h le_prop (λ x. x)
range_found (negsuc n) h = ∥∥₁_elim h le_prop (λ x. x)

mutual
  pub tree_found : (t : Tree) → ∥ IsValidTree t ∥₁ → IsValidTree t
  tree_found null h = tt
  tree_found (boolean b) h = tt
  tree_found (integer n) h = range_found n h
  tree_found (decimal literal) h = found literal h
  tree_found (string s) h = utf8_found s h
  tree_found (list ts) h = items_found ts h
  tree_found (object ms) h = members_found ms h

  pub items_found : (ts : Items) → ∥ AreValidItems ts ∥₁ → AreValidItems ts
  items_found no_items h = tt
  items_found (item t ts) h = (tree_found t (∥∥₁_map h (λ p. p.0)), items_found ts (∥∥₁_map h (λ p. p.1)))

  pub members_found : (ms : Members) → ∥ AreValidMembers ms ∥₁ → AreValidMembers ms
  members_found no_members h = tt
  members_found (member k t ms) h = (utf8_found k (∥∥₁_map h (λ p. p.0)), tree_found t (∥∥₁_map h (λ p. p.1)), members_found ms (∥∥₁_map h (λ p. p.2)))

-- the tree that the entries list
pub is_valid : (es : List Entry) (t : Tree) → es ≡ listing t → IsValidTree t → ∥ IsValidTree (tree_of es) ∥₁
is_valid es t e h = ∣ subst (λ (u : Tree). IsValidTree u) (sym (tree_from es t e)) h ∣₁

pub are_valid_items : (es : List Entry) (ts : Items) (len : ℕ) → es ≡ items_listing ts → items_len ts ≡ len → AreValidItems ts → ∥ AreValidItems (listed_items len es) ∥₁
are_valid_items es ts len e n h = ∣ subst (λ (us : Items). AreValidItems us) (sym (items_from es ts len e n)) h ∣₁

pub are_valid_members : (es : List Entry) (ms : Members) (len : ℕ) → es ≡ members_listing ms → members_len ms ≡ len → AreValidMembers ms → ∥ AreValidMembers (listed_members len es) ∥₁
are_valid_members es ms len e n h = ∣ subst (λ (ls : Members). AreValidMembers ls) (sym (members_from es ms len e n)) h ∣₁

-- the tree of a tape, if it has one
pub tape_found : (es : List Entry) → ∥ IsValidTree (tree_of es) ∥₁ → IfSome (listed_tree es) IsValidTree
unfolding listed_tree
tape_found [] h = tt
tape_found (e ∷ es) h = tree_found (tree_of (e ∷ es)) h

-- the tree of no entries is null
pub is_valid_nil : (es : List Entry) → es ≡ [] → ∥ IsValidTree (tree_of es) ∥₁
unfolding tree_of
is_valid_nil es e = subst (λ (ys : List Entry). ∥ IsValidTree (tree_of ys) ∥₁) (sym e) ∣ tt ∣₁

pub nodes_are_valid : (ns : List Node) → (ns ≡ []) ⊎ IsPreorder (entries ns) → ∥ IsValidTree (tree_of (entries ns)) ∥₁
nodes_are_valid ns (inl e) = is_valid_nil (entries ns) (ap entries e)
nodes_are_valid ns (inr h) = is_valid (entries ns) h.0 h.2 h.1
