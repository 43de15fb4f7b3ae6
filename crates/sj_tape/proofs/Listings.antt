-- Entries are read back as the tree that they list.
use Rattle.std.proofs.Common.{◌≡◌, ℕ, suc, ◌+◌, List, [], ◌∷◌, ◌++◌, length, drop, refl, sym, ◌∙◌, ap, arith, append_assoc, append-nil}
use Rattle.std.proofs.lemmas.List.{append_cancel_left}
use Rattle.sj_base.specs.Tree.{Tree, null, boolean, integer, decimal, string, list, object, Items, no_items, item, Members, no_members, member}
use Rattle.sj_base.specs.Containers.{items_len, members_len, item_trees, member_pairs}
use Rattle.sj_tape.specs.Listing.{Entry, listing, items_listing, members_listing}
use Rattle.sj_tape.specs.Listed.{items_of, members_of, trees, first_tree, tree_of, listed_items, listed_members}
use Rattle.sj_tape.specs.inside.Invariants.{ListsItems, ListsMembers}

-- the entries list one tree, and nothing else
abbrev pub IsListing : List Entry → Type 0
IsListing es = listing (tree_of es) ≡ es

-- the trees of keys and values in turn
abbrev members_list : Members → List Tree
members_list no_members = []
members_list (member k t ms) = string k ∷ t ∷ members_list ms

items_of-list : (ts : Items) (rest : List Tree) → items_of (items_len ts) (item_trees ts ++ rest) ≡ ts
items_of-list no_items rest = refl
items_of-list (item t ts) rest = ap (item t) (items_of-list ts rest)

drop-item_trees : (ts : Items) (rest : List Tree) → drop (items_len ts) (item_trees ts ++ rest) ≡ rest
drop-item_trees no_items rest = refl
drop-item_trees (item t ts) rest = drop-item_trees ts rest

members_of-list : (ms : Members) (rest : List Tree) → members_of (members_len ms) (members_list ms ++ rest) ≡ ms
members_of-list no_members rest = refl
members_of-list (member k t ms) rest = ap (member k t) (members_of-list ms rest)

drop-members_list : (ms : Members) (rest : List Tree) → drop (members_len ms + members_len ms) (members_list ms ++ rest) ≡ rest
drop-members_list no_members rest = refl
drop-members_list (member k t ms) rest =
    let n = members_len ms in
    let e : suc n + suc n ≡ suc (suc (n + n)) = omega arith in
    ap (λ (m : ℕ). drop m (string k ∷ t ∷ (members_list ms ++ rest))) e ∙ drop-members_list ms rest

list_front : (a b : Items) (us vs : List Tree) → a ≡ b → us ≡ vs → list a ∷ us ≡ list b ∷ vs
list_front a b us vs p q = cc

object_front : (a b : Members) (us vs : List Tree) → a ≡ b → us ≡ vs → object a ∷ us ≡ object b ∷ vs
object_front a b us vs p q = cc

mutual
  trees-listing : (t : Tree) (es : List Entry) → trees (listing t ++ es) ≡ t ∷ trees es
  trees-listing null es = refl
  trees-listing (boolean b) es = refl
  trees-listing (integer n) es = refl
  trees-listing (decimal literal) es = refl
  trees-listing (string s) es = refl
  trees-listing (list ts) es =
      ap (λ (us : List Tree). list (items_of (items_len ts) us) ∷ drop (items_len ts) us) (trees-items ts es) ∙ list_front _ _ _ _ (items_of-list ts (trees es)) (drop-item_trees ts (trees es))
  trees-listing (object ms) es =
      ap (λ (us : List Tree). object (members_of (members_len ms) us) ∷ drop (members_len ms + members_len ms) us) (trees-members ms es) ∙ object_front _ _ _ _ (members_of-list ms (trees es)) (drop-members_list ms (trees es))

  trees-items : (ts : Items) (es : List Entry) → trees (items_listing ts ++ es) ≡ item_trees ts ++ trees es
  trees-items no_items es = refl
  trees-items (item t ts) es =
      ap trees (append_assoc (listing t) (items_listing ts) es) ∙ (trees-listing t (items_listing ts ++ es) ∙ ap (λ (us : List Tree). t ∷ us) (trees-items ts es))

  trees-members : (ms : Members) (es : List Entry) → trees (members_listing ms ++ es) ≡ members_list ms ++ trees es
  trees-members no_members es = refl
  trees-members (member k t ms) es =
      ap (λ (us : List Tree). string k ∷ us) (ap trees (append_assoc (listing t) (members_listing ms) es) ∙ (trees-listing t (members_listing ms ++ es) ∙ ap (λ (us : List Tree). t ∷ us) (trees-members ms es)))

pub tree_of-listing : (t : Tree) (es : List Entry) → tree_of (listing t ++ es) ≡ t
unfolding tree_of
tree_of-listing t es = ap first_tree (trees-listing t es)

pub listed_items-listing : (ts : Items) (es : List Entry) → listed_items (items_len ts) (items_listing ts ++ es) ≡ ts
unfolding listed_items
listed_items-listing ts es = ap (items_of (items_len ts)) (trees-items ts es) ∙ items_of-list ts (trees es)

pub listed_members-listing : (ms : Members) (es : List Entry) → listed_members (members_len ms) (members_listing ms ++ es) ≡ ms
unfolding listed_members
listed_members-listing ms es = ap (members_of (members_len ms)) (trees-members ms es) ∙ members_of-list ms (trees es)

-- A listing in front of anything is read back as one tree.
pub one_listing : (s t : Tree) (a b : List Entry) → listing s ++ a ≡ listing t ++ b → (s ≡ t) × (a ≡ b)
one_listing s t a b e =
    let same : s ≡ t = sym (tree_of-listing s a) ∙ (ap tree_of e ∙ tree_of-listing t b) in
    (same, append_cancel_left (listing s) a b (e ∙ ap (λ (u : Tree). listing u ++ b) (sym same)))

pub one_items : (ss ts : Items) (a b : List Entry) → items_len ss ≡ items_len ts → items_listing ss ++ a ≡ items_listing ts ++ b → (ss ≡ ts) × (a ≡ b)
one_items ss ts a b n e =
    let same : ss ≡ ts = sym (listed_items-listing ss a) ∙ (ap (λ (k : ℕ). listed_items k (items_listing ss ++ a)) n ∙ (ap (listed_items (items_len ts)) e ∙ listed_items-listing ts b)) in
    (same, append_cancel_left (items_listing ss) a b (e ∙ ap (λ (us : Items). items_listing us ++ b) (sym same)))

pub one_members : (ls ms : Members) (a b : List Entry) → members_len ls ≡ members_len ms → members_listing ls ++ a ≡ members_listing ms ++ b → (ls ≡ ms) × (a ≡ b)
one_members ls ms a b n e =
    let same : ls ≡ ms = sym (listed_members-listing ls a) ∙ (ap (λ (k : ℕ). listed_members k (members_listing ls ++ a)) n ∙ (ap (listed_members (members_len ms)) e ∙ listed_members-listing ms b)) in
    (same, append_cancel_left (members_listing ls) a b (e ∙ ap (λ (us : Members). members_listing us ++ b) (sym same)))

pub tree_from : (es : List Entry) (t : Tree) → es ≡ listing t → tree_of es ≡ t
tree_from es t e = ap tree_of (e ∙ sym (append-nil (listing t))) ∙ tree_of-listing t []

pub items_from : (es : List Entry) (ts : Items) (len : ℕ) → es ≡ items_listing ts → items_len ts ≡ len → listed_items len es ≡ ts
items_from es ts len e n = ap (λ (k : ℕ). listed_items k es) (sym n) ∙ (ap (listed_items (items_len ts)) (e ∙ sym (append-nil (items_listing ts))) ∙ listed_items-listing ts [])

pub lists_items : (es : List Entry) (ts : Items) (len : ℕ) → es ≡ items_listing ts → items_len ts ≡ len → ListsItems len es
lists_items es ts len e n = (ap items_listing (items_from es ts len e n) ∙ sym e, ap items_len (items_from es ts len e n) ∙ n)

pub members_from : (es : List Entry) (ms : Members) (len : ℕ) → es ≡ members_listing ms → members_len ms ≡ len → listed_members len es ≡ ms
members_from es ms len e n = ap (λ (k : ℕ). listed_members k es) (sym n) ∙ (ap (listed_members (members_len ms)) (e ∙ sym (append-nil (members_listing ms))) ∙ listed_members-listing ms [])

pub lists_members : (es : List Entry) (ms : Members) (len : ℕ) → es ≡ members_listing ms → members_len ms ≡ len → ListsMembers len es
lists_members es ms len e n = (ap members_listing (members_from es ms len e n) ∙ sym e, ap members_len (members_from es ms len e n) ∙ n)

pub length-item_trees : (ts : Items) → length (item_trees ts) ≡ items_len ts
length-item_trees no_items = refl
length-item_trees (item t ts) = ap suc (length-item_trees ts)

pub length-member_pairs : (ms : Members) → length (member_pairs ms) ≡ members_len ms
length-member_pairs no_members = refl
length-member_pairs (member k t ms) = ap suc (length-member_pairs ms)
