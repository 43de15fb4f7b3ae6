-- The children that the counts find are the children of the tree.
use Rattle.std.proofs.Common.{◌≡◌, ℕ, zero, suc, ◌-◌, Bool, true, false, cond, List, [], ◌∷◌, ◌++◌, Option, Some, None, IfSome, option_map, option_and_then, bytes_eq, map, take, drop, length, refl, sym, ◌∙◌, ap, subst, arith}
use Rattle.std.proofs.lemmas.List.{take-append-drop, length-map}
use Rattle.sj_base.specs.Tree.{Tree, null, boolean, integer, decimal, string, list, object, Items, no_items, item, Members, no_members, member, AreValidMembers}
use Rattle.sj_base.specs.Path.{Part, key, place, child, member_at, item_at}
use Rattle.sj_base.specs.declared.static_node.StaticNode.TheVariants.{Null, Bool as Boolean, I64, U64}
use Rattle.sj_reads.specs.Member.{Seen}
use Rattle.sj_tape.specs.ByName.{seen_nodes}
use Rattle.sj_tape.specs.Laws.{ChildrenByCounts, SeenMembers}
use Rattle.sj_tape.specs.Children.{key_text, member_nodes, item_nodes, item_runs, member_runs, array_part, object_part, child_nodes}
use Rattle.sj_base.specs.Containers.{items_len, members_len, item_trees, member_pairs, scalar_in}
use Rattle.sj_tape.specs.Listing.{Entry, string_entry, list_entry, object_entry, listing, items_listing, members_listing}
use Rattle.sj_tape.specs.Listed.{IsPreorder, listed_items, listed_members}
use Rattle.sj_tape.specs.inside.Invariants.{ListsItems, ListsMembers}
use Rattle.sj_tape.specs.Nodes.{node_entry, entries}
use Rattle.sj_tape.specs.Views.{value_nodes, nodes_tree, pair_tree}
use Rattle.sj_tape.specs.declared.node.Node.{Node}
use Rattle.sj_tape.specs.declared.node.Node.TheVariants.{String, Object, Array, Static, Decimal}
use Rattle.sj_tape.proofs.Tapes.{listed_front, null_of-nil}
use Rattle.sj_tape.proofs.Children.{member_nodes-step, item_nodes-step, item_nodes-first, item_runs-step, member_runs-step}
use Rattle.sj_tape.proofs.Listings.{tree_from, length-item_trees, length-member_pairs}
use Rattle.sj_tape.proofs.Cutting.{cons_parts, cut_front, cut_back, string_node}

-- the number of members, if the first entry is that of an object
abbrev object_len : List Entry → Option ℕ
object_len (object_entry len count ∷ es) = Some len
object_len _ = None

-- the number of items, if the first entry is that of an array
abbrev array_len : List Entry → Option ℕ
array_len (list_entry len count ∷ es) = Some len
array_len _ = None

object_part-entries : (ns : List Node) → object_part ns ≡ option_map (λ len. (len, drop 1 ns)) (object_len (entries ns))
object_part-entries [] = refl
object_part-entries (String s ∷ ns) = refl
object_part-entries (Object len count ∷ ns) = refl
object_part-entries (Array len count ∷ ns) = refl
object_part-entries (Static Null ∷ ns) = refl
object_part-entries (Static (Boolean b) ∷ ns) = refl
object_part-entries (Static (I64 n) ∷ ns) = refl
object_part-entries (Static (U64 n) ∷ ns) = refl
object_part-entries (Decimal d ∷ ns) = refl

array_part-entries : (ns : List Node) → array_part ns ≡ option_map (λ len. (len, drop 1 ns)) (array_len (entries ns))
array_part-entries [] = refl
array_part-entries (String s ∷ ns) = refl
array_part-entries (Object len count ∷ ns) = refl
array_part-entries (Array len count ∷ ns) = refl
array_part-entries (Static Null ∷ ns) = refl
array_part-entries (Static (Boolean b) ∷ ns) = refl
array_part-entries (Static (I64 n) ∷ ns) = refl
array_part-entries (Static (U64 n) ∷ ns) = refl
array_part-entries (Decimal d ∷ ns) = refl

-- by the entries of a tree
object_part-listing : (ns : List Node) (es : List Entry) → entries ns ≡ es → object_part ns ≡ option_map (λ len. (len, drop 1 ns)) (object_len es)
object_part-listing ns es e = object_part-entries ns ∙ ap (λ (xs : List Entry). option_map (λ len. (len, drop 1 ns)) (object_len xs)) e

array_part-listing : (ns : List Node) (es : List Entry) → entries ns ≡ es → array_part ns ≡ option_map (λ len. (len, drop 1 ns)) (array_len es)
array_part-listing ns es e = array_part-entries ns ∙ ap (λ (xs : List Entry). option_map (λ len. (len, drop 1 ns)) (array_len xs)) e

found_member : (b : Bool) (front : List Node) (t : Tree) (x : Option (List Node)) (y : Option Tree) → nodes_tree front ≡ t → option_map nodes_tree x ≡ y → option_map nodes_tree (cond b (Some front) x) ≡ cond b (Some t) y
found_member true front t x y p q = ap (λ (u : Tree). Some u) p
found_member false front t x y p q = q

key_text-string : (m : Node) (k : List ℕ) → node_entry m ≡ string_entry k → key_text m ≡ k
key_text-string m k e =
    let s = string_node m k e in
    let same : string_entry s.0.now ≡ string_entry k = sym (ap node_entry s.1) ∙ e in
    let text : s.0.now ≡ k = cc in
    ap key_text s.1 ∙ text

member_nodes-tree : (ms : Members) (ns : List Node) (k : List ℕ) → entries ns ≡ members_listing ms → option_map nodes_tree (member_nodes (members_len ms) ns k) ≡ member_at ms k
member_nodes-tree no_members ns k e = refl
member_nodes-tree (member name t ms) [] k e = absurd (cc)
member_nodes-tree (member name t ms) (m ∷ ns) k e =
    let parts = cons_parts (node_entry m) (string_entry name) (entries ns) (listing t ++ members_listing ms) e in
    let n : ℕ = length (listing t) in
    let front : entries (take n ns) ≡ listing t = cut_front ns t (members_listing ms) n parts.1 refl in
    let back : entries (drop n ns) ≡ members_listing ms = cut_back ns t (members_listing ms) n parts.1 refl in
    let step = member_nodes-step (suc (members_len ms)) (m ∷ ns) (take n ns) (drop n ns) m t k (ap (λ (xs : List Node). m ∷ xs) (sym (take-append-drop n ns))) front (omega arith) in
    let one : suc (members_len ms) - 1 ≡ members_len ms = omega arith in
    let left = ap (λ (l : ℕ). option_map nodes_tree (member_nodes l (drop n ns) k)) one ∙ member_nodes-tree ms (drop n ns) k back in
    ap (option_map nodes_tree) step ∙ (found_member (bytes_eq (key_text m) k) (take n ns) t _ (member_at ms k) (tree_from (entries (take n ns)) t front) left ∙ ap (λ (name' : List ℕ). cond (bytes_eq name' k) (Some t) (member_at ms k)) (key_text-string m name parts.0))

pub member_nodes-trees : (len : ℕ) (ns : List Node) (k : List ℕ) → ListsMembers len (entries ns) → option_map nodes_tree (member_nodes len ns k) ≡ member_at (listed_members len (entries ns)) k
member_nodes-trees len ns k h = ap (λ (l : ℕ). option_map nodes_tree (member_nodes l ns k)) (sym h.1) ∙ member_nodes-tree (listed_members len (entries ns)) ns k (sym h.0)

-- The nodes that are found list a tree, which is valid where all members are.
member_nodes-listed : (ms : Members) (ns : List Node) (k : List ℕ) → entries ns ≡ members_listing ms → AreValidMembers ms → IfSome (member_nodes (members_len ms) ns k) (λ xs. IsPreorder (entries xs))
member_nodes-listed no_members ns k e valid = tt
member_nodes-listed (member name t ms) [] k e valid = absurd (cc)
member_nodes-listed (member name t ms) (m ∷ ns) k e valid =
    let parts = cons_parts (node_entry m) (string_entry name) (entries ns) (listing t ++ members_listing ms) e in
    let n : ℕ = length (listing t) in
    let front : entries (take n ns) ≡ listing t = cut_front ns t (members_listing ms) n parts.1 refl in
    let back : entries (drop n ns) ≡ members_listing ms = cut_back ns t (members_listing ms) n parts.1 refl in
    let step = member_nodes-step (suc (members_len ms)) (m ∷ ns) (take n ns) (drop n ns) m t k (ap (λ (xs : List Node). m ∷ xs) (sym (take-append-drop n ns))) front (omega arith) in
    let one : suc (members_len ms) - 1 ≡ members_len ms = omega arith in
    let left = subst (λ (l : ℕ). IfSome (member_nodes l (drop n ns) k) (λ xs. IsPreorder (entries xs))) (sym one) (member_nodes-listed ms (drop n ns) k back valid.2) in
    subst (λ (x : Option (List Node)). IfSome x (λ xs. IsPreorder (entries xs))) (sym step) (either (bytes_eq (key_text m) k) (take n ns) _ (t, valid.1, front) left)
  where
    either : (b : Bool) (front : List Node) (x : Option (List Node)) → IsPreorder (entries front) → IfSome x (λ xs. IsPreorder (entries xs)) → IfSome (cond b (Some front) x) (λ xs. IsPreorder (entries xs))
    either true front x p q = p
    either false front x p q = q

pub found_listed : (len : ℕ) (ns : List Node) (k : List ℕ) (xs : List Node) → ListsMembers len (entries ns) → AreValidMembers (listed_members len (entries ns)) → Some xs ≡ member_nodes len ns k → IsPreorder (entries xs)
found_listed len ns k xs h valid e =
    let listed = member_nodes-listed (listed_members len (entries ns)) ns k (sym h.0) valid in
    let same : member_nodes (members_len (listed_members len (entries ns))) ns k ≡ Some xs = ap (λ (l : ℕ). member_nodes l ns k) h.1 ∙ sym e in
    subst (λ (x : Option (List Node)). IfSome x (λ ys. IsPreorder (entries ys))) same listed

item_nodes-tree : (ts : Items) (ns : List Node) (i : ℕ) → entries ns ≡ items_listing ts → option_map nodes_tree (item_nodes (items_len ts) ns i) ≡ item_at ts i
item_nodes-tree no_items ns i e = refl
item_nodes-tree (item t ts) ns zero e =
    let n : ℕ = length (listing t) in
    let front : entries (take n ns) ≡ listing t = cut_front ns t (items_listing ts) n e refl in
    ap (option_map nodes_tree) (item_nodes-first (suc (items_len ts)) ns (take n ns) (drop n ns) t (sym (take-append-drop n ns)) front (omega arith)) ∙ ap (λ (u : Tree). Some u) (tree_from (entries (take n ns)) t front)
item_nodes-tree (item t ts) ns (suc i) e =
    let n : ℕ = length (listing t) in
    let front : entries (take n ns) ≡ listing t = cut_front ns t (items_listing ts) n e refl in
    let back : entries (drop n ns) ≡ items_listing ts = cut_back ns t (items_listing ts) n e refl in
    let step = item_nodes-step (suc (items_len ts)) ns (take n ns) (drop n ns) t (suc i) (sym (take-append-drop n ns)) front (omega arith) (omega arith) in
    let one : suc (items_len ts) - 1 ≡ items_len ts = omega arith in
    let other : suc i - 1 ≡ i = omega arith in
    ap (option_map nodes_tree) (step ∙ (ap (λ (l : ℕ). item_nodes l (drop n ns) (suc i - 1)) one ∙ ap (λ (j : ℕ). item_nodes (items_len ts) (drop n ns) j) other)) ∙ item_nodes-tree ts (drop n ns) i back

-- The trees of the nodes of all items.
runs_trees : (ts : Items) (ns : List Node) → entries ns ≡ items_listing ts → map nodes_tree (item_runs (items_len ts) ns) ≡ item_trees ts
runs_trees no_items ns e = refl
runs_trees (item t ts) ns e =
    let n : ℕ = length (listing t) in
    let front : entries (take n ns) ≡ listing t = cut_front ns t (items_listing ts) n e refl in
    let back : entries (drop n ns) ≡ items_listing ts = cut_back ns t (items_listing ts) n e refl in
    let step = item_runs-step (suc (items_len ts)) ns (take n ns) (drop n ns) t (sym (take-append-drop n ns)) front (omega arith) in
    let one : suc (items_len ts) - 1 ≡ items_len ts = omega arith in
    let left = ap (λ (l : ℕ). map nodes_tree (item_runs l (drop n ns))) one ∙ runs_trees ts (drop n ns) back in
    ap (map nodes_tree) step ∙ both _ _ _ _ (tree_from (entries (take n ns)) t front) left
  where
    both : (u v : Tree) (us vs : List Tree) → u ≡ v → us ≡ vs → u ∷ us ≡ v ∷ vs
    both u v us vs p q = cc

pairs_trees : (ms : Members) (ns : List Node) → entries ns ≡ members_listing ms → map pair_tree (member_runs (members_len ms) ns) ≡ member_pairs ms
pairs_trees no_members ns e = refl
pairs_trees (member name t ms) [] e = absurd (cc)
pairs_trees (member name t ms) (m ∷ ns) e =
    let parts = cons_parts (node_entry m) (string_entry name) (entries ns) (listing t ++ members_listing ms) e in
    let n : ℕ = length (listing t) in
    let front : entries (take n ns) ≡ listing t = cut_front ns t (members_listing ms) n parts.1 refl in
    let back : entries (drop n ns) ≡ members_listing ms = cut_back ns t (members_listing ms) n parts.1 refl in
    let step = member_runs-step (suc (members_len ms)) (m ∷ ns) (take n ns) (drop n ns) m t (ap (λ (xs : List Node). m ∷ xs) (sym (take-append-drop n ns))) front (omega arith) in
    let one : suc (members_len ms) - 1 ≡ members_len ms = omega arith in
    let left = ap (λ (l : ℕ). map pair_tree (member_runs l (drop n ns))) one ∙ pairs_trees ms (drop n ns) back in
    ap (map pair_tree) step ∙ both _ _ _ _ _ _ (key_text-string m name parts.0) (tree_from (entries (take n ns)) t front) left
  where
    both : (j k : List ℕ) (u v : Tree) (us vs : List (List ℕ × Tree)) → j ≡ k → u ≡ v → us ≡ vs → (j, u) ∷ us ≡ (k, v) ∷ vs
    both j k u v us vs o p q = cc

pub item_runs-trees : (len : ℕ) (ns : List Node) → ListsItems len (entries ns) → map nodes_tree (item_runs len ns) ≡ item_trees (listed_items len (entries ns))
item_runs-trees len ns h = ap (λ (l : ℕ). map nodes_tree (item_runs l ns)) (sym h.1) ∙ runs_trees (listed_items len (entries ns)) ns (sym h.0)

pub length-item_runs : (len : ℕ) (ns : List Node) → ListsItems len (entries ns) → length (item_runs len ns) ≡ items_len (listed_items len (entries ns))
length-item_runs len ns h = sym (length-map (item_runs len ns) nodes_tree) ∙ (ap (λ (ts : List Tree). length ts) (item_runs-trees len ns h) ∙ length-item_trees (listed_items len (entries ns)))

pub member_runs-trees : (len : ℕ) (ns : List Node) → ListsMembers len (entries ns) → map pair_tree (member_runs len ns) ≡ member_pairs (listed_members len (entries ns))
member_runs-trees len ns h = ap (λ (l : ℕ). map pair_tree (member_runs l ns)) (sym h.1) ∙ pairs_trees (listed_members len (entries ns)) ns (sym h.0)

pub length-member_runs : (len : ℕ) (ns : List Node) → ListsMembers len (entries ns) → length (member_runs len ns) ≡ members_len (listed_members len (entries ns))
length-member_runs len ns h = sym (length-map (member_runs len ns) pair_tree) ∙ (ap (λ (ps : List (List ℕ × Tree)). length ps) (member_runs-trees len ns h) ∙ length-member_pairs (listed_members len (entries ns)))

-- keys and values alone
pub pair_keys : (ps : List (List ℕ × List Node)) (ts : List (List ℕ × Tree)) → map pair_tree ps ≡ ts → map (λ p. p.0) ps ≡ map (λ p. p.0) ts
pair_keys ps ts e = sym (same ps) ∙ ap (map (λ p. p.0)) e
  where
    same : (qs : List (List ℕ × List Node)) → map (λ p. p.0) (map pair_tree qs) ≡ map (λ p. p.0) qs
    same [] = refl
    same (q ∷ qs) = ap (λ (ks : List (List ℕ)). q.0 ∷ ks) (same qs)

pub pair_values : (ps : List (List ℕ × List Node)) (ts : List (List ℕ × Tree)) → map pair_tree ps ≡ ts → map nodes_tree (map (λ p. p.1) ps) ≡ map (λ p. p.1) ts
pair_values ps ts e = sym (same ps) ∙ ap (map (λ p. p.1)) e
  where
    same : (qs : List (List ℕ × List Node)) → map (λ p. p.1) (map pair_tree qs) ≡ map nodes_tree (map (λ p. p.1) qs)
    same [] = refl
    same (q ∷ qs) = ap (λ (us : List Tree). nodes_tree q.1 ∷ us) (same qs)

-- the entries beneath the first node
beneath : (ns : List Node) (e : Entry) (es : List Entry) → entries ns ≡ e ∷ es → entries (drop 1 ns) ≡ es
beneath [] e es h = absurd (cc)
beneath (n ∷ ns) e es h = (cons_parts (node_entry n) e (entries ns) es h).1

by_key : (ns : List Node) (es : List Entry) (k : List ℕ) → entries ns ≡ es → child_nodes ns (key k) ≡ option_and_then (λ len. member_nodes len (drop 1 ns) k) (object_len es)
by_key ns es k e = ap (option_and_then {T = ℕ × List Node} (λ p. member_nodes p.0 p.1 k)) (object_part-listing ns es e) ∙ then_found (object_len es)
  where
    then_found : (o : Option ℕ) → option_and_then {T = ℕ × List Node} (λ p. member_nodes p.0 p.1 k) (option_map (λ len. (len, drop 1 ns)) o) ≡ option_and_then (λ len. member_nodes len (drop 1 ns) k) o
    then_found None = refl
    then_found (Some len) = refl

by_place : (ns : List Node) (es : List Entry) (i : ℕ) → entries ns ≡ es → child_nodes ns (place i) ≡ option_and_then (λ len. item_nodes len (drop 1 ns) i) (array_len es)
by_place ns es i e = ap (option_and_then {T = ℕ × List Node} (λ p. item_nodes p.0 p.1 i)) (array_part-listing ns es e) ∙ then_found (array_len es)
  where
    then_found : (o : Option ℕ) → option_and_then {T = ℕ × List Node} (λ p. item_nodes p.0 p.1 i) (option_map (λ len. (len, drop 1 ns)) o) ≡ option_and_then (λ len. item_nodes len (drop 1 ns) i) o
    then_found None = refl
    then_found (Some len) = refl

-- The nodes that the counts find are the nodes of the child in the tree.
child_nodes-tree : (t : Tree) (ns : List Node) (part : Part) → entries ns ≡ listing t → option_map nodes_tree (child_nodes ns part) ≡ child t part
child_nodes-tree null ns (key k) e = ap (option_map nodes_tree) (by_key ns (listing null) k e)
child_nodes-tree null ns (place i) e = ap (option_map nodes_tree) (by_place ns (listing null) i e)
child_nodes-tree (boolean b) ns (key k) e = ap (option_map nodes_tree) (by_key ns (listing (boolean b)) k e)
child_nodes-tree (boolean b) ns (place i) e = ap (option_map nodes_tree) (by_place ns (listing (boolean b)) i e)
child_nodes-tree (integer n) ns (key k) e = ap (option_map nodes_tree) (by_key ns (listing (integer n)) k e)
child_nodes-tree (integer n) ns (place i) e = ap (option_map nodes_tree) (by_place ns (listing (integer n)) i e)
child_nodes-tree (decimal literal) ns (key k) e = ap (option_map nodes_tree) (by_key ns (listing (decimal literal)) k e)
child_nodes-tree (decimal literal) ns (place i) e = ap (option_map nodes_tree) (by_place ns (listing (decimal literal)) i e)
child_nodes-tree (string s) ns (key k) e = ap (option_map nodes_tree) (by_key ns (listing (string s)) k e)
child_nodes-tree (string s) ns (place i) e = ap (option_map nodes_tree) (by_place ns (listing (string s)) i e)
child_nodes-tree (list ts) ns (key k) e = ap (option_map nodes_tree) (by_key ns (listing (list ts)) k e)
child_nodes-tree (list ts) ns (place i) e = ap (option_map nodes_tree) (by_place ns (listing (list ts)) i e) ∙ item_nodes-tree ts (drop 1 ns) i (beneath ns _ _ e)
child_nodes-tree (object ms) ns (key k) e = ap (option_map nodes_tree) (by_key ns (listing (object ms)) k e) ∙ member_nodes-tree ms (drop 1 ns) k (beneath ns _ _ e)
child_nodes-tree (object ms) ns (place i) e = ap (option_map nodes_tree) (by_place ns (listing (object ms)) i e)

pub children_by_counts : ChildrenByCounts
children_by_counts [] (key k) h = sym (ap (λ (t : Tree). child t (key k)) (null_of-nil [] refl))
children_by_counts [] (place i) h = sym (ap (λ (t : Tree). child t (place i)) (null_of-nil [] refl))
children_by_counts (n ∷ ns) part h = child_nodes-tree (nodes_tree (n ∷ ns)) (n ∷ ns) part (sym (listed_front (n ∷ ns) ns n h refl))

pub seen_members : SeenMembers
seen_members v k = seen (child_nodes (value_nodes v) (key k)) ∙ ap (option_map scalar_in) (children_by_counts (value_nodes v) (key k) v.listed)
  where
    seen : (o : Option (List Node)) → option_map (λ (m : Seen). m.scalar) (option_map seen_nodes o) ≡ option_map scalar_in (option_map nodes_tree o)
    seen None = refl
    seen (Some ns) = refl
