-- Worked values of `listing`, `tree_of`, `child_nodes`, `item_runs`, `member_runs` and `repeated`.
use Rattle.std.specs.Prelude.{◌≡◌, ◌*◌, refl, ℕ, pos, List, [], ◌∷◌, drop, None, Some, codes}
use Rattle.std.specs.Borrow.{Bor}
use Rattle.sj_base.specs.Containers.{members_len}
use Rattle.sj_base.specs.Path.{key, place}
use Rattle.sj_base.specs.Tree.{Tree, Members, null, integer, list, object, no_items, item, no_members, member}
use Rattle.sj_base.specs.declared.static_node.StaticNode.TheVariants.{Null, I64, U64}
use Rattle.sj_tape.specs.Children.{item_runs, member_runs, child_nodes}
use Rattle.sj_tape.specs.Listing.{null_entry, integer_entry, string_entry, list_entry, object_entry, listing}
use Rattle.sj_tape.specs.Listed.{tree_of}
use Rattle.sj_tape.specs.Repeats.{repeated}
use Rattle.sj_tape.specs.declared.node.Node.{Node}
use Rattle.sj_tape.specs.declared.node.Node.TheVariants.{String, Object, Array, Static}

-- [1,[2,3],4]
abbrev nested_tree : Tree
nested_tree = list (item (integer (pos 1)) (item (list (item (integer (pos 2)) (item (integer (pos 3)) no_items))) (item (integer (pos 4)) no_items)))

nested_listing : listing nested_tree ≡ list_entry 3 5 ∷ integer_entry (pos 1) ∷ list_entry 2 2 ∷ integer_entry (pos 2) ∷ integer_entry (pos 3) ∷ integer_entry (pos 4) ∷ []
nested_listing = refl

-- {"a":null}
abbrev pair : Tree
pair = object (member (codes "a") null no_members)

pair_listing : listing pair ≡ object_entry 1 2 ∷ string_entry (codes "a") ∷ null_entry ∷ []
pair_listing = refl

empty_listing : listing (list no_items) ≡ list_entry 0 0 ∷ []
empty_listing = refl

nested_back : tree_of (listing nested_tree) ≡ nested_tree
unfolding tree_of
nested_back = refl

pair_back : tree_of (listing pair) ≡ pair
unfolding tree_of
pair_back = refl

-- {"a":{"b":1},"a":{}}: a key that occurs twice, and an object in an object
abbrev inner : Tree
inner = object (member (codes "a") (object (member (codes "b") (integer (pos 1)) no_members)) (member (codes "a") (object no_members) no_members))

inner_listing : listing inner ≡ object_entry 2 6 ∷ string_entry (codes "a") ∷ object_entry 1 2 ∷ string_entry (codes "b") ∷ integer_entry (pos 1) ∷ string_entry (codes "a") ∷ object_entry 0 0 ∷ []
inner_listing = refl

inner_back : tree_of (listing inner) ≡ inner
unfolding tree_of
inner_back = refl

-- the nodes of [1,[2,3],4], with both carriers
abbrev nested_nodes : List Node
nested_nodes = Array 3 5 ∷ Static (U64 1) ∷ Array 2 2 ∷ Static (I64 (pos 2)) ∷ Static (U64 3) ∷ Static (U64 4) ∷ []

inner_item : child_nodes nested_nodes (place 1) ≡ Some (Array 2 2 ∷ Static (I64 (pos 2)) ∷ Static (U64 3) ∷ [])
inner_item = refl

last_item : child_nodes nested_nodes (place 2) ≡ Some (Static (U64 4) ∷ [])
last_item = refl

no_item : child_nodes nested_nodes (place 3) ≡ None
no_item = refl

-- each item in order, with the nodes beneath it
three_items : item_runs 3 (drop 1 nested_nodes) ≡ (Static (U64 1) ∷ []) ∷ (Array 2 2 ∷ Static (I64 (pos 2)) ∷ Static (U64 3) ∷ []) ∷ (Static (U64 4) ∷ []) ∷ []
three_items = refl

-- [1,1], with both carriers
two_carriers : item_runs 2 (Static (I64 (pos 1)) ∷ Static (U64 1) ∷ []) ≡ (Static (I64 (pos 1)) ∷ []) ∷ (Static (U64 1) ∷ []) ∷ []
two_carriers = refl

-- an array has no members
no_member : child_nodes nested_nodes (key (codes "a")) ≡ None
no_member = refl

-- {"a":[null],"b":1,"b":1}, with two carriers of the number
abbrev twice : Bor (List ℕ) → Bor (List ℕ) → List Node
twice a b = Object 3 7 ∷ String (record a { now = codes "a" }) ∷ Array 1 1 ∷ Static Null ∷ String (record b { now = codes "b" }) ∷ Static (U64 1) ∷ String (record b { now = codes "b" }) ∷ Static (I64 (pos 1)) ∷ []

first_member : (a b : Bor (List ℕ)) → child_nodes (twice a b) (key (codes "b")) ≡ Some (Static (U64 1) ∷ [])
first_member a b = refl

container_member : (a b : Bor (List ℕ)) → child_nodes (twice a b) (key (codes "a")) ≡ Some (Array 1 1 ∷ Static Null ∷ [])
container_member a b = refl

each_member : (a b : Bor (List ℕ)) → member_runs 3 (drop 1 (twice a b)) ≡ (codes "a", Array 1 1 ∷ Static Null ∷ []) ∷ (codes "b", Static (U64 1) ∷ []) ∷ (codes "b", Static (I64 (pos 1)) ∷ []) ∷ []
each_member a b = refl

-- {"a":[1,2],"b":3}: 2 members, with 6 nodes beneath, of which a look-up reads the first two of each member
abbrev two : Members
two = member (codes "a") (list (item (integer (pos 1)) (item (integer (pos 2)) no_items))) (member (codes "b") (integer (pos 3)) no_members)

two_listing : listing (object two) ≡ object_entry 2 6 ∷ string_entry (codes "a") ∷ list_entry 2 2 ∷ integer_entry (pos 1) ∷ integer_entry (pos 2) ∷ string_entry (codes "b") ∷ integer_entry (pos 3) ∷ []
two_listing = refl

two_reads : 2 * members_len two ≡ 4
two_reads = refl

-- ---- the first repeated key

abbrev number : Tree
number = integer (pos 1)

-- {"x":1,"x":1}
abbrev x_twice : Tree
x_twice = object (member (codes "x") number (member (codes "x") number no_members))

-- {"a":{"x":1,"x":1},"a":1}
inner_first : repeated (object (member (codes "a") x_twice (member (codes "a") number no_members))) ≡ Some (key (codes "a") ∷ [], codes "x")
inner_first = refl

-- {"a":1,"a":{"x":1,"x":1}}
outer_first : repeated (object (member (codes "a") number (member (codes "a") x_twice no_members))) ≡ Some ([], codes "a")
outer_first = refl

-- [1,{"x":1,"x":1}]
in_item : repeated (list (item number (item x_twice no_items))) ≡ Some (place 1 ∷ [], codes "x")
in_item = refl

-- {"a":{"a":1}}
across_objects : repeated (object (member (codes "a") (object (member (codes "a") number no_members)) no_members)) ≡ None
across_objects = refl
