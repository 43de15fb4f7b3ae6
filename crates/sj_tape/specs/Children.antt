-- The nodes of an item or a member. The count of a node tells how many nodes to skip to the next item or member.
use Rattle.std.specs.Prelude.{ℕ, zero, suc, if◌then◌else◌, List, [], ◌∷◌, Option, Some, None, option_and_then, bytes_eq, take, drop}
use Rattle.sj_base.specs.Path.{Part, key, place}
use Rattle.sj_tape.specs.Nodes.{node_count}
use Rattle.sj_tape.specs.declared.node.Node.{Node}
use Rattle.sj_tape.specs.declared.node.Node.TheVariants.{String, Object, Array, Static, Decimal}

-- the key that a node stands for
abbrev pub key_text : Node → List ℕ
key_text (String s) = s.now
key_text (Object len count) = []
key_text (Array len count) = []
key_text (Static s) = []
key_text (Decimal d) = []

-- the nodes of the value of the first member with key k, of len members
abbrev pub member_nodes : ℕ → List Node → List ℕ → Option (List Node)
member_nodes zero ns k = None
member_nodes (suc len) [] k = None
member_nodes (suc len) (m ∷ []) k = None
member_nodes (suc len) (m ∷ n ∷ ns) k = if bytes_eq (key_text m) k then Some (n ∷ take (node_count n) ns) else member_nodes len (drop (node_count n) ns) k

-- the nodes of the item at index i, of len items
abbrev pub item_nodes : ℕ → List Node → ℕ → Option (List Node)
item_nodes zero ns i = None
item_nodes (suc len) [] i = None
item_nodes (suc len) (n ∷ ns) zero = Some (n ∷ take (node_count n) ns)
item_nodes (suc len) (n ∷ ns) (suc i) = item_nodes len (drop (node_count n) ns) i

-- the nodes of each of len items
abbrev pub item_runs : ℕ → List Node → List (List Node)
item_runs zero ns = []
item_runs (suc len) [] = []
item_runs (suc len) (n ∷ ns) = (n ∷ take (node_count n) ns) ∷ item_runs len (drop (node_count n) ns)

-- the key and the nodes of the value of each of len members
abbrev pub member_runs : ℕ → List Node → List (List ℕ × List Node)
member_runs zero ns = []
member_runs (suc len) [] = []
member_runs (suc len) (m ∷ []) = []
member_runs (suc len) (m ∷ n ∷ ns) = (key_text m, n ∷ take (node_count n) ns) ∷ member_runs len (drop (node_count n) ns)

-- the number of items of an array, and the nodes beneath it
abbrev pub array_part : List Node → Option (ℕ × List Node)
array_part [] = None
array_part (String s ∷ ns) = None
array_part (Object len count ∷ ns) = None
array_part (Array len count ∷ ns) = Some (len, ns)
array_part (Static s ∷ ns) = None
array_part (Decimal d ∷ ns) = None

-- the number of members of an object, and the nodes beneath it
abbrev pub object_part : List Node → Option (ℕ × List Node)
object_part [] = None
object_part (String s ∷ ns) = None
object_part (Object len count ∷ ns) = Some (len, ns)
object_part (Array len count ∷ ns) = None
object_part (Static s ∷ ns) = None
object_part (Decimal d ∷ ns) = None

-- the nodes of the child that `child` of `sj_base` selects in the tree
abbrev pub child_nodes : List Node → Part → Option (List Node)
child_nodes ns (key k) = option_and_then (λ p. member_nodes p.0 p.1 k) (object_part ns)
child_nodes ns (place i) = option_and_then (λ p. item_nodes p.0 p.1 i) (array_part ns)
