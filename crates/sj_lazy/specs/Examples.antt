-- Worked values of what lazy values hold, of their parts, of typed reads, and of upgrades. Nodes stand for parts of tapes.
use Rattle.std.specs.Prelude.{◌≡◌, ◌*◌, refl, ℕ, false, List, pos, [], ◌∷◌, Option, Some, None, Result, Ok, Err, codes}
use Rattle.std.specs.Borrow.{Bor}
use Rattle.std.proofs.Common.{inl}
use Rattle.sj_base.specs.Path.{key, place}
use Rattle.sj_base.specs.Tree.{Tree, integer, object, no_members, member}
use Rattle.sj_base.specs.declared.fault.AccessError.{AccessError}
use Rattle.sj_base.specs.declared.fault.AccessError.TheVariants.{Memory}
use Rattle.sj_base.specs.declared.static_node.StaticNode.TheVariants.{I64, U64}
use Rattle.sj_base.specs.declared.static_node.ValueType.TheVariants as types
use Rattle.sj_base.specs.declared.fault.TryTypeError.{TryTypeError}
use Rattle.sj_owned.specs.Edits.{with_member}
use Rattle.sj_reads.specs.Member.{Seen, looked_up, found_scalar, try_found}
use Rattle.sj_reads.specs.Reads.{bool_read, str_read, signed_read, unsigned_read, mismatch}
use Rattle.sj_tape.specs.Listed.{tree_of}
use Rattle.sj_tape.specs.Views.{value_nodes}
use Rattle.sj_tape.specs.declared.node.Node.{Node}
use Rattle.sj_tape.specs.declared.node.Node.TheVariants.{String, Object, Array, Static}
use Rattle.sj_tape.specs.declared.value.Value.{Value as TapeValue}
use Rattle.sj_lazy.specs.ByName.{member_seen}
use Rattle.sj_lazy.specs.Contents.{Contents, nodes, own_document}
use Rattle.sj_lazy.specs.Parts.{tape_inside, array_in, object_in, item_within, member_within, part_of, try_member, try_item}
use Rattle.sj_lazy.specs.Upgrade.{owns, upgraded, UpgradesBy, Refuses}
use Rattle.sj_lazy.specs.Views.{contents_tree, contents_kind}
use Rattle.sj_lazy.specs.declared.held.Held.TheVariants.{Borrowed, Owned}
use Rattle.sj_lazy.specs.declared.value.TapeOrDocument.TheVariants as lazy

-- {"a":1,"a":2}, with two carriers of numbers
abbrev repeats : Bor (List ℕ) → List Node
repeats a = Object 2 4 ∷ String (record a { now = codes "a" }) ∷ Static (U64 1) ∷ String (record a { now = codes "a" }) ∷ Static (I64 (pos 2)) ∷ []

abbrev one : Tree
one = integer (pos 1)

abbrev both_members : Tree
both_members = object (member (codes "a") one (member (codes "a") (integer (pos 2)) no_members))

-- [[1],2]
abbrev nested : List Node
nested = Array 2 3 ∷ Array 1 1 ∷ Static (U64 1) ∷ Static (U64 2) ∷ []

repeats_in_tree : (a : Bor (List ℕ)) → contents_tree (nodes (repeats a)) ≡ both_members
unfolding tree_of
repeats_in_tree a = refl

type_by_carrier : contents_kind (nodes (Static (I64 (pos 1)) ∷ [])) ≡ types.I64
type_by_carrier = refl

first_of_repeated : (a : Bor (List ℕ)) → part_of (nodes (repeats a)) (key (codes "a")) ≡ Some (nodes (Static (U64 1) ∷ []))
first_of_repeated a = refl

item_of_array : part_of (nodes nested) (place 0) ≡ Some (nodes (Array 1 1 ∷ Static (U64 1) ∷ []))
item_of_array = refl

no_item : part_of (nodes nested) (place 2) ≡ None
no_item = refl

members_with_repeats : (a : Bor (List ℕ)) → object_in (nodes (repeats a)) ≡ Some (tape_inside (2, String (record a { now = codes "a" }) ∷ Static (U64 1) ∷ String (record a { now = codes "a" }) ∷ Static (I64 (pos 2)) ∷ []))
members_with_repeats a = refl

items_of_array : array_in (nodes nested) ≡ Some (tape_inside (2, Array 1 1 ∷ Static (U64 1) ∷ Static (U64 2) ∷ []))
items_of_array = refl

no_members_in_array : object_in (nodes nested) ≡ None
no_members_in_array = refl

last_item_within : item_within (tape_inside (2, Array 1 1 ∷ Static (U64 1) ∷ Static (U64 2) ∷ [])) 1 ≡ Some (nodes (Static (U64 2) ∷ []))
last_item_within = refl

no_such_member : (a : Bor (List ℕ)) → member_within (tape_inside (1, String (record a { now = codes "a" }) ∷ Static (U64 1) ∷ [])) (codes "b") ≡ None
no_such_member a = refl

member_found : (a : Bor (List ℕ)) → try_member (nodes (repeats a)) (codes "a") ≡ Ok (Some (nodes (Static (U64 1) ∷ [])))
member_found a = refl

key_not_there : (a : Bor (List ℕ)) → try_member (nodes (repeats a)) (codes "b") ≡ Ok None
key_not_there a = refl

key_of_array : try_member (nodes nested) (codes "a") ≡ Err (mismatch types.Object types.Array)
key_of_array = refl

index_of_object : (a : Bor (List ℕ)) → try_item (nodes (repeats a)) 0 ≡ Err (mismatch types.Array types.Object)
index_of_object a = refl

index_past_end : try_item (nodes nested) 2 ≡ Ok None
index_past_end = refl

-- ---- typed reads of members

-- {"snot":1,"badger":[2]}
abbrev snot_badger : Bor (List ℕ) → List Node
snot_badger a = Object 2 5 ∷ String (record a { now = codes "snot" }) ∷ Static (U64 1) ∷ String (record a { now = codes "badger" }) ∷ Array 1 1 ∷ Static (U64 2) ∷ []

abbrev found : Contents → List ℕ → Result (Option Seen) TryTypeError
found c k = looked_up (contents_kind c) (member_seen c k)

number_member : (a : Bor (List ℕ)) → unsigned_read 64 (found_scalar (found (nodes (snot_badger a)) (codes "snot"))) ≡ Some 1
unfolding tree_of
number_member a = refl

array_member : (a : Bor (List ℕ)) → signed_read 7 (found_scalar (found (nodes (snot_badger a)) (codes "badger"))) ≡ None
unfolding tree_of
array_member a = refl

number_for_string : (a : Bor (List ℕ)) → try_found str_read types.String (found (nodes (snot_badger a)) (codes "snot")) ≡ Err (mismatch types.String types.U64)
unfolding tree_of
number_for_string a = refl

read_of_no_member : (a : Bor (List ℕ)) → try_found bool_read types.Bool (found (nodes (snot_badger a)) (codes "x")) ≡ Ok None
read_of_no_member a = refl

read_in_empty_array : try_found bool_read types.Bool (found (nodes (Array 0 0 ∷ [])) (codes "x")) ≡ Err (mismatch types.Object types.Array)
read_in_empty_array = refl

-- ---- upgrades, by numbers in the place of tapes and documents

tape_owns_nothing : owns {T = ℕ} {B = ℕ} {D = ℕ} (lazy.Tape 1) ≡ false
tape_owns_nothing = refl

borrowed_is_not_owned : owns {T = ℕ} {B = ℕ} {D = ℕ} (lazy.Value (Borrowed 1)) ≡ false
borrowed_is_not_owned = refl

owned : own_document {T = ℕ} {B = ℕ} {D = ℕ} (lazy.Value (Owned 1)) ≡ Some 1
owned = refl

-- a tape 1 is built as its double, and a borrowed 1 is copied as it is
built : UpgradesBy {T = ℕ} {B = ℕ} {D = ℕ} (λ t d. d ≡ 2 * t) (λ b d. d ≡ b) (lazy.Tape 1) 2
built = refl

copied_as_it_is : UpgradesBy {T = ℕ} {B = ℕ} {D = ℕ} (λ t d. d ≡ 2 * t) (λ b d. d ≡ b) (lazy.Value (Borrowed 1)) 1
copied_as_it_is = refl

stays : UpgradesBy {T = ℕ} {B = ℕ} {D = ℕ} (λ t d. d ≡ 2 * t) (λ b d. d ≡ 2 * b) (lazy.Value (Owned 1)) 1
stays = refl

-- ---- upgrades of tapes

-- the first member is kept
first_is_kept : (a : Bor (List ℕ)) (v : TapeValue) → value_nodes v ≡ repeats a → upgraded (lazy.Tape v) ≡ object (member (codes "a") one no_members)
unfolding tree_of
first_is_kept a v same = rw same refl

-- and then {"a":1,"new":42}
inserted : (a : Bor (List ℕ)) (v : TapeValue) → value_nodes v ≡ repeats a
    → with_member (upgraded (lazy.Tape v)) (codes "new") (integer (pos 42)) ≡ Some (object (member (codes "a") one (member (codes "new") (integer (pos 42)) no_members)))
unfolding tree_of
inserted a v same = rw same refl

-- a write call that lacks memory for the upgrade leaves the tape
without_memory : (P : AccessError → Type 0) (v : TapeValue) → Refuses P (lazy.Tape v) (lazy.Tape v) Memory
without_memory P v = inl (refl, refl, refl)
