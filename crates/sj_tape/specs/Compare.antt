-- When two views are equal, and when a view is equal to a map.
use Rattle.std.specs.Prelude.{◌≡◌, ℕ, ◌==◌, ℤ, pos, Bool, if◌then◌else◌, List, [], ◌∷◌, Some, map, length, refl, codes, String, string_bytes}
use Rattle.std.specs.Cmp.{IsEquivalence, IsPartialEquivalence, and_equiv, on_equiv, nat_eq_equiv, int_eq_equiv, partial_equiv_from_equiv}
use Rattle.std.specs.Cmp.Lexicographic.{pointwise, lists_equiv, on_texts_equal}
use Rattle.std.specs.HashMap.{HashMap}
use Rattle.std.specs.List.{AllByRecursion}
use Rattle.std.specs.Option.{IsSomeAnd}
use Rattle.std.specs.Ordering.{on, int_eq, eq_of_both}
use Rattle.sj_base.specs.Tree.{Tree, null, integer, object, Members, no_members, member}
use Rattle.sj_base.specs.Path.{member_at}
use Rattle.sj_base.specs.Containers.{members_len, members_in}
use Rattle.sj_tape.specs.Listing.{Entry, null_entry, boolean_entry, integer_entry, decimal_entry, string_entry, list_entry, object_entry, listing}
use Rattle.sj_tape.specs.Views.{value_tree}
use Rattle.sj_tape.specs.declared.value.Value.{Value}

-- the number of the entry's constructor
abbrev pub entry_rank : Entry → ℕ
entry_rank null_entry = 0
entry_rank (boolean_entry b) = 1
entry_rank (integer_entry n) = 2
entry_rank (decimal_entry literal) = 3
entry_rank (string_entry s) = 4
entry_rank (list_entry len count) = 5
entry_rank (object_entry len count) = 6

-- the integer, and 0 for any other entry
abbrev pub entry_number : Entry → ℤ
entry_number (integer_entry n) = n
entry_number _ = pos 0

-- what else the entry holds, with 1 for true and 0 for false
abbrev pub entry_words : Entry → List ℕ
entry_words (boolean_entry b) = (if b then 1 else 0) ∷ []
entry_words (decimal_entry literal) = literal
entry_words (string_entry s) = s
entry_words (list_entry len count) = len ∷ count ∷ []
entry_words (object_entry len count) = len ∷ count ∷ []
entry_words _ = []

-- whether two entries are equal
abbrev pub entry_eq : Entry → Entry → Bool
entry_eq = eq_of_both (on entry_rank ◌==◌) (eq_of_both (on entry_number int_eq) (on entry_words (pointwise ◌==◌)))

pub entry_eq_equiv : IsEquivalence entry_eq
entry_eq_equiv = and_equiv (on_equiv entry_rank nat_eq_equiv) (and_equiv (on_equiv entry_number int_eq_equiv) (on_texts_equal entry_words))

-- what `==` returns: whether the listings of the trees are equal
abbrev pub value_eq : Value → Value → Bool
value_eq = on (λ v. listing (value_tree v)) (pointwise entry_eq)

pub value_eq_equiv : IsEquivalence value_eq
value_eq_equiv = on_equiv (λ (v : Value). listing (value_tree v)) (lists_equiv entry_eq_equiv)

pub value_eq_partial : IsPartialEquivalence value_eq
value_eq_partial = partial_equiv_from_equiv value_eq_equiv

-- the keys of a map's entries, with the trees of their values
abbrev pub entry_trees : {Y : Type 0} → List (String Y × Value) → List (List ℕ × Tree)
entry_trees es = map (λ e. (string_bytes e.0, value_tree e.1)) es

abbrev pub map_trees : {Y S : Type 0} → HashMap (String Y) Value S → List (List ℕ × Tree)
map_trees m = entry_trees m.entries

-- each key finds its tree among the members
abbrev pub FindsAll : Members → List (List ℕ × Tree) → Type 0
FindsAll ms pairs = AllByRecursion (λ p. member_at ms p.0 ≡ Some p.1) pairs

-- an object with as many members as the map has keys, in which each key of the map finds the map's value
abbrev pub IsSameMap : Tree → List (List ℕ × Tree) → Type 0
IsSameMap t pairs = IsSomeAnd (members_in t) (λ ms. (members_len ms ≡ length pairs) × FindsAll ms pairs)

-- {"a":1}, and {"a":1,"a":1}
abbrev once : Tree
once = object (member (codes "a") (integer (pos 1)) no_members)

abbrev twice : Tree
twice = object (member (codes "a") (integer (pos 1)) (member (codes "a") (integer (pos 1)) no_members))

abbrev one_key : List (List ℕ × Tree)
one_key = (codes "a", integer (pos 1)) ∷ []

once_is_same : IsSameMap once one_key
once_is_same = (refl, (refl, tt))

-- A repeated key is a member more.
twice_is_other : IsSameMap twice one_key → ⊥
twice_is_other h = cc

-- The order of members does not matter.
abbrev two : Tree
two = object (member (codes "b") null (member (codes "a") (integer (pos 1)) no_members))

two_is_same : IsSameMap two ((codes "a", integer (pos 1)) ∷ (codes "b", null) ∷ [])
two_is_same = (refl, (refl, (refl, tt)))
