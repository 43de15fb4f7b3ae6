-- Worked values. A key is its text, and a value is a number.
use Rattle.std.specs.Prelude.{◌≡◌, refl, ℕ, List, [], ◌∷◌, Some, None, true, false, nat_eq, codes}
use Rattle.sj_object.specs.declared.entry.Entry.{Entry}
use Rattle.sj_object.specs.Compare.{same_pairs}
use Rattle.sj_object.specs.Hash.{text_hash}
use Rattle.sj_object.specs.Pairs.{value_at, place_of, set_value, put_key, drop_key, put_at}

abbrev Pairs : Type 0
Pairs = List (Entry (List ℕ) ℕ)

abbrev text : List ℕ → List ℕ
text k = k

abbrev put : Pairs → List ℕ → ℕ → Pairs
put es k v = put_key text es k v

abbrev a_to : ℕ → Entry (List ℕ) ℕ
a_to v = record { key = codes "a"; value = v }

abbrev b_to : ℕ → Entry (List ℕ) ℕ
b_to v = record { key = codes "b"; value = v }

abbrev c_to : ℕ → Entry (List ℕ) ℕ
c_to v = record { key = codes "c"; value = v }

abbrev with_c_at : ℕ → Pairs
with_c_at i = put_at (a_to 1 ∷ b_to 2 ∷ []) i (codes "c") 3

replaced_in_place : put (put (put [] (codes "a") 1) (codes "b") 2) (codes "a") 3 ≡ a_to 3 ∷ b_to 2 ∷ []
replaced_in_place = refl

closed_up : drop_key text (a_to 3 ∷ b_to 2 ∷ []) (codes "a") ≡ b_to 2 ∷ []
closed_up = refl

nothing_dropped : drop_key text (a_to 3 ∷ b_to 2 ∷ []) (codes "c") ≡ a_to 3 ∷ b_to 2 ∷ []
nothing_dropped = refl

found : value_at text (a_to 3 ∷ b_to 2 ∷ []) (codes "b") ≡ Some 2
found = refl

not_found : value_at text (a_to 3 ∷ b_to 2 ∷ []) (codes "") ≡ None
not_found = refl

first_place : place_of text (a_to 3 ∷ b_to 2 ∷ []) (codes "a") ≡ Some 0
first_place = refl

second_place : place_of text (a_to 3 ∷ b_to 2 ∷ []) (codes "b") ≡ Some 1
second_place = refl

without_a_place : place_of text (a_to 3 ∷ b_to 2 ∷ []) (codes "c") ≡ None
without_a_place = refl

put_first : with_c_at 0 ≡ c_to 3 ∷ a_to 1 ∷ b_to 2 ∷ []
put_first = refl

put_between : with_c_at 1 ≡ a_to 1 ∷ c_to 3 ∷ b_to 2 ∷ []
put_between = refl

put_last : with_c_at 2 ≡ a_to 1 ∷ b_to 2 ∷ c_to 3 ∷ []
put_last = refl

written : set_value text (a_to 3 ∷ b_to 2 ∷ []) (codes "b") 5 ≡ a_to 3 ∷ b_to 5 ∷ []
written = refl

not_written : set_value text (a_to 3 ∷ b_to 2 ∷ []) (codes "c") 5 ≡ a_to 3 ∷ b_to 2 ∷ []
not_written = refl

equal_as_maps : same_pairs text nat_eq (a_to 1 ∷ b_to 2 ∷ []) (b_to 2 ∷ a_to 1 ∷ []) ≡ true
equal_as_maps = refl

unequal_values : same_pairs text nat_eq (a_to 1 ∷ b_to 2 ∷ []) (b_to 2 ∷ a_to 3 ∷ []) ≡ false
unequal_values = refl

unequal_keys : same_pairs text nat_eq (a_to 1 ∷ []) (a_to 1 ∷ b_to 2 ∷ []) ≡ false
unequal_keys = refl

hash_of_nothing : text_hash [] ≡ 0
hash_of_nothing = refl

hash_of_Aa : text_hash (codes "Aa") ≡ 2112
hash_of_Aa = refl

hash_of_BB : text_hash (codes "BB") ≡ 2112
hash_of_BB = refl
