-- Worked values: the depth limit of writes, and changes that take writes back.
use Rattle.std.specs.Prelude.{◌≡◌, refl, true, false, [], ◌∷◌, Some, None, codes}
use Rattle.sj_base.specs.Tree.{Tree, null, list, object, no_members, member}
use Rattle.sj_base.specs.Path.{key}
use Rattle.sj_scripts.specs.Examples.{one, two, number, empty_list, a_is_1}
use Rattle.sj_documents.specs.Step.{fits, fits_below}
use Rattle.sj_documents.specs.Inverse.{nothing, drop_member, set_member, put_member, drop_item, add_item, set_part, place_in, back}

-- the depth limit of writes: `[]` at the end of a path of one part

fits_at_the_limit : fits (key (codes "a") ∷ []) empty_list 2 ≡ true
fits_at_the_limit = refl

fits_not_past_it : fits (key (codes "a") ∷ []) empty_list 1 ≡ false
fits_not_past_it = refl

fits_below_at_the_limit : fits_below (key (codes "a") ∷ []) empty_list 3 ≡ true
fits_below_at_the_limit = refl

fits_below_not_past_it : fits_below (key (codes "a") ∷ []) empty_list 2 ≡ false
fits_below_not_past_it = refl

scalar_fits_anywhere : fits [] (number 7) 0 ≡ true
scalar_fits_anywhere = refl

-- changes that take a write back, on {"a":1,"b":null}

abbrev number_and_null : Tree
number_and_null = object (member (codes "a") (number 1) (member (codes "b") null no_members))

-- {"b":null}
abbrev b_is_null : Tree
b_is_null = object (member (codes "b") null no_members)

removed_first_put_back : back [] (put_member 0 (codes "a") (number 1)) b_is_null ≡ Some number_and_null
removed_first_put_back = refl

removed_last_put_back : back [] (put_member 1 (codes "b") null) a_is_1 ≡ Some number_and_null
removed_last_put_back = refl

no_place_past_the_end : back [] (put_member 2 (codes "b") null) a_is_1 ≡ None
no_place_past_the_end = refl

no_key_twice : back [] (put_member 0 (codes "a") null) a_is_1 ≡ None
no_key_twice = refl

new_key_dropped : back [] (drop_member (codes "b")) number_and_null ≡ Some a_is_1
new_key_dropped = refl

no_other_key_dropped : back [] (drop_member (codes "c")) number_and_null ≡ None
no_other_key_dropped = refl

old_value_set : back [] (set_member (codes "a") (number 7)) number_and_null ≡ Some (object (member (codes "a") (number 7) (member (codes "b") null no_members)))
old_value_set = refl

no_other_key_set : back [] (set_member (codes "c") null) number_and_null ≡ None
no_other_key_set = refl

item_dropped : back (key (codes "a") ∷ []) drop_item (object (member (codes "a") (list (two (number 1) (number 2))) no_members)) ≡ Some (object (member (codes "a") (list (one (number 1))) no_members))
item_dropped = refl

no_item_dropped : back [] drop_item empty_list ≡ None
no_item_dropped = refl

item_added : back [] (add_item (number 7)) empty_list ≡ Some (list (one (number 7)))
item_added = refl

no_item_in_object : back [] (add_item null) a_is_1 ≡ None
no_item_in_object = refl

part_set : back (key (codes "a") ∷ []) (set_part null) a_is_1 ≡ Some (object (member (codes "a") null no_members))
part_set = refl

nothing_at_no_path : back (key (codes "b") ∷ []) nothing a_is_1 ≡ None
nothing_at_no_path = refl

place_of_second : place_in number_and_null (codes "b") ≡ 1
place_of_second = refl
