-- Lists of trees as items, and pairs of a key and a tree as members.
use Rattle.std.specs.Prelude.{ℕ, List, [], ◌∷◌, map}
use Rattle.sj_base.specs.Tree.{Tree, Items, no_items, item, Members, no_members, member}
use Rattle.sj_object.specs.declared.entry.Entry.{Entry}

abbrev pub items_of : List Tree → Items
items_of [] = no_items
items_of (t ∷ ts) = item t (items_of ts)

-- with the text of each key
abbrev pub members_of : {K : Type 0} → (K → List ℕ) → List (Entry K Tree) → Members
members_of text [] = no_members
members_of text (e ∷ es) = member (text e.key) e.value (members_of text es)

-- the pairs with each value mapped
abbrev pub on_values : {K A B : Type 0} → (A → B) → List (Entry K A) → List (Entry K B)
on_values h es = map (λ e. record { key = e.key; value = h e.value }) es
