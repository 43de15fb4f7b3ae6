-- What a copy of an object has in common with its original.
use Rattle.std.specs.Prelude.{ℕ, List, [], ◌∷◌, map}
use Rattle.sj_base.specs.Tree.{Tree, string, Members, no_members, member}
use Rattle.sj_object.specs.declared.entry.Entry.{Entry}

-- what copies of each key and of its value keep
abbrev pub copied_pairs : {K V C D : Type 0} → (K → C) → (V → D) → List (Entry K V) → List (C × D)
copied_pairs key value es = map (λ e. (key e.key, value e.value)) es

-- the text of a string
abbrev pub text_of : Tree → List ℕ
text_of (string s) = s
text_of _ = []

-- the members with the strings of the keys and the trees of the values
abbrev pub pair_members : {C D : Type 0} → (C → Tree) → (D → Tree) → List (C × D) → Members
pair_members key value [] = no_members
pair_members key value (p ∷ ps) = member (text_of (key p.0)) (value p.1) (pair_members key value ps)
