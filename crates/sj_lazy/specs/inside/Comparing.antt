-- Values and keys, as comparisons meet them.
use Rattle.std.specs.Prelude.{ℕ, zero, suc, Bool, true, false, ◌&&◌, ◌||◌, List, [], ◌∷◌, Option, Some, None, is_some, bytes_eq}
use Rattle.sj_base.specs.Path.{member_at}
use Rattle.sj_base.specs.Tree.{Tree, Members, no_members, member}
use Rattle.sj_owned.specs.Compare.{kept_alike}

-- whether there is a tree, and what is kept of it is alike to what is kept of the first
abbrev pub next_alike : Tree → Option Tree → Bool
next_alike t None = false
next_alike t (Some u) = kept_alike t u

-- whether the text is in the list
abbrev pub among : List (List ℕ) → List ℕ → Bool
among [] k = false
among (j ∷ ks) k = bytes_eq k j || among ks k

-- the keys of the first n members
abbrev pub first_keys : ℕ → Members → List (List ℕ)
first_keys zero ms = []
first_keys (suc n) no_members = []
first_keys (suc n) (member k t ms) = k ∷ first_keys n ms

-- whether each of these keys has a member
abbrev pub all_found : List (List ℕ) → Members → Bool
all_found [] ms = true
all_found (k ∷ ks) ms = is_some (member_at ms k) && all_found ks ms
