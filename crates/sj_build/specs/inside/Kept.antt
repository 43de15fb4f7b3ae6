-- Members that are added one by one, of which the first of each key is kept.
use Rattle.std.specs.Prelude.{◌≡◌, ℕ, ◌+◌, ◌-◌, ◌*◌, ◌%◌, Bool, true, false, cond, List, length, get_or, None, IfSome, is_some}
use Rattle.std.specs.BTreeSet.{contains_by}
use Rattle.std.specs.Cmp.Lexicographic.{slice_cmp}
use Rattle.std.specs.Ordering.{nat_cmp}
use Rattle.sj_base.specs.Tree.{Tree, Members, no_members, member}
use Rattle.sj_base.specs.Path.{member_at}
use Rattle.sj_build.specs.declared.build.MetKeys.{MetKeys}

-- whether some member has that key
abbrev pub has_key : Members → List ℕ → Bool
has_key ms k = is_some (member_at ms k)

-- one more member at the end
abbrev pub with_last : Members → List ℕ → Tree → Members
with_last no_members k t = member k t no_members
with_last (member name u ms) k t = member name u (with_last ms k t)

-- the same, unless a member has that key
abbrev pub add_member : Members → List ℕ → Tree → Members
add_member ms k t = cond (has_key ms k) ms (with_last ms k t)

-- ks, and each of these members added to them
abbrev pub gathered : Members → Members → Members
gathered ks no_members = ks
gathered ks (member k t ms) = gathered (add_member ks k t) ms

-- the mark of a key, by its length and its first and its last byte
abbrev pub mark_of : List ℕ → ℕ
mark_of k = (7 * (length k % 128) + get_or k 0 0 + 11 * get_or k (length k - 1) 0) % 128

-- the keys that were met, if they are listed, are those of the members, and else the members' keys are marked
abbrev pub Knows : MetKeys → Members → Type 0
Knows met ms =
    IfSome met.listed (λ keys. (k : List ℕ) → contains_by (λ key. slice_cmp nat_cmp k key.now) keys ≡ has_key ms k)
    × (length met.marks ≡ 128)
    × (met.listed ≡ None → (k : List ℕ) → has_key ms k ≡ true → get_or met.marks (mark_of k) false ≡ true)
