-- What takes a write back: a change of the part at the command's path.
use Rattle.std.specs.Prelude.{ℕ, zero, suc, nat_le, ◌&&◌, not, if◌then◌else◌, List, Option, Some, None, is_some, option_map, option_and_then, bytes_eq}
use Rattle.std.specs.Option.{unwrap_or}
use Rattle.sj_base.specs.Tree.{Tree, list, object, Members, no_members, member}
use Rattle.sj_base.specs.Path.{Part, member_at, at, put}
use Rattle.sj_base.specs.Containers.{members_len, items_in, members_in}
use Rattle.sj_base.specs.Edit as edits

-- a change of a part
pub data Change : Type 0 where
  nothing : Change
  drop_member : List ℕ → Change
  set_member : List ℕ → Tree → Change
  put_member : ℕ → List ℕ → Tree → Change  -- at this place among the members, from 0
  drop_item : Change
  add_item : Tree → Change
  set_part : Tree → Change

-- the place of the first member with that key, from 0, and the number of members if there is none
abbrev pub place_of : Members → List ℕ → ℕ
place_of no_members k = 0
place_of (member name t ms) k = if bytes_eq name k then 0 else suc (place_of ms k)

abbrev pub place_in : Tree → List ℕ → ℕ
place_in part k = unwrap_or (option_map (λ ms. place_of ms k) (members_in part)) 0

-- the members with another one at place i, and those from there on behind it
abbrev pub put_member_at : Members → ℕ → List ℕ → Tree → Members
put_member_at ms zero k t = member k t ms
put_member_at no_members (suc i) k t = member k t no_members
put_member_at (member name u ms) (suc i) k t = member name u (put_member_at ms i k t)

-- The part after the change, and none where it can't be made: the part is of another kind, the key isn't there or is there already,
-- the place is past the end, or there is no item.
abbrev pub changed : Change → Tree → Option Tree
changed nothing part = Some part
changed (drop_member k) part = option_and_then (λ ms. if is_some (member_at ms k) then Some (object (edits.drop_member ms k)) else None) (members_in part)
changed (set_member k t) part = option_and_then (λ ms. if is_some (member_at ms k) then Some (object (edits.put_member ms k t)) else None) (members_in part)
changed (put_member i k t) part =
    option_and_then (λ ms. if not (is_some (member_at ms k)) && nat_le i (members_len ms) then Some (object (put_member_at ms i k t)) else None) (members_in part)
changed drop_item part = option_and_then (λ ts. if is_some (edits.last_item ts) then Some (list (edits.pop_item ts)) else None) (items_in part)
changed (add_item t) part = option_map (λ ts. list (edits.push_item ts t)) (items_in part)
changed (set_part t) part = Some t

-- the tree with that change made at that path, or none
abbrev pub back : List Part → Change → Tree → Option Tree
back path change t = option_and_then (λ part. option_map (put t path) (changed change part)) (at t path)

-- What takes back each write: `found` is the value of its reply, which stood there before, and `place` that of a removed key.
abbrev pub insertion_back : List ℕ → Option Tree → Change
insertion_back k None = drop_member k
insertion_back k (Some found) = set_member k found

abbrev pub removal_back : ℕ → List ℕ → Option Tree → Change
removal_back place k None = nothing
removal_back place k (Some found) = put_member place k found

abbrev pub popping_back : Option Tree → Change
popping_back None = nothing
popping_back (Some found) = add_item found

abbrev pub setting_back : Option Tree → Change
setting_back None = nothing
setting_back (Some found) = set_part found

-- the value that the reply to the write shows
abbrev pub found_of : Change → Option Tree
found_of nothing = None
found_of (drop_member k) = None
found_of (set_member k t) = Some t
found_of (put_member place k t) = Some t
found_of drop_item = None
found_of (add_item t) = Some t
found_of (set_part t) = Some t

-- the place of the key k in the part that a path selects, and 0 where it selects no object
abbrev pub place_at : Tree → List Part → List ℕ → ℕ
place_at t path k = unwrap_or (option_map (λ part. place_in part k) (at t path)) 0
