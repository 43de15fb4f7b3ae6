-- Edits of an object's members and of a list's items.
use Rattle.std.specs.Prelude.{ℕ, cond, List, Option, Some, None, bytes_eq}
use Rattle.sj_base.specs.Tree.{Tree, Items, no_items, item, Members, no_members, member}

-- the value of the first member with that key is replaced in its place; if there is none, a member is added at the end
abbrev pub put_member : Members → List ℕ → Tree → Members
put_member no_members k new = member k new no_members
put_member (member name t ms) k new = cond (bytes_eq name k) (member name new ms) (member name t (put_member ms k new))

-- the first member with that key is taken out, and the others close up
abbrev pub drop_member : Members → List ℕ → Members
drop_member no_members k = no_members
drop_member (member name t ms) k = cond (bytes_eq name k) ms (member name t (drop_member ms k))

-- one more item at the end
abbrev pub push_item : Items → Tree → Items
push_item no_items new = item new no_items
push_item (item t ts) new = item t (push_item ts new)

-- the last item, and the items before it
abbrev pub last_item : Items → Option Tree
last_item no_items = None
last_item (item t no_items) = Some t
last_item (item t (item u us)) = last_item (item u us)

abbrev pub pop_item : Items → Items
pop_item no_items = no_items
pop_item (item t no_items) = no_items
pop_item (item t (item u us)) = item t (pop_item (item u us))
