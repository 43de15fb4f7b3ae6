-- Trees whose objects repeat no key.
use Rattle.std.specs.Prelude.{◌&&◌, Bool, true, not, is_some}
use Rattle.sj_base.specs.Path.{member_at}
use Rattle.sj_base.specs.Tree.{Tree, null, boolean, integer, decimal, string, list, object, Items, no_items, item, Members, no_members, member}

abbrev mutual
  pub is_kept : Tree → Bool
  is_kept null = true
  is_kept (boolean b) = true
  is_kept (integer n) = true
  is_kept (decimal literal) = true
  is_kept (string s) = true
  is_kept (list ts) = are_kept_items ts
  is_kept (object ms) = are_kept_members ms

  pub are_kept_items : Items → Bool
  are_kept_items no_items = true
  are_kept_items (item t ts) = is_kept t && are_kept_items ts

  pub are_kept_members : Members → Bool
  are_kept_members no_members = true
  are_kept_members (member k t ms) = is_kept t && (not (is_some (member_at ms k)) && are_kept_members ms)
