-- Whether two trees are equal up to the order of members. It is meant for kept trees, in which no object repeats a key.
use Rattle.std.specs.Prelude.{Bool, true, false, ◌&&◌, is_some, bytes_eq}
use Rattle.std.specs.Bool.{beq}
use Rattle.std.specs.Option.{option_map_or}
use Rattle.std.specs.Ordering.{int_eq}
use Rattle.sj_base.specs.Tree.{Tree, null, boolean, integer, decimal, string, list, object, Items, no_items, item, Members, no_members, member}
use Rattle.sj_base.specs.Path.{member_at}

-- each key of the first is a key of the second
abbrev pub keys_within : Members → Members → Bool
keys_within no_members ns = true
keys_within (member k t ms) ns = is_some (member_at ns k) && keys_within ms ns

-- Integers are compared by number and decimal literals by text, lists item by item. Objects are alike if each member of
-- the first has an alike member under its key in the second, and the second has no other key.
abbrev mutual
  pub alike : Tree → Tree → Bool
  alike null null = true
  alike (boolean a) (boolean b) = beq a b
  alike (integer m) (integer n) = int_eq m n
  alike (decimal a) (decimal b) = bytes_eq a b
  alike (string a) (string b) = bytes_eq a b
  alike (list ts) (list us) = alike_items ts us
  alike (object ms) (object ns) = alike_members ms ns && keys_within ns ms
  alike _ _ = false

  pub alike_items : Items → Items → Bool
  alike_items no_items no_items = true
  alike_items (item t ts) (item u us) = alike t u && alike_items ts us
  alike_items _ _ = false

  pub alike_members : Members → Members → Bool
  alike_members no_members ns = true
  alike_members (member k t ms) ns = option_map_or (alike t) (member_at ns k) false && alike_members ms ns
