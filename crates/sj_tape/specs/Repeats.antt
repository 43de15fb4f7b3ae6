-- The first repeated key of a tree (RFC 8259, section 4: the names within an object should be unique).
use Rattle.std.specs.Prelude.{ℕ, suc, Bool, if◌then◌else◌, List, [], ◌∷◌, ◌++◌, Option, Some, None, bytes_eq, map, option_map}
use Rattle.std.specs.List.{list_any}
use Rattle.std.specs.Option.{option_or}
use Rattle.sj_base.specs.Tree.{Tree, null, boolean, integer, decimal, string, list, object, Items, no_items, item, Members, no_members, member}
use Rattle.sj_base.specs.Path.{Part, key, place}
use Rattle.sj_tape.specs.declared.repeat.Repeat.{Repeat}
use Rattle.sj_tape.specs.declared.repeat.RepeatPart.{RepeatPart}
use Rattle.sj_tape.specs.declared.repeat.RepeatPart.TheVariants.{Key, Item}

-- the path to an object, and a key that two of its members have
abbrev pub Repetition : Type 0
Repetition = List Part × List ℕ

-- the same, seen from one level further out
abbrev pub one_level_out : Part → Option Repetition → Option Repetition
one_level_out part found = option_map (λ r. (part ∷ r.0, r.1)) found

-- whether the key is one of these
abbrev pub is_among : List ℕ → List (List ℕ) → Bool
is_among k names = list_any (λ name. bytes_eq name k) names

-- The first member in preorder whose key stands earlier in the same object, as that object's path and the key.
abbrev mutual
  pub repeated : Tree → Option Repetition
  repeated null = None
  repeated (boolean b) = None
  repeated (integer n) = None
  repeated (decimal literal) = None
  repeated (string s) = None
  repeated (list ts) = repeated_in_items 0 ts
  repeated (object ms) = repeated_in_members [] ms

  -- n: the place of the first of these items
  pub repeated_in_items : ℕ → Items → Option Repetition
  repeated_in_items n no_items = None
  repeated_in_items n (item t ts) = option_or (one_level_out (place n) (repeated t)) (repeated_in_items (suc n) ts)

  -- earlier: the keys of the members before these
  pub repeated_in_members : List (List ℕ) → Members → Option Repetition
  repeated_in_members earlier no_members = None
  repeated_in_members earlier (member k t ms) =
      if is_among k earlier then Some ([], k) else option_or (one_level_out (key k) (repeated t)) (repeated_in_members (earlier ++ k ∷ []) ms)

-- what a `Repeat` stands for
abbrev pub part_view : RepeatPart → Part
part_view (Key k) = key k.now
part_view (Item n) = place n

abbrev pub repeat_view : Repeat → Repetition
repeat_view r = (map part_view r.path.items, r.key.now)
