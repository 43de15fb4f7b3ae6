-- When a map equals the members of an object.
use Rattle.std.specs.Prelude.{◌≡◌, List, length, String, string_bytes}
use Rattle.std.specs.List.{AllByRecursion}
use Rattle.std.specs.Option.{IsSomeAnd}
use Rattle.sj_base.specs.Containers.{members_len}
use Rattle.sj_base.specs.Path.{member_at}
use Rattle.sj_base.specs.Tree.{Tree, Members}

-- each key finds a value that equals the map's
abbrev pub EqualsFound : {U Y : Type 0} → (U → Tree → Type 0) → List (String Y × U) → Members → Type 0
EqualsFound equals entries ms = AllByRecursion (λ e. IsSomeAnd (member_at ms (string_bytes e.0)) (equals e.1)) entries

-- the same, and there are as many members as entries
abbrev pub EqualsAll : {U Y : Type 0} → (U → Tree → Type 0) → List (String Y × U) → Members → Type 0
EqualsAll equals entries ms = (members_len ms ≡ length entries) × EqualsFound equals entries ms
