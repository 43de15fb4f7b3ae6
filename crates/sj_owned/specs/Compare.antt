-- When two documents are equal.
use Rattle.std.specs.Prelude.{Bool}
use Rattle.sj_base.specs.Tree.{Tree}
use Rattle.sj_base.specs.Keep.{keep}
use Rattle.sj_base.specs.Alike.{alike}

-- `alike` of what is kept of the trees. A document's tree is kept already, so for documents it is `alike`.
abbrev pub kept_alike : Tree → Tree → Bool
kept_alike s t = alike (keep s) (keep t)
