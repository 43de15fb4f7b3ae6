-- The text by which a document is shown.
use Rattle.std.specs.Prelude.{◌≡◌, ℕ, List}
use Rattle.std.specs.Fmt.{IsPlainFormatter, HasWritten}
use Rattle.sj_base.specs.Text.{text}
use Rattle.sj_base.specs.Tree.{Tree, string}
use Rattle.sj_owned.specs.declared.display.FormatterOutput.{FormatterOutput}

-- a string itself, and the compact text of any other tree
abbrev pub shown : Tree → List ℕ
shown (string s) = s
shown t = text t

-- The formatter stays the same. If it formats as `{}` does, it has written these bytes and no others. Of any other formatter nothing is said.
abbrev pub Shows : {W : Type 0} → (W → List ℕ → W → Type 0) → FormatterOutput W → FormatterOutput W → List ℕ → Type 0
Shows took s t bytes =
    (t.formatter.ghost_name ≡ s.formatter.ghost_name) × (IsPlainFormatter s.formatter.now → HasWritten took s.formatter.now bytes t.formatter.now)
