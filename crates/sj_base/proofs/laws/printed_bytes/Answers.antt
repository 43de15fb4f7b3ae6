use Rattle.sj_base.specs.Text.{text, pretty}
use Rattle.sj_base.proofs.Compact.{text_back}
use Rattle.sj_base.proofs.Pretty.{pretty_back}
use Rattle.sj_base.proofs.Utf8.{only_utf8}
use Rattle.sj_base.proofs.OneLine.{text_visible}
use Rattle.sj_base.proofs.laws.printed_bytes.Goals as goal

-- a compact text spells its tree, so it is UTF-8
pub returns-clause-compact : goal.returns-clause-compact
returns-clause-compact c = λ t h. only_utf8 (text t) t (text_back t h)

-- so does one with line breaks
pub returns-clause-indented : goal.returns-clause-indented
returns-clause-indented c = λ t h. only_utf8 (pretty t) t (pretty_back t h)

-- no byte of a compact text is below 0x20
pub returns-clause-one_line : goal.returns-clause-one_line
returns-clause-one_line c = text_visible
