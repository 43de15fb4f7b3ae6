use Rattle.sj_base.proofs.Compact.{text_back}
use Rattle.sj_base.proofs.Pretty.{pretty_back}
use Rattle.sj_base.proofs.laws.printing_reads_back.Goals as goal

-- a compact text spells its tree
pub returns-clause-compact : goal.returns-clause-compact
returns-clause-compact c = text_back

-- so does one with line breaks
pub returns-clause-indented : goal.returns-clause-indented
returns-clause-indented c = pretty_back
