use Rattle.sj_records.proofs.Continued.{scripts_continue}
use Rattle.sj_records.proofs.laws.scripts_continue.Goals as goal

pub returns : goal.returns
returns c = scripts_continue c.printing_reads_back.ensures.compact
