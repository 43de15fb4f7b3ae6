use Rattle.sj_records.proofs.Reloaded.{reload_changes_nothing, reload_pp_changes_nothing}
use Rattle.sj_records.proofs.laws.reload_changes_nothing.Goals as goal

pub returns-clause-compact : goal.returns-clause-compact
returns-clause-compact c = reload_changes_nothing

pub returns-clause-indented : goal.returns-clause-indented
returns-clause-indented c = reload_pp_changes_nothing
