use Rattle.sj_records.proofs.Histories.{histories_stand}
use Rattle.sj_records.proofs.laws.histories_stand.Goals as goal

pub returns : goal.returns
returns c = histories_stand
