use Rattle.sj_records.proofs.Along.{depth_stays}
use Rattle.sj_records.proofs.KeptAlong.{none_is_repeated}
use Rattle.sj_records.proofs.laws.depth_stays.Goals as goal

pub returns-clause-depth : goal.returns-clause-depth
returns-clause-depth c = depth_stays

pub returns-clause-keys : goal.returns-clause-keys
returns-clause-keys c = none_is_repeated
