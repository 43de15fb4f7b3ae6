use Rattle.sj_records.proofs.Total.{one_reading}
use Rattle.sj_records.proofs.laws.one_reading.Goals as goal

pub returns : goal.returns
returns c = one_reading
