use Rattle.sj_records.proofs.Total.{one_record}
use Rattle.sj_records.proofs.laws.one_record.Goals as goal

pub returns : goal.returns
returns c = one_record
