use Rattle.sj_base.proofs.Alike.{alike_by_count}
use Rattle.sj_base.proofs.laws.alike_objects.Goals as goal

pub returns : goal.returns
returns c = alike_by_count
