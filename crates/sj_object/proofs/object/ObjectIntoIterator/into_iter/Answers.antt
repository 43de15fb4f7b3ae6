use Rattle.std.proofs.Common.{rules}
use Rattle.sj_object.proofs.object.ObjectIntoIterator.into_iter.Goals as goal

pub returns : goal.returns
returns c = search rules
