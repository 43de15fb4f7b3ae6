use Rattle.std.proofs.Common.{rules}
use Rattle.sj_object.proofs.hash.hash_key.Goals as goal

pub returns : goal.returns
returns c = search rules
