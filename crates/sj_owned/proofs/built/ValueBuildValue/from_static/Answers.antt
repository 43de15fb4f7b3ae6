use Rattle.std.proofs.Common.{rules}
use Rattle.sj_owned.proofs.built.ValueBuildValue.from_static.Goals as goal

pub returns-clause-value : goal.returns-clause-value
returns-clause-value g c = search rules
