use Rattle.std.proofs.Common.{rules}
use Rattle.sj_parse.proofs.descent_fault.DescentKind.error_type.Goals as goal

pub returns-in-ExpectedTrue : goal.returns-in-ExpectedTrue
returns-in-ExpectedTrue c = search rules
