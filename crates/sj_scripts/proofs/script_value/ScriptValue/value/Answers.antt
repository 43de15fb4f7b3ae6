use Rattle.std.proofs.Common.{rules}
use Rattle.sj_scripts.proofs.script_value.ScriptValue.value.Goals as goal

pub returns : goal.returns
returns c = search rules
