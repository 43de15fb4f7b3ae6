use Rattle.std.proofs.Common.{rules}
use Rattle.sj_scripts.proofs.script.ScriptFault.put_fault.Goals as goal

pub returns : goal.returns
returns c = search rules
