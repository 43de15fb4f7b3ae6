use Rattle.std.proofs.Common.{rules}
use Rattle.sj_scripts.proofs.script.Script.commands.Goals as goal

pub returns-clause-commands : goal.returns-clause-commands
returns-clause-commands c = search rules
