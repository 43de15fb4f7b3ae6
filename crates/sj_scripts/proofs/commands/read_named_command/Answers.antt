use Rattle.std.proofs.Common.{rules}
use Rattle.sj_scripts.proofs.commands.read_named_command.Goals as goal

pub returns-in_ok-path-in-remove : goal.returns-in_ok-path-in-remove
returns-in_ok-path-in-remove c = search rules
