use Rattle.std.proofs.Common.{length, ap, arith}
use Rattle.std.proofs.lemmas.Grind.{common_steps}
use Rattle.sj_scripts.specs.Script.{command_view}
use Rattle.sj_scripts.proofs.ScriptSteps.{nullary-other}
use Rattle.sj_scripts.proofs.commands.read_nullary.Goals as goal

pub returns-then-not-is_empty : goal.returns-then-not-is_empty
returns-then-not-is_empty c = nullary-other (command_view c.args.command) c.args.arguments.now (λ is. let none = ap (λ vs. length vs) is in grind (arith, common_steps))
