use Rattle.std.proofs.Common.{arith}
use Rattle.sj_scripts.proofs.ScriptSteps.{alone-other}
use Rattle.sj_scripts.proofs.commands.read_path_alone.Goals as goal

pub returns-then-arguments-ne1 : goal.returns-then-arguments-ne1
returns-then-arguments-ne1 c = alone-other c.args.arguments.now (λ is. omega arith)
