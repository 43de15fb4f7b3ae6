use Rattle.std.specs.Bool.{one_answer}
use Rattle.sj_tape.proofs.Comparing.{value_eq-Decides}
use Rattle.sj_tape.proofs.compare.ValuePartialEq.eq.Goals as goal

pub returns-clause-value : goal.returns-clause-value
returns-clause-value c = one_answer _ _ c.same.ensures (value_eq-Decides c.args.self.now c.args.other.now)
