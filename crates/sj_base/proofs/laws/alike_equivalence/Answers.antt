use Rattle.sj_base.proofs.Alike.{alike_to_itself, alike_both_ways, alike_in_turn}
use Rattle.sj_base.proofs.laws.alike_equivalence.Goals as goal

pub returns-clause-reflexive : goal.returns-clause-reflexive
returns-clause-reflexive c = alike_to_itself

pub returns-clause-symmetric : goal.returns-clause-symmetric
returns-clause-symmetric c = alike_both_ways

pub returns-clause-transitive : goal.returns-clause-transitive
returns-clause-transitive c = alike_in_turn
