use Rattle.sj_base.proofs.LaidOut.{lists_laid_out, objects_laid_out}
use Rattle.sj_base.proofs.laws.laid_out.Goals as goal

pub returns-clause-lists : goal.returns-clause-lists
returns-clause-lists c = lists_laid_out

pub returns-clause-objects : goal.returns-clause-objects
returns-clause-objects c = objects_laid_out
