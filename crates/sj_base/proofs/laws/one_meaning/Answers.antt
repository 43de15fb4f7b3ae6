use Rattle.sj_base.proofs.Meanings.{same_tree}
use Rattle.sj_base.proofs.laws.one_meaning.Goals as goal

-- what bytes spell is one tree
pub returns : goal.returns
returns c = same_tree
