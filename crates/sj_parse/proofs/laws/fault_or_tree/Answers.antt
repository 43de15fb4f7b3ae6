use Rattle.sj_parse.proofs.Documents.{fault_or_tree}
use Rattle.sj_parse.proofs.laws.fault_or_tree.Goals as goal

-- a text without a fault is a document, and the other way round
pub returns : goal.returns
returns c = fault_or_tree
