use Rattle.std.proofs.Common.{length}
use Rattle.sj_documents.proofs.edit.+edit_at.Given as goal

abbrev pub decreases-edit_at : goal.decreases-edit_at
decreases-edit_at g l = length l.path.now
