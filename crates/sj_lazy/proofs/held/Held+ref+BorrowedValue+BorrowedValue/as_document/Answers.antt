use Rattle.std.proofs.Common.{rules}
use Rattle.sj_lazy.proofs.held.Held+ref+BorrowedValue+BorrowedValue.as_document.Goals as goal

pub returns-in-Owned : goal.returns-in-Owned
returns-in-Owned c = search rules
