use Rattle.std.proofs.Common.{rules}
use Rattle.sj_documents.proofs.edit.StringScriptTextDecimalBuf.take_owned.Goals as goal

pub returns : goal.returns
returns c = search rules
