use Rattle.std.proofs.Common.{rules}
use Rattle.sj_object.proofs.key.StringMakeKey.from_text.Goals as goal

pub returns : goal.returns
returns c = search rules
