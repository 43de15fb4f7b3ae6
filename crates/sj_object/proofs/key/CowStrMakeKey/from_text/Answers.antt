use Rattle.std.proofs.Common.{refl}
use Rattle.sj_object.proofs.key.CowStrMakeKey.from_text.Goals as goal

pub returns-clause-text : goal.returns-clause-text
returns-clause-text c = refl
