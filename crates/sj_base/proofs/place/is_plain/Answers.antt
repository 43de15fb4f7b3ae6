use Rattle.std.proofs.Common.{rules}
use Rattle.sj_base.proofs.place.is_plain.Goals as goal

pub returns-then-byte-ne34 : goal.returns-then-byte-ne34
returns-then-byte-ne34 c = search rules
