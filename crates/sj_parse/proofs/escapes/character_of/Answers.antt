use Rattle.std.proofs.Common.{rules}
use Rattle.sj_parse.proofs.escapes.character_of.Goals as goal

pub returns-in-Some : goal.returns-in-Some
returns-in-Some c = search rules
