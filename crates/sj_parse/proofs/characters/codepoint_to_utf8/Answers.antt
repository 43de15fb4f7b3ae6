use Rattle.std.proofs.Common.{refl}
use Rattle.sj_parse.proofs.characters.codepoint_to_utf8.Goals as goal

-- Nothing is written.
pub returns-in-None-clause-none : goal.returns-in-None-clause-none
returns-in-None-clause-none c = λ surrogate. (refl, refl)
