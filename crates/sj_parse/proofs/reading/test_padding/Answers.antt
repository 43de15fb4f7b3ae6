use Rattle.std.proofs.Common.{rules}
use Rattle.sj_parse.proofs.reading.test_padding.Goals as goal

pub returns-then-s-len-clause-err : goal.returns-then-s-len-clause-err
returns-then-s-len-clause-err c = search rules

pub returns-then-s-len-clause-not_padded : goal.returns-then-s-len-clause-not_padded
returns-then-s-len-clause-not_padded c = search rules
