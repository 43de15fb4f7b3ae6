use Rattle.std.proofs.Common.{drop, arith}
use Rattle.std.proofs.lemmas.Grind.{common_steps}
use Rattle.sj_parse.specs.Token.{word}
use Rattle.sj_parse.proofs.NumberLemmas.{shape-number}
use Rattle.sj_parse.proofs.ValueSteps.{all_behind}
use Rattle.sj_parse.proofs.scalars.split_number.Goals as goal

pub split_at_mut-from_word-requires : goal.split_at_mut-from_word-requires
split_at_mut-from_word-requires c =
    let fits = c.requires.cut.0 (shape-number (word (drop c.args.skip c.args.rest.now)) c.in-Some.shape (rw (all_behind c.args.rest.now c.args.skip) at c.in-Some.ensures.shape)) in grind (arith, common_steps)

pub split_at_mut-word-requires : goal.split_at_mut-word-requires
split_at_mut-word-requires c =
    let fits = c.requires.cut.0 (shape-number (word (drop c.args.skip c.args.rest.now)) c.in-Some.shape (rw (all_behind c.args.rest.now c.args.skip) at c.in-Some.ensures.shape)) in grind (arith, common_steps)
