use Rattle.std.proofs.Common.{map}
use Rattle.std.proofs.lemmas.Result.{IfOk-weaker}
use Rattle.records_program.proofs.Matches.{rows_in-parse, app-free, kinds_of-app}
use Rattle.records_program.proofs.arguments.parse_words.Goals as goal

pub returns-clause-rows : goal.returns-clause-rows
returns-clause-rows g c =
    IfOk-weaker _ _ _ (λ m h. rows_in-parse _ (map g.S.AsStr.text c.args.words.now) m c.in_ok-command.ensures h) c.try_get_matches_from.ensures.matches

pub returns-clause-kinds : goal.returns-clause-kinds
returns-clause-kinds g c =
    let is = c.in_ok-command.ensures in
    rw (← kinds_of-app _ _ is) (c.try_get_matches_from.ensures.kinds (app-free _ is))
