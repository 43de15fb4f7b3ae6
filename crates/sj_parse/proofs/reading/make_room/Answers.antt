-- What is reserved adds no items.
use Rattle.std.proofs.Common.{◌∙◌}
use Rattle.std.proofs.lemmas.Result.{IfOk-from_err}
use Rattle.sj_parse.proofs.reading.make_room.Goals as goal

pub returns-in_err-reserve-clause-empty : goal.returns-in_err-reserve-clause-empty
returns-in_err-reserve-clause-empty c = (c.reserve.ensures.items ∙ c.requires, c.clear.ensures.items)

pub returns-in_err-reserve-clause-nodes : goal.returns-in_err-reserve-clause-nodes
returns-in_err-reserve-clause-nodes c = IfOk-from_err _ _ c.from_residual.ensures.0

pub returns-in_err-reserve-clause-stack : goal.returns-in_err-reserve-clause-stack
returns-in_err-reserve-clause-stack c = IfOk-from_err _ _ c.from_residual.ensures.0

pub returns-in_err-reserve-2-clause-empty : goal.returns-in_err-reserve-2-clause-empty
returns-in_err-reserve-2-clause-empty c =
    (c.reserve.ensures.items ∙ c.requires, c.reserve-2.ensures.items ∙ c.clear.ensures.items)

pub returns-in_err-reserve-2-clause-nodes : goal.returns-in_err-reserve-2-clause-nodes
returns-in_err-reserve-2-clause-nodes c = IfOk-from_err _ _ c.from_residual-in_err-reserve-2.ensures.0

pub returns-in_err-reserve-2-clause-stack : goal.returns-in_err-reserve-2-clause-stack
returns-in_err-reserve-2-clause-stack c = IfOk-from_err _ _ c.from_residual-in_err-reserve-2.ensures.0

pub returns-clause-empty : goal.returns-clause-empty
returns-clause-empty c = (c.reserve.ensures.items ∙ c.requires, c.reserve-2.ensures.items ∙ c.clear.ensures.items)
