use Rattle.std.proofs.lemmas.Result.{IfOk-from_err}
use Rattle.sj_owned.proofs.Made.{zip_more}
use Rattle.sj_owned.proofs.from.convert_into.Goals as goal

pub loop-value-preserved : goal.loop-value-preserved
loop-value-preserved g c =
    rw c.in_ok-push.ensures.items (zip_more g.S.Into.converts c.loop-value.yielded c.loop-value.items.items c.in-Some.value c.into.result c.loop-value.invariant c.into.ensures)

pub loop-value-init : goal.loop-value-init
loop-value-init g c = rw c.requires.empty tt

pub next-requires : goal.next-requires
next-requires g c = c.loop-value.iterator.0

pub returns-in_err-push : goal.returns-in_err-push
returns-in_err-push g c = IfOk-from_err c.from_residual.result _ c.from_residual.ensures.0

pub returns : goal.returns
returns g c = (
  c.into_iter-value-iterator.result,
  c.loop-value.yielded,
  c.into_iter-value-iterator.ensures.into_iter_gives,
  (c.next.new.self, (c.loop-value.value-iterator, c.loop-value.yielded_by, c.in-None.ensures.steps)),
  c.loop-value.invariant,
)

pub loop-value-smaller : goal.loop-value-smaller
loop-value-smaller g c = (c.in-Some.ensures.goes.on c.loop-value.iterator.1).2
