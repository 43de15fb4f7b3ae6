use Rattle.std.proofs.Common.{List, [], ◌∷◌, ◌++◌, refl, sym, ap, ◌∙◌, rules}
use Rattle.sj_object.specs.Pairs.{put_key}
use Rattle.sj_object.specs.declared.entry.Entry.{Entry}
use Rattle.sj_owned.specs.From.{IsPairOf}
use Rattle.sj_owned.specs.declared.value.Value.{Value, the_lemmas}
use Rattle.std.proofs.lemmas.Result.{IfOk-from_err}
use Rattle.sj_owned.proofs.Made.{zip_more, one_more_put}
use Rattle.sj_owned.proofs.value.Value.from_pairs.Goals as goal

pub loop-key-preserved : goal.loop-key-preserved
loop-key-preserved g c =
    let text = g.K.ObjectKey.text in
    let inv = c.loop-key.invariant in
    let e : Entry g.row.K.Denot (Value g.row.K.Denot g.row.D.Denot) = record { key = c.in-Some.key; value = c.into.result } in
    let start : List (Entry g.row.K.Denot (Value g.row.K.Denot g.row.D.Denot)) = [] in (
      inv.0 ++ e ∷ [],
      zip_more (IsPairOf g.S.Into.converts) c.loop-key.yielded inv.0 (c.in-Some.key, c.in-Some.value) e inv.1 (refl, c.into.ensures),
      c.in_ok-insert.ensures ∙ ap (λ es. put_key text es e.key e.value) inv.2 ∙ sym (one_more_put text start inv.0 e),
    )

pub loop-key-init : goal.loop-key-init
loop-key-init g c = ([], tt, c.new-members.ensures)

pub next-requires : goal.next-requires
next-requires g c = c.loop-key.iterator.0

pub returns-in_err-insert : goal.returns-in_err-insert
returns-in_err-insert g c = IfOk-from_err c.from_residual.result _ c.from_residual.ensures.0

pub returns : goal.returns
returns g c =
    let inv = c.loop-key.invariant in (
      c.into_iter-key-iterator.result,
      c.loop-key.yielded,
      c.into_iter-key-iterator.ensures.into_iter_gives,
      (c.next.new.self, (c.loop-key.key-iterator, c.loop-key.yielded_by, c.in-None.ensures.steps)),
      (inv.0, inv.1, rw inv.2 (search (rules, the_lemmas))),
    )

pub loop-key-smaller : goal.loop-key-smaller
loop-key-smaller g c = (c.in-Some.ensures.goes.on c.loop-key.iterator.1).2
