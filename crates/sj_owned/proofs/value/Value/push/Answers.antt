use Rattle.std.proofs.Common.{rules}
use Rattle.sj_owned.proofs.Edits.{array_pushed, same_items, ok_of, err_of}
use Rattle.sj_owned.specs.declared.value.Value.{the_lemmas}
use Rattle.sj_owned.proofs.value.Value.push.Goals as goal
use Rattle.sj_owned.proofs.value.Value.push.Goals.{in-Ok, in-Err}

pub returns-after-push-clause-tree : goal.returns-after-push-clause-tree
returns-after-push-clause-tree g c =
    let text = g.K.ObjectKey.text in
    let literal = g.D.Literal.literal in
    elim c.match-push.branch [
      | in-Ok w ↦
          let pushed = rw (c.in-Array.items-is, w.in-Ok.is) at c.push.ensures.items in
          ok_of _ c.match-push.result _ w.result-is (array_pushed text literal c.args.self.now c.in-Array.items c.push.new.self c.args.value c.in-Array.is pushed (search (rules, the_lemmas)))
      | in-Err w ↦ ok_of _ c.match-push.result _ w.result-is tt
    ]

pub returns-after-push-clause-unchanged : goal.returns-after-push-clause-unchanged
returns-after-push-clause-unchanged g c =
    let text = g.K.ObjectKey.text in
    let literal = g.D.Literal.literal in
    elim c.match-push.branch [
      | in-Ok w ↦ err_of _ c.match-push.result _ w.result-is tt
      | in-Err w ↦
          let kept = rw (c.in-Array.items-is, w.in-Err.is) at c.push.ensures.items in
          err_of _ c.match-push.result _ w.result-is (same_items text literal c.args.self.now c.in-Array.items c.push.new.self c.in-Array.is kept (search (rules, the_lemmas)))
    ]
