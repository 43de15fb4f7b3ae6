use Rattle.std.proofs.Common.{ℕ, List, ◌++◌, take, drop, sym, ap, ◌∙◌, append_assoc, arith}
use Rattle.std.proofs.lemmas.List.{take_rest, take-append-drop}
use Rattle.std.proofs.KnownBytes.{Appends-trans}
use Rattle.sj_base.proofs.Misses.{unsuccessful-some}
use Rattle.sj_base.proofs.output.AnyOutput.put.Goals as goal

pub loop-rest-preserved : goal.loop-rest-preserved
loop-rest-preserved g c =
    let so_far = c.loop-rest.invariant in
    let rest = c.loop-rest.rest.now in
    let n = c.in-Ok.taken in (
      so_far.0 ++ take n rest,
      rw take_rest (so_far.1 ∙ ap (λ (l : List ℕ). so_far.0 ++ l) (sym (take-append-drop n rest)) ∙ sym (append_assoc so_far.0 (take n rest) (drop n rest))),
      Appends-trans (g.W.Sink.contents c.args.self.now) (g.W.Sink.contents c.loop-rest.self) (g.W.Sink.contents c.write.new.self) so_far.0 (take n rest) so_far.2 c.in-Ok.ensures.bytes,
      unsuccessful-some (g.W.Sink.calls c.loop-rest.self) (g.W.Sink.calls c.write.new.self) rest n (omega arith) c.in-Ok.ensures.ok_counts ∙ so_far.3,
    )
