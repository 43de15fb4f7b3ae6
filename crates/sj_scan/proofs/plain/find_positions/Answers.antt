-- One more place: the tests of the state are those of the definitions, since the state follows the bytes before it.
use Rattle.std.proofs.Common.{ℕ, ◌<◌, length, ap, sym, ◌∙◌, arith, Vec, Global}
use Rattle.sj_scan.specs.Positions.{before, is_position_at}
use Rattle.sj_scan.specs.Scan.{is_control_at}
use Rattle.sj_scan.proofs.Places.{filter-passes, filter-fails, list_any-more, before-more}
use Rattle.sj_scan.proofs.plain.find_positions.Goals as goal
use Rattle.sj_scan.proofs.plain.find_positions.Goals.{then-is_position+in_ok-push, else-is_position}

pub loop-place-preserved : goal.loop-place-preserved
loop-place-preserved c =
    let bytes = c.args.bytes.now in
    let place = c.loop-place.place in
    let so_far = c.loop-place.invariant in
    let within : place < length bytes = omega arith in
    let tested = c.is_position.ensures (before bytes place) so_far.follows in
    let more = before-more bytes place within in
    record {
      positions = elim c.if-is_position.branch [
        | then-is_position+in_ok-push w ↦ ap (λ (v : Vec ℕ Global). v.items) w.out-is ∙ w.in_ok-push.ensures.items ∙ filter-passes (is_position_at bytes) place c.loop-place.out.items so_far.positions (sym tested ∙ w.if-is_position.true)
        | else-is_position w ↦ ap (λ (v : Vec ℕ Global). v.items) w.out-is ∙ filter-fails (is_position_at bytes) place c.loop-place.out.items so_far.positions (sym tested ∙ w.if-is_position.false)
      ];
      control = list_any-more (is_control_at bytes) place c.loop-place.has_control c.is_control-has_control.result so_far.control (c.is_control-has_control.ensures (before bytes place) so_far.follows);
      follows = rw more (c.next-state.ensures (before bytes place) so_far.follows);
      few = elim c.if-is_position.branch [
        | then-is_position+in_ok-push w ↦ let len = w.in_ok-push.ensures.len in let few = so_far.few in rw w.out-is (omega arith)
        | else-is_position w ↦ let few = so_far.few in rw w.out-is (omega arith)
      ];
      capacity = elim c.if-is_position.branch [
        | then-is_position+in_ok-push w ↦ let grown = w.in_ok-push.ensures.capacity in let so_far_grown = so_far.capacity in rw w.out-is (omega arith)
        | else-is_position w ↦ rw w.out-is so_far.capacity
      ];
    }
