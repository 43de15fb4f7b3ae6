-- One more block: all of its bytes are the text's.
use Rattle.std.proofs.Common.{◌+◌, ◌≤◌, ◌||◌, ◌++◌, length, take, refl, sym, ap, ap₂, subst, ◌∙◌, arith, length-append, take-add}
use lib.Lanes.{chunk}
use Rattle.simdutf8.specs.Tracks.{HasRead}
use Rattle.sj_scan.specs.Positions.{before, is_position, is_position_at}
use Rattle.sj_scan.specs.Scan.{is_control, is_control_at}
use Rattle.sj_scan.specs.inside.Masks.{set_places}
use Rattle.sj_scan.specs.inside.Blocks.{Precedes}
use Rattle.sj_scan.proofs.Walks.{filter-range, list_any-range, or-zero, IsFilled-whole, before_in-all, set_places-is, any_set-is, is_position-space, is_control-space, length-filter_range}
use Rattle.sj_scan.proofs.block_scan.read_blocks.Goals as goal

pub loop-walk-preserved : goal.loop-walk-preserved
loop-walk-preserved c =
    let bytes = c.args.bytes.now in
    let at = c.loop-walk.walk.at in
    let block = chunk at 64 bytes in
    let walked = c.loop-walk.invariant.walked in
    let within : at + 64 ≤ length bytes = omega arith in
    let filled = IsFilled-whole bytes at within in
    let marked = set_places-is bytes block at 64 filled is_position is_position-space c.masks.result.0.positions (c.masks.ensures.positions (before bytes at) block walked.carry c.of.ensures) in
    let controlled = any_set-is bytes block at 64 filled is_control is_control-space c.masks.result.0.controls (c.masks.ensures.controls (before bytes at) block walked.carry c.of.ensures) in
    let found = c.push_places.ensures.items in
    record {
      walked = record {
        within = within;
        positions = found ∙ ap₂ (λ xs ys. xs ++ ys) walked.positions marked ∙ filter-range (is_position_at bytes) at 64;
        control = or-zero c.loop-walk.walk.controls c.masks.result.0.controls ∙ ap₂ (λ x y. x || y) walked.control controlled ∙ list_any-range (is_control_at bytes) at 64;
        utf8 = subst (HasRead c.step.result) (sym (take-add at 64 bytes)) (c.step.ensures (take at bytes) walked.utf8);
        carry = subst (λ earlier. Precedes earlier c.masks.result.1) (before_in-all bytes block at 64 filled refl) (c.masks.ensures.carry (before bytes at) block walked.carry c.of.ensures);
      };
      left = omega arith;
      few =
          let longer = ap length found in
          let sum = length-append c.loop-walk.out.items (set_places 64 at c.masks.result.0.positions) in
          let places = ap length marked in
          let most = length-filter_range (is_position_at bytes) at 64 in
          omega arith;
      capacity = omega arith;
    }
