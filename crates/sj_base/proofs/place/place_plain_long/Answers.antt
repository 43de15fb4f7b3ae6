use Rattle.std.proofs.Common.{◌+◌, ◌-◌, length, take, arith, ◌∙◌}
use Rattle.sj_base.proofs.Blocks.{more_placed, last_placed, kept_before, plain_more_block}
use Rattle.sj_base.proofs.place.place_plain_long.Goals as goal

pub returns-then-not-place_block-clause-kept : goal.returns-then-not-place_block-clause-kept
returns-then-not-place_block-clause-kept c =
    let kept = c.loop-done.invariant in
    let old = c.args.buf.now in
    let text = c.args.text.now in
    let at = c.args.at in
    let done = c.loop-done.done in
    kept_before old c.place_block.new.buf (take (done + 32) text) at (at + (done + 32)) (omega (arith, c.requires.room)) (omega arith) (more_placed old text c.loop-done.buf c.place_block.new.buf at done 32 kept.1 c.place_block.ensures.front)

pub loop-done-preserved : goal.loop-done-preserved
loop-done-preserved c =
    let kept = c.loop-done.invariant in
    let text = c.args.text.now in
    let done = c.loop-done.done in
    let stored = c.place_block.ensures in (
      omega (arith, c.loop-done-test.true),
      more_placed c.args.buf.now text c.loop-done.buf c.place_block.new.buf c.args.at done 32 kept.1 stored.front,
      stored.len ∙ kept.2,
      plain_more_block text done 32 kept.3 (stored.plain c.if-not-place_block.false),
    )

pub returns-clause-kept : goal.returns-clause-kept
returns-clause-kept c =
    let kept = c.loop-done.invariant in
    let old = c.args.buf.now in
    let text = c.args.text.now in
    let at = c.args.at in
    kept_before old c.place_block-2.new.buf text at (at + length text) (omega (arith, c.requires.room)) (omega arith) (last_placed old text c.loop-done.buf c.place_block-2.new.buf at c.loop-done.done (length text - 32) 32 (omega (arith, c.requires.room)) kept.1 (omega (arith, c.loop-done-test.false)) (omega (arith, kept.0)) (omega (arith, c.requires.long)) c.place_block-2.ensures.front)

pub returns-clause-front : goal.returns-clause-front
returns-clause-front c =
    let kept = c.loop-done.invariant in
    let text = c.args.text.now in
    λ whole. last_placed c.args.buf.now text c.loop-done.buf c.place_block-2.new.buf c.args.at c.loop-done.done (length text - 32) 32 (omega (arith, c.requires.room)) kept.1 (omega (arith, c.loop-done-test.false)) (omega (arith, kept.0)) (omega (arith, c.requires.long)) c.place_block-2.ensures.front
