use Rattle.std.proofs.Common.{length, ◌+◌, arith}
use Rattle.sj_base.proofs.Blocks.{kept_front}
use Rattle.sj_base.proofs.place.place_quoted.Goals as goal

pub returns-clause-kept : goal.returns-clause-kept
returns-clause-kept c =
    let at = c.args.at in
    kept_front c.args.buf.now c.place_plain-plain.new.buf at (at + 1 + length c.args.text.now) (omega arith) c.place_plain-plain.ensures.kept
