use Rattle.std.proofs.Common.{◌≡◌, ℕ, ◌+◌, ◌-◌, ◌++◌, take, drop, sym, ap, ◌∙◌, arith}
use Rattle.std.proofs.lemmas.Simd.{length-chunk, take_more_put_chunk}
use lib.Lanes.{chunk}
use Rattle.sj_base.proofs.place.place_block.Goals as goal

pub returns-clause-front : goal.returns-clause-front
returns-clause-front g c =
    let n = g.row.N in
    let at = c.args.at in
    let from = c.args.from in
    let text = c.args.text.now in
    let block = chunk from n text in
    let long = length-chunk from n text c.requires.within in
    let count : n ≡ from + n - from = omega arith in
    take_more_put_chunk at c.args.buf.now block (at + n) (ap (λ (k : ℕ). at + k) (sym long)) c.requires.room
    ∙ ap (λ (k : ℕ). take at c.args.buf.now ++ take k (drop from text)) count
