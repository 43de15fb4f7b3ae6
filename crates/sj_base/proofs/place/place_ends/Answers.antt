use Rattle.std.proofs.Common.{◌≡◌, ◌+◌, ◌-◌, ◌++◌, ℕ, length, take, ap, arith, ◌∙◌}
use Rattle.sj_base.proofs.Blocks.{last_placed}
use Rattle.sj_base.proofs.place.place_ends.Goals as goal

pub returns-clause-front : goal.returns-clause-front
returns-clause-front g c =
    let text = c.args.text.now in
    let n = g.row.N in
    let count : 0 + n - 0 ≡ n = omega arith in
    let front = c.place_block-front.ensures.front ∙ ap (λ (k : ℕ). take c.args.at c.args.buf.now ++ take k text) count in
    last_placed c.args.buf.now text c.place_block-front.new.buf c.place_block.new.buf c.args.at n (length text - n) n (omega (arith, c.requires.room)) front (omega (arith, c.requires.covers.1)) c.requires.covers.0 (omega (arith, c.requires.covers.0)) c.place_block.ensures.front
