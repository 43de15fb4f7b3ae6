-- Each mask is combined from those of the classes, for any bytes before that the carry speaks of.
use Rattle.std.proofs.Common.{◌<◌, ap, ◌∙◌, arith}
use Rattle.sj_scan.specs.Positions.{is_separated}
use Rattle.sj_scan.specs.inside.Masks.{first_if, all_if}
use Rattle.sj_scan.specs.inside.Blocks.{before_in}
use Rattle.sj_scan.proofs.Blocks.{Marks-after, Marks-inside, Marks-separators, Marks-positions, Marks-controls}
use Rattle.sj_scan.proofs.masks.Carry.masks.Goals as goal

pub returns-clause-positions : goal.returns-clause-positions
unfolding before_in
returns-clause-positions c = λ before block precedes classified.
    let quotes = c.real_quotes-quotes.result.0 in
    let real = c.real_quotes-quotes.ensures.quotes before block precedes.odd_backslashes classified in
    let separators = Marks-separators before block quotes real classified.whitespace classified.operators in
    Marks-positions before block quotes real (Marks-inside before block quotes real (Marks-after before block quotes real precedes.inside c.prefix_xor.ensures))
    classified.whitespace classified.operators (c.shifted-separated.ensures (λ place. is_separated (before_in before block place)) precedes.separated separators)

pub returns-clause-controls : goal.returns-clause-controls
returns-clause-controls c = λ before block precedes classified.
    let quotes = c.real_quotes-quotes.result.0 in
    let real = c.real_quotes-quotes.ensures.quotes before block precedes.odd_backslashes classified in
    Marks-controls before block quotes real classified.below_space (Marks-inside before block quotes real (Marks-after before block quotes real precedes.inside c.prefix_xor.ensures))

pub returns-clause-carry : goal.returns-clause-carry
returns-clause-carry c = λ before block precedes classified.
    let quotes = c.real_quotes-quotes.result.0 in
    let real = c.real_quotes-quotes.ensures.quotes before block precedes.odd_backslashes classified in
    let after = Marks-after before block quotes real precedes.inside c.prefix_xor.ensures in
    let separators = Marks-separators before block quotes real classified.whitespace classified.operators in
    let last : 63 < 64 = omega arith in
    record {
      odd_backslashes = c.real_quotes-quotes.ensures.carry before block precedes.odd_backslashes classified;
      inside = c.spread.ensures _ c.last.ensures ∙ ap all_if (after.bits 63 last);
      separated = c.last-2.ensures ∙ ap first_if (separators.bits 63 last);
    }
