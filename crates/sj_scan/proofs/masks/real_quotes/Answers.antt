use Rattle.std.proofs.Common.{ap, ◌∙◌, arith}
use Rattle.sj_scan.specs.Positions.{is_odd, backslashes}
use Rattle.sj_scan.specs.inside.Masks.{first_if}
use Rattle.sj_scan.proofs.Blocks.{Marks-real, odd_run-is}
use Rattle.sj_scan.proofs.masks.real_quotes.Goals as goal

pub returns-clause-quotes : goal.returns-clause-quotes
returns-clause-quotes c = λ before block carry classified.
    Marks-real before block classified.backslashes (c.escaped-escaped.ensures.places (is_odd (backslashes before)) carry) classified.quotes

pub returns-clause-carry : goal.returns-clause-carry
returns-clause-carry c = λ before block carry classified.
    c.escaped-escaped.ensures.carry (is_odd (backslashes before)) carry ∙ ap first_if (odd_run-is before block c.args.classes.backslashes classified.backslashes 64 (omega arith))
