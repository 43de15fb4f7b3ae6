-- What each part of the state becomes, where the state before follows the bytes.
use Rattle.std.proofs.Common.{◌==◌}
use Rattle.sj_scan.specs.Positions.{is_real_quote, backslashes, real_quotes}
use Rattle.sj_scan.proofs.States.{is_odd-run, is_odd-quotes}
use Rattle.sj_scan.proofs.plain.State.next.Goals as goal

pub returns : goal.returns
returns c = λ before follows.
    let odd = follows.odd_backslashes in
    let open_before = follows.inside in
    let real = c.is_real_quote-is_real_quote.ensures before follows in
    record {
      odd_backslashes = rw odd (is_odd-run (c.args.byte == 0x5c) (backslashes before));
      inside = rw (open_before, real) (is_odd-quotes (is_real_quote before c.args.byte) (real_quotes before));
      separated = cc (c.is_whitespace.ensures, c.is_operator.ensures, real);
    }
