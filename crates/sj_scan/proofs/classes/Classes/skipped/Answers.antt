use Rattle.std.proofs.Common.{◌==◌, refl}
use Rattle.std.specs.Prelude.{nat_lt}
use Rattle.sj_scan.specs.Positions.{is_operator, is_whitespace}
use Rattle.sj_scan.proofs.Skips.{Marks-skipped, Marks-skipped_whitespace}
use Rattle.sj_scan.proofs.classes.Classes.skipped.Goals as goal

pub returns : goal.returns
returns c = λ block long classified.
    let self = c.args.self in
    let count = c.args.count in
    record {
      backslashes = Marks-skipped block count long c.requires (λ byte. byte == 0x5c) self.backslashes classified.backslashes refl;
      quotes = Marks-skipped block count long c.requires (λ byte. byte == 0x22) self.quotes classified.quotes refl;
      operators = Marks-skipped block count long c.requires is_operator self.operators classified.operators refl;
      whitespace = Marks-skipped_whitespace block count long c.requires is_whitespace self.whitespace classified.whitespace refl;
      below_space = Marks-skipped block count long c.requires (λ byte. nat_lt byte 0x20) self.below_space classified.below_space refl;
    }
