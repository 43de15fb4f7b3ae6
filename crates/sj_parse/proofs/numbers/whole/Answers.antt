use Rattle.std.specs.Prelude.{◌≡◌, ℕ, ◌<◌, ◌^◌, true, List, length, Result, Ok, Err, SomeIff}
use Rattle.std.specs.Result.{result_ok}
use Rattle.std.specs.Str.{all_ascii_digits}
use Rattle.std.specs.Str.Parse.{digits_value, ParsesUnsigned}
use Rattle.std.proofs.Common.{arith}
use Rattle.std.proofs.lemmas.Str.Parse.{parse_digits}
use Rattle.sj_parse.proofs.DigitValues.{own}
use Rattle.sj_parse.proofs.NumberLemmas.{whole-digits}
use Rattle.sj_parse.proofs.numbers.whole.Goals as goal

-- what a parsed integer says
parsed : (E : Type 0) (ds : List ℕ) (r : Result ℕ E) → all_ascii_digits ds ≡ true → 0 < length ds → ParsesUnsigned 64 10 ds r → SomeIff (result_ok r) (digits_value 10 ds < 2 ^ 64) (digits_value 10 ds)
parsed E ds (Ok n) digits some says =
    let k = parse_digits own {E = E} 64 ds (Ok n) says digits in
    (k.0.1, k.1)
parsed E ds (Err e) digits some says =
    let k = parse_digits own {E = E} 64 ds (Err e) says digits in
    λ h. k (some, h)

pub value_of-requires : goal.value_of-requires
value_of-requires c = record {
  digits = whole-digits c.args.digits.now c.requires;
  few = omega (arith, c.if-digits-lt20.true);
}

pub returns-else-digits-lt20 : goal.returns-else-digits-lt20
returns-else-digits-lt20 c = rw c.ok.ensures.value (parsed _ c.args.digits.now c.parse_u64.result (whole-digits c.args.digits.now c.requires) (omega arith) c.parse_u64.ensures)
