use Rattle.std.specs.Str.{all_ascii_digits}
use Rattle.std.specs.Str.Parse.{digits_value}
use Rattle.std.proofs.Common.{◌≡◌, true, Err, sym}
use Rattle.std.proofs.lemmas.Str.Parse.{IsNumeralModel, numerals_by_value, tells_all_ascii_digits, parse_digits}
use Rattle.sj_base.proofs.Literals.{IsWhole-from_is_whole, all_digits-from_AllDigits, out_of_range}
use Rattle.sj_base.proofs.NumberBytes.{whole_digits, whole_some}
use Rattle.sj_base.proofs.number.is_in_range.Goals as goal

own : IsNumeralModel (λ ds. all_ascii_digits ds ≡ true) (digits_value 10)
own = numerals_by_value (λ ds. all_ascii_digits ds ≡ true) tells_all_ascii_digits

pub returns-in-Err : goal.returns-in-Err
returns-in-Err c =
    let digits = c.args.digits.now in
    let whole = IsWhole-from_is_whole digits c.requires in
    let says = rw c.in-Err.is at c.parse_u64.ensures in
    let large = parse_digits own 64 digits (Err c.in-Err.field-0) says (all_digits-from_AllDigits digits (whole_digits digits whole)) in
    sym (out_of_range c.args.is_negative (digits_value 10 digits) (λ fits. large (whole_some digits whole, fits)))
