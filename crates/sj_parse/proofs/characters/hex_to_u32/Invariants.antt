use Rattle.std.proofs.Common.{◌≡◌, take}
use Rattle.std.specs.Str.Parse.{AllDigits, digits_value}
use Rattle.sj_parse.proofs.characters.hex_to_u32.Given as goal

abbrev pub invariant-loop-digit : goal.invariant-loop-digit
invariant-loop-digit l = AllDigits 16 (take l.digit-index l.digits) × (l.number ≡ digits_value 16 (take l.digit-index l.digits))
