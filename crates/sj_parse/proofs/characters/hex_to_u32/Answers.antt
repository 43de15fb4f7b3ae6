use Rattle.std.specs.Prelude.{ℕ, zero, suc, ◌+◌, ◌*◌, ◌<◌, ◌≤◌, List, [], ◌∷◌, length, take}
use Rattle.std.specs.Char.{digit_value}
use Rattle.std.specs.Str.Parse.{AllDigits, digits_value}
use Rattle.std.proofs.Common.{◌∙◌, sym, ap₂, arith, get_or, length-take}
use Rattle.std.proofs.Math.Nat.{pow-le-pow_right}
use Rattle.std.proofs.lemmas.Int.Digits.{digits_value-lt, digits_more, digits_value_more}
use Rattle.sj_parse.proofs.characters.hex_to_u32.Goals as goal

below : (ds : List ℕ) (i : ℕ) → i < 4 → AllDigits 16 (take i ds) → digits_value 16 (take i ds) < 4096
below ds i few h =
    let lt = digits_value-lt 16 (take i ds) h in
    let len = length-take i ds in
    let some : 0 < 16 = omega arith in
    let short : length (take i ds) ≤ 3 = omega arith in
    let most = pow-le-pow_right {n = 16} some {i = length (take i ds)} {j = 3} short in
    omega arith

digit_in : (ds : List ℕ) (i : ℕ) → AllDigits 16 ds → i < length ds → digit_value (get_or ds i 0) < 16
digit_in [] i h lt = absurd (omega arith)
digit_in (d ∷ ds) zero h lt = h.0
digit_in (d ∷ ds) (suc i) h lt = digit_in ds i h.1 (omega arith)

pub overflow_mul-number : goal.overflow_mul-number
overflow_mul-number c =
    let four = length-take 4 c.args.bytes.now in
    let small = below (take 4 c.args.bytes.now) c.loop-digit.digit-index (omega arith) c.loop-digit.invariant.0 in
    omega (arith, c.loop-digit.invariant.1)

pub overflow_add-number : goal.overflow_add-number
overflow_add-number c =
    let four = length-take 4 c.args.bytes.now in
    let small = below (take 4 c.args.bytes.now) c.loop-digit.digit-index (omega arith) c.loop-digit.invariant.0 in
    omega (arith, c.loop-digit.invariant.1, c.in_ok-number.ensures.value)

pub returns-in_err-number : goal.returns-in_err-number
returns-in_err-number c =
    rw c.from_residual.ensures (λ h. c.in_err-number.ensures.value (rw c.from.ensures (digit_in (take 4 c.args.bytes.now) c.loop-digit.digit-index h.1 c.loop-digit-test.true)))

pub loop-digit-preserved : goal.loop-digit-preserved
loop-digit-preserved c =
    let digit = rw c.from.ensures at c.in_ok-number.ensures.value in (
      digits_more 16 (take 4 c.args.bytes.now) c.loop-digit.digit-index c.loop-digit-test.true c.loop-digit.invariant.0 digit.0,
      ap₂ (λ n d. n * 16 + d) c.loop-digit.invariant.1 digit.1 ∙ sym (digits_value_more 16 (take 4 c.args.bytes.now) c.loop-digit.digit-index c.loop-digit-test.true),
    )
