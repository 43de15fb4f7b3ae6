use Rattle.std.specs.Prelude.{◌≡◌, ℕ, List, take, bit_or}
use Rattle.std.specs.Int.{trailing_zeros}
use Rattle.std.proofs.Common.{arith, subst, w64}
use Rattle.std.proofs.lemmas.List.{take_rest}
use Rattle.std.proofs.lemmas.Nat.{or_lt}
use Rattle.sj_base.specs.NumberTests.{front_digits}
use Rattle.sj_parse.proofs.BlockPlaces.{IsFirst, is_no_digit, either, lowest_place, no_place, digits-first, digits-behind}
use Rattle.sj_parse.proofs.search.digits_len.Goals as goal
use Rattle.sj_parse.proofs.search.digits_len.Goals.{Then-others-ne0}

-- The first byte that is no digit.
first_other : (c : Then-others-ne0) → IsFirst is_no_digit c.args.bytes.now (trailing_zeros w64 (bit_or c.below.result c.above.result))
first_other c = lowest_place is_no_digit c.args.bytes.now _ c.if-bytes-ge-BLOCK.true (or_lt 64 c.below.result c.above.result c.below.type_inv c.above.type_inv) c.if-others-ne0.true (either c.below.ensures c.above.ensures)

pub returns-then-others-ne0-clause-within : goal.returns-then-others-ne0-clause-within
returns-then-others-ne0-clause-within c = let within = (first_other c).within in omega (arith, within)

pub returns-then-others-ne0-clause-digits : goal.returns-then-others-ne0-clause-digits
returns-then-others-ne0-clause-digits c = digits-first c.args.bytes.now _ (first_other c)

pub returns-then-bytes-ge-BLOCK-clause-digits : goal.returns-then-bytes-ge-BLOCK-clause-digits
returns-then-bytes-ge-BLOCK-clause-digits c =
    let bytes = c.args.bytes.now in
    let n = c.count_digits.result in
    let none = no_place is_no_digit bytes _ c.if-others-ne0.false (either c.below.ensures c.above.ensures) in
    digits-behind bytes 32 n c.if-bytes-ge-BLOCK.true none (subst (λ (ys : List ℕ). take n ys ≡ front_digits ys) (take_rest bytes 32) c.count_digits.ensures.digits)
