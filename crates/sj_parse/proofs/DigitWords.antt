-- Eight digits by one word: neighbours are joined in lanes of 8, of 16 and of 32 bits.
use Rattle.std.specs.Prelude.{◌≡◌, ℕ, ◌+◌, ◌*◌, ◌/◌, ◌^◌, ◌<◌, ◌≤◌, true, List, [], ◌∷◌, length, bit_and}
use Rattle.std.specs.Int.{w64, from_le_bytes}
use Rattle.std.specs.Char.{digit_value, IsAsciiDigit}
use Rattle.std.specs.Str.{all_ascii_digits}
use Rattle.std.specs.Str.Parse.{digits_value}
use Rattle.std.specs.Int.Digits.{number_from_digits}
use Rattle.std.proofs.Common.{ap, ◌∙◌, arith}
use Rattle.std.proofs.lemmas.Nat.{and_block, and_mask, mod_low, shr_high}
use Rattle.std.proofs.lemmas.Str.{digit_value_digit}
use Rattle.std.proofs.lemmas.Int.Digits.{digits_value_is}
use Rattle.sj_base.proofs.Literals.{AllDigits-from_test}

-- ---- the lower half of a lane

keep-8 : (rest high low mask : ℕ) → high < 256 → low < 256 → bit_and (rest * 65536 + (high * 256 + low)) (mask * 65536 + 255) ≡ bit_and rest mask * 65536 + low
keep-8 rest high low mask h l =
    and_block 16 rest mask (high * 256 + low) 255 (omega arith) (omega arith) ∙ ap (λ n. bit_and rest mask * 65536 + n) (and_mask (high * 256 + low) 8 ∙ mod_low high 8 low l)

keep-16 : (rest high low mask : ℕ) → high < 65536 → low < 65536 → bit_and (rest * 4294967296 + (high * 65536 + low)) (mask * 4294967296 + 65535) ≡ bit_and rest mask * 4294967296 + low
keep-16 rest high low mask h l =
    and_block 32 rest mask (high * 65536 + low) 65535 (omega arith) (omega arith) ∙ ap (λ n. bit_and rest mask * 4294967296 + n) (and_mask (high * 65536 + low) 16 ∙ mod_low high 16 low l)

-- ---- words of lanes, the lowest first

abbrev two : ℕ → ℕ → ℕ
two a b = b * 4294967296 + a

abbrev four : ℕ → ℕ → ℕ → ℕ → ℕ
four a b c d = ((d * 65536 + c) * 65536 + b) * 65536 + a

abbrev eight : ℕ → ℕ → ℕ → ℕ → ℕ → ℕ → ℕ → ℕ → ℕ
eight a b c d e f g h = ((((((h * 256 + g) * 256 + f) * 256 + e) * 256 + d) * 256 + c) * 256 + b) * 256 + a

joined-2 : (a b : ℕ) → a ≤ 9999 → b ≤ 9999 → bit_and (two a b * 10000 + two a b / 2 ^ 32) 0xffffffff ≡ a * 10000 + b
joined-2 a b la lb =
    let shifted = shr_high b 32 a (omega arith) in
    let parts : two a b * 10000 + two a b / 2 ^ 32 ≡ b * 10000 * 4294967296 + (a * 10000 + b) = omega (arith, shifted) in
    ap (λ n. bit_and n 0xffffffff) parts ∙ and_mask (b * 10000 * 4294967296 + (a * 10000 + b)) 32 ∙ mod_low (b * 10000) 32 (a * 10000 + b) (omega arith)

joined-4 : (a b c d : ℕ) → a ≤ 99 → b ≤ 99 → c ≤ 99 → d ≤ 99 → bit_and (four a b c d * 100 + four a b c d / 2 ^ 16) 0x0000ffff0000ffff ≡ two (a * 100 + b) (c * 100 + d)
joined-4 a b c d la lb lc ld =
    let shifted = shr_high ((d * 65536 + c) * 65536 + b) 16 a (omega arith) in
    let parts : four a b c d * 100 + four a b c d / 2 ^ 16 ≡ (d * 100 * 65536 + (c * 100 + d)) * 4294967296 + ((b * 100 + c) * 65536 + (a * 100 + b)) = omega (arith, shifted) in
    ap (λ n. bit_and n 0x0000ffff0000ffff) parts
    ∙ keep-16 (d * 100 * 65536 + (c * 100 + d)) (b * 100 + c) (a * 100 + b) 0xffff (omega arith) (omega arith)
    ∙ ap (λ n. n * 4294967296 + (a * 100 + b)) (and_mask (d * 100 * 65536 + (c * 100 + d)) 16 ∙ mod_low (d * 100) 16 (c * 100 + d) (omega arith))

joined-8 : (a b c d e f g h : ℕ) → a ≤ 9 → b ≤ 9 → c ≤ 9 → d ≤ 9 → e ≤ 9 → f ≤ 9 → g ≤ 9 → h ≤ 9
    → bit_and (eight a b c d e f g h * 10 + eight a b c d e f g h / 2 ^ 8) 0x00ff00ff00ff00ff ≡ four (a * 10 + b) (c * 10 + d) (e * 10 + f) (g * 10 + h)
joined-8 a b c d e f g h la lb lc ld le lf lg lh =
    let shifted = shr_high ((((((h * 256 + g) * 256 + f) * 256 + e) * 256 + d) * 256 + c) * 256 + b) 8 a (omega arith) in
    let third = h * 10 * 256 + (g * 10 + h) in
    let second = third * 65536 + ((f * 10 + g) * 256 + (e * 10 + f)) in
    let first = second * 65536 + ((d * 10 + e) * 256 + (c * 10 + d)) in
    let parts : eight a b c d e f g h * 10 + eight a b c d e f g h / 2 ^ 8 ≡ first * 65536 + ((b * 10 + c) * 256 + (a * 10 + b)) = omega (arith, shifted) in
    ap (λ n. bit_and n 0x00ff00ff00ff00ff) parts
    ∙ keep-8 first (b * 10 + c) (a * 10 + b) 0x00ff00ff00ff (omega arith) (omega arith)
    ∙ ap (λ n. n * 65536 + (a * 10 + b)) (keep-8 second (d * 10 + e) (c * 10 + d) 0x00ff00ff (omega arith) (omega arith)
    ∙ ap (λ n. n * 65536 + (c * 10 + d)) (keep-8 third (f * 10 + g) (e * 10 + f) 0xff (omega arith) (omega arith)
    ∙ ap (λ n. n * 65536 + (e * 10 + f)) (and_mask third 8 ∙ mod_low (h * 10) 8 (g * 10 + h) (omega arith))))

-- ---- eight digits

-- The steps from a word of eight numbers below ten to the number that they write.
pub record Joins (word value : ℕ) : Type 0 where
  pub word_below : word ≤ 0x0909090909090909
  pub pairs : ℕ
  pub pairs_are : bit_and (word * 10 + word / 2 ^ 8) 0x00ff00ff00ff00ff ≡ pairs
  pub pairs_below : pairs ≤ 0x0063006300630063
  pub fours : ℕ
  pub fours_are : bit_and (pairs * 100 + pairs / 2 ^ 16) 0x0000ffff0000ffff ≡ fours
  pub fours_below : fours ≤ 0x0000270f0000270f
  pub value_is : bit_and (fours * 10000 + fours / 2 ^ 32) 0xffffffff ≡ value

joins : (a b c d e f g h : ℕ) → a ≤ 9 → b ≤ 9 → c ≤ 9 → d ≤ 9 → e ≤ 9 → f ≤ 9 → g ≤ 9 → h ≤ 9
    → Joins (eight a b c d e f g h) (number_from_digits 10 (a ∷ b ∷ c ∷ d ∷ e ∷ f ∷ g ∷ h ∷ []))
joins a b c d e f g h la lb lc ld le lf lg lh = record {
  word_below = omega arith;
  pairs = four (a * 10 + b) (c * 10 + d) (e * 10 + f) (g * 10 + h);
  pairs_are = joined-8 a b c d e f g h la lb lc ld le lf lg lh;
  pairs_below = omega arith;
  fours = two ((a * 10 + b) * 100 + (c * 10 + d)) ((e * 10 + f) * 100 + (g * 10 + h));
  fours_are = joined-4 (a * 10 + b) (c * 10 + d) (e * 10 + f) (g * 10 + h) (omega arith) (omega arith) (omega arith) (omega arith);
  fours_below = omega arith;
  value_is = joined-2 ((a * 10 + b) * 100 + (c * 10 + d)) ((e * 10 + f) * 100 + (g * 10 + h)) (omega arith) (omega arith) ∙ omega arith;
}

-- The word of digits, and its steps.
pub record Word (digits : List ℕ) : Type 0 where
  pub numbers : ℕ
  pub bytes_are : from_le_bytes w64 digits ≡ numbers + 0x3030303030303030
  pub steps : Joins numbers (digits_value 10 digits)

digit : (x : ℕ) → IsAsciiDigit x → (digit_value x ≤ 9) × (digit_value x + 48 ≡ x)
digit x h =
    let value = digit_value_digit x h in
    let high : x ≤ 57 = h.1 in
    (omega (arith, value), value)

spelled : (x0 x1 x2 x3 x4 x5 x6 x7 a b c d e f g h : ℕ) → a + 48 ≡ x0 → b + 48 ≡ x1 → c + 48 ≡ x2 → d + 48 ≡ x3 → e + 48 ≡ x4 → f + 48 ≡ x5 → g + 48 ≡ x6 → h + 48 ≡ x7
    → from_le_bytes w64 (x0 ∷ x1 ∷ x2 ∷ x3 ∷ x4 ∷ x5 ∷ x6 ∷ x7 ∷ []) ≡ eight a b c d e f g h + 0x3030303030303030
spelled x0 x1 x2 x3 x4 x5 x6 x7 a b c d e f g h ea eb ec ed ee ef eg eh = omega arith

pub word_of_digits : (digits : List ℕ) → length digits ≡ 8 → all_ascii_digits digits ≡ true → Word digits
word_of_digits (x0 ∷ x1 ∷ x2 ∷ x3 ∷ x4 ∷ x5 ∷ x6 ∷ x7 ∷ []) size all =
    let k = AllDigits-from_test (x0 ∷ x1 ∷ x2 ∷ x3 ∷ x4 ∷ x5 ∷ x6 ∷ x7 ∷ []) all in
    let a = digit x0 k.0 in
    let b = digit x1 k.1.0 in
    let c = digit x2 k.1.1.0 in
    let d = digit x3 k.1.1.1.0 in
    let e = digit x4 k.1.1.1.1.0 in
    let f = digit x5 k.1.1.1.1.1.0 in
    let g = digit x6 k.1.1.1.1.1.1.0 in
    let h = digit x7 k.1.1.1.1.1.1.1.0 in
    record {
      numbers = eight (digit_value x0) (digit_value x1) (digit_value x2) (digit_value x3) (digit_value x4) (digit_value x5) (digit_value x6) (digit_value x7);
      bytes_are = spelled x0 x1 x2 x3 x4 x5 x6 x7 (digit_value x0) (digit_value x1) (digit_value x2) (digit_value x3) (digit_value x4) (digit_value x5) (digit_value x6) (digit_value x7) a.1 b.1 c.1 d.1 e.1 f.1 g.1 h.1;
      steps = rw (digits_value_is 10 (x0 ∷ x1 ∷ x2 ∷ x3 ∷ x4 ∷ x5 ∷ x6 ∷ x7 ∷ [])) (joins (digit_value x0) (digit_value x1) (digit_value x2) (digit_value x3) (digit_value x4) (digit_value x5) (digit_value x6) (digit_value x7) a.0 b.0 c.0 d.0 e.0 f.0 g.0 h.0);
    }
word_of_digits digits size all = absurd (omega arith)
