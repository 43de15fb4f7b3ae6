-- The first byte of a text that passes a test, by the bits of its first block, and behind a block where none passes.
use Rattle.std.specs.Prelude.{◌≡◌, ◌≢◌, ℕ, zero, suc, ◌/◌, ◌^◌, ◌+◌, ◌<◌, ◌≤◌, ◌||◌, nat_lt, Bool, true, false, List, [], ◌∷◌, length, take, drop, bit_or, slice_index, if◌then◌else◌}
use Rattle.std.specs.Int.{bit_at, trailing_zeros}
use Rattle.std.specs.Simd.Lanes.{chunk}
use Rattle.std.proofs.Common.{sym, ap, ◌∙◌, arith, zero-add, zero-lt-suc, mod-lt, w64, inl, inr}
use Rattle.std.specs.Char.{is_ascii_digit}
use Rattle.std.proofs.lemmas.Bool.{cases_eq, or_cases, or_parts, or_left, or_right, false_from_ne_true, ltb-true, ltb-false}
use Rattle.std.proofs.lemmas.Nat.Bits.{bit_at-trailing_zeros, bit_at_or, bit_at-zero}
use Rattle.std.proofs.lemmas.Simd.{get_or-chunk}
use Rattle.sj_base.specs.NumberTests.{front_digits}
use Rattle.sj_base.proofs.Literals.{from_test, to_test}
use Rattle.sj_parse.specs.inside.Blocks.{Places}

-- ---- two tests in one

pub either : {p q : ℕ → Bool} {block : List ℕ} {a b : ℕ} → Places p block a → Places q block b → Places (λ x. p x || q x) block (bit_or a b)
either {p} {q} {block} {a} {b} of_p of_q = record {
  bits = λ k.
      let x = slice_index block k in
      let both = bit_at_or a b k in
      let a_bit : bit_at a k < 2 = mod-lt (a / 2 ^ k) (zero-lt-suc 1) in
      let b_bit : bit_at b k < 2 = mod-lt (b / 2 ^ k) (zero-lt-suc 1) in (
        λ set. elim (cases_eq (bit_at a k) 1) [
          | inl one ↦ let h = (of_p.bits k).0 one in (h.0, or_left (p x) (q x) h.1)
          | inr other ↦ let h = (of_q.bits k).0 (omega (arith, both, set, other)) in (h.0, or_right (p x) (q x) h.1)
        ],
        λ h. elim (or_cases (p x) (q x) h.1) [
          | inl one ↦ let set = (of_p.bits k).1 (h.0, one) in omega (arith, both, set, b_bit)
          | inr other ↦ let set = (of_q.bits k).1 (h.0, other) in omega (arith, both, set, a_bit)
        ],
      );
}

-- ---- the lowest bit

-- The first byte that passes the test stands at that place.
pub record IsFirst (test : ℕ → Bool) (bytes : List ℕ) (place : ℕ) : Type 0 where
  pub within : place < length bytes
  pub passes : test (slice_index bytes place) ≡ true
  pub none : (k : ℕ) → k < place → test (slice_index bytes k) ≡ false

pub lowest_place : (test : ℕ → Bool) (bytes : List ℕ) (m : ℕ) → 32 ≤ length bytes → m < 2 ^ 64 → m ≢ 0 → Places test (chunk 0 32 bytes) m → IsFirst test bytes (trailing_zeros w64 m)
lowest_place test bytes m long fits some places =
    let first = trailing_zeros w64 m in
    let low = bit_at-trailing_zeros w64 m (omega (arith, some)) fits in
    let here = (places.bits first).0 low.1 in
    let at = λ (k : ℕ) (h : k < 32). get_or-chunk 0 32 bytes k 0 h ∙ ap (slice_index bytes) (zero-add k) in
    record {
      within = omega (arith, here.0);
      passes = ap test (sym (at first here.0)) ∙ here.1;
      none = λ k h. false_from_ne_true (test (slice_index bytes k)) (λ e.
          let near : k < 32 = omega (arith, here.0) in
          let set = (places.bits k).1 (near, ap test (at k near) ∙ e) in
          let unset = low.2 k h in omega (arith, set, unset));
    }

-- ---- no bit

-- None of the first n bytes passes the test.
abbrev pub PassesNone : (ℕ → Bool) → List ℕ → ℕ → Type 0
PassesNone test bytes n = (k : ℕ) → k < n → test (slice_index bytes k) ≡ false

pub no_place : (test : ℕ → Bool) (bytes : List ℕ) (m : ℕ) → m ≡ 0 → Places test (chunk 0 32 bytes) m → PassesNone test bytes 32
no_place test bytes m none places = λ k h. false_from_ne_true (test (slice_index bytes k)) (λ e.
    let same = get_or-chunk 0 32 bytes k 0 h ∙ ap (slice_index bytes) (zero-add k) in
    let set = (places.bits k).1 (h, ap test same ∙ e) in
    let unset : bit_at m k ≡ 0 = ap (λ n. bit_at n k) none ∙ bit_at-zero k in
    omega (arith, set, unset))

-- ---- digits

-- A byte is no digit.
abbrev pub is_no_digit : ℕ → Bool
is_no_digit b = nat_lt b 0x30 || nat_lt 0x39 b

digit : (b : ℕ) → is_no_digit b ≡ false → is_ascii_digit b ≡ true
digit b e =
    let p = or_parts (nat_lt b 0x30) (nat_lt 0x39 b) e in
    let low : 48 ≤ b = ltb-false b 48 p.0 in
    let high : b ≤ 57 = ltb-false 57 b p.1 in
    to_test b (low, high)

no_digit : (b : ℕ) → is_no_digit b ≡ true → is_ascii_digit b ≡ false
no_digit b e = false_from_ne_true (is_ascii_digit b) (λ is.
    let d = from_test b is in
    let low : 48 ≤ b = d.0 in
    let high : b ≤ 57 = d.1 in
    elim (or_cases (nat_lt b 0x30) (nat_lt 0x39 b) e) [
      | inl below ↦ let less : b < 48 = ltb-true b 48 below in absurd (omega arith)
      | inr above ↦ let more : 57 < b = ltb-true 57 b above in absurd (omega arith)
    ])

pub digits-first : (bytes : List ℕ) (n : ℕ) → IsFirst is_no_digit bytes n → take n bytes ≡ front_digits bytes
digits-first [] n first = let within = first.within in absurd (omega (arith, within))
digits-first (b ∷ bs) zero first = sym (ap (λ (is : Bool). if is then b ∷ front_digits bs else []) (no_digit b first.passes))
digits-first (b ∷ bs) (suc n) first =
    let rest : IsFirst is_no_digit bs n = record { within = omega (arith, first.within); passes = first.passes; none = λ k h. first.none (suc k) (omega arith) } in
    ap (λ (ys : List ℕ). b ∷ ys) (digits-first bs n rest) ∙ sym (ap (λ (is : Bool). if is then b ∷ front_digits bs else []) (digit b (first.none 0 (omega arith))))

-- behind digits
pub digits-behind : (bytes : List ℕ) (n r : ℕ) → n ≤ length bytes → PassesNone is_no_digit bytes n → take r (drop n bytes) ≡ front_digits (drop n bytes) → take (n + r) bytes ≡ front_digits bytes
digits-behind bytes zero r within none rest = ap (λ (k : ℕ). take k bytes) (zero-add r) ∙ rest
digits-behind [] (suc n) r within none rest = absurd (omega (arith, within))
digits-behind (b ∷ bs) (suc n) r within none rest =
    let one_more : suc n + r ≡ suc (n + r) = omega arith in
    ap (λ (k : ℕ). take k (b ∷ bs)) one_more
    ∙ ap (λ (ys : List ℕ). b ∷ ys) (digits-behind bs n r (omega (arith, within)) (λ k h. none (suc k) (omega arith)) rest)
    ∙ sym (ap (λ (is : Bool). if is then b ∷ front_digits bs else []) (digit b (none 0 (omega arith))))
