-- Six shifts and exclusive ors give each bit the parity of the bits up to it.
use Rattle.std.proofs.Common.{◌≡◌, ℕ, suc, ◌+◌, ◌-◌, ◌*◌, ◌%◌, ◌^◌, ◌<◌, ◌≤◌, ◌⊎◌, inl, inr, Bool, true, false, refl, ap, ap₂, ◌∙◌, arith, pow_pos, mod-lt, bit_xor}
use Rattle.std.proofs.lemmas.Bool.{cases_lt}
use lib.Bits.{xor_lt}
use Rattle.sj_scan.specs.inside.Masks.{is_set, Marks, differ, is_odd_count}
use Rattle.sj_scan.proofs.Words.{is_set-xor, is_set-shl_low, is_set-shl_high}

pub differ-false : (a : Bool) → differ a false ≡ a
differ-false true = refl
differ-false false = refl

differ-back : (a b : Bool) → b ≡ differ (differ a b) a
differ-back true true = refl
differ-back true false = refl
differ-back false true = refl
differ-back false false = refl

differ-chain : (a b c : Bool) → differ (differ a b) (differ b c) ≡ differ a c
differ-chain true true true = refl
differ-chain true true false = refl
differ-chain true false true = refl
differ-chain true false false = refl
differ-chain false true true = refl
differ-chain false true false = refl
differ-chain false false true = refl
differ-chain false false false = refl

module _ (mask : ℕ) where
  -- the parity of the bits from one place up to before another
  abbrev parity : ℕ → ℕ → Bool
  parity to from = differ (is_odd_count (is_set mask) to) (is_odd_count (is_set mask) from)

  -- Each bit of the word is the parity of the `count` bits of the mask that end with it.
  abbrev Covers : ℕ → ℕ → Type 0
  Covers count word = (place : ℕ) → place < 64 → is_set word place ≡ parity (suc place) (suc place - count)

  abbrev doubled : ℕ → ℕ → ℕ
  doubled count word = bit_xor word (word * 2 ^ count % 2 ^ 64)

  one : Covers 1 mask
  unfolding is_odd_count
  one place within =
      let same : place ≡ suc place - 1 = omega arith in
      differ-back (is_odd_count (is_set mask) place) (is_set mask place) ∙ ap (parity (suc place)) same

  double : (count word : ℕ) → Covers count word → Covers (count + count) (doubled count word)
  double count word covers place within = is_set-xor word (word * 2 ^ count % 2 ^ 64) place ∙ go (cases_lt place count)
    where
      go : (place < count) ⊎ (count ≤ place) → differ (is_set word place) (is_set (word * 2 ^ count % 2 ^ 64) place) ≡ parity (suc place) (suc place - (count + count))
      go (inl low) =
          let same : suc place - count ≡ suc place - (count + count) = omega arith in
          ap (differ (is_set word place)) (is_set-shl_low count word place low within) ∙ differ-false (is_set word place) ∙ covers place within ∙ ap (parity (suc place)) same
      go (inr high) =
          let back = place - count in
          let meet : suc place - count ≡ suc back = omega arith in
          let end : suc back - count ≡ suc place - (count + count) = omega arith in
          ap₂ differ (covers place within ∙ ap (parity (suc place)) meet) (is_set-shl_high count word place high within ∙ covers back (omega arith) ∙ ap (parity (suc back)) end)
          ∙ differ-chain (is_odd_count (is_set mask) (suc place)) (is_odd_count (is_set mask) (suc back)) (is_odd_count (is_set mask) (suc place - (count + count)))

  doubled-fits : (count word : ℕ) → word < 2 ^ 64 → doubled count word < 2 ^ 64
  doubled-fits count word fits = xor_lt 64 word (word * 2 ^ count % 2 ^ 64) fits (mod-lt (word * 2 ^ count) (pow_pos 64))

  pub Marks-prefix : mask < 2 ^ 64 → Marks (doubled 32 (doubled 16 (doubled 8 (doubled 4 (doubled 2 (doubled 1 mask)))))) (λ place. is_odd_count (is_set mask) (suc place))
  unfolding is_odd_count
  Marks-prefix fits = record {
    fits = doubled-fits 32 _ (doubled-fits 16 _ (doubled-fits 8 _ (doubled-fits 4 _ (doubled-fits 2 _ (doubled-fits 1 mask fits)))));
    bits = λ place within.
        let none : suc place - 64 ≡ 0 = omega arith in
        double 32 _ (double 16 _ (double 8 _ (double 4 _ (double 2 _ (double 1 mask one))))) place within
        ∙ ap (parity (suc place)) none ∙ differ-false (is_odd_count (is_set mask) (suc place));
  }
