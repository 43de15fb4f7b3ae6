-- The last bytes of a block, with spaces behind them: their masks are those of the block, shifted.
use Rattle.std.proofs.Common.{◌≡◌, ℕ, ◌+◌, ◌-◌, ◌/◌, ◌^◌, ◌<◌, ◌≤◌, ◌⊎◌, inl, inr, Bool, true, false, not, ◌||◌, List, ◌++◌, length, drop, replicate, slice_index, refl, sym, ap, ap₂, ◌∙◌, arith, length-drop, get_or-drop, bit_or, div-le_self, lt_of_le_of_lt}
use Rattle.std.proofs.lemmas.Bool.{cases_lt}
use Rattle.std.proofs.lemmas.List.{get_or_append_left, get_or-append_right}
use Rattle.std.proofs.lemmas.Simd.{get_or-replicate}
use Rattle.sj_scan.specs.inside.Masks.{is_set, Marks}
use Rattle.sj_scan.proofs.Words.{is_set-shr, is_set-above, is_set-all_if}
use Rattle.sj_scan.proofs.Marks.{Marks-itself, Marks-agree, Marks-or, Marks-not}

abbrev pub skipped : ℕ → List ℕ → List ℕ
skipped count block = drop count block ++ replicate count 0x20

module _ (block : List ℕ) (count : ℕ) (long : length block ≡ 64) (few : count < 64) where
  kept : (place : ℕ) → place < 64 - count → slice_index (skipped count block) place ≡ slice_index block (count + place)
  kept place below =
      let rest = length-drop count block in
      get_or_append_left (drop count block) (replicate count 0x20) 0 place (omega arith) ∙ get_or-drop count block place 0

  space : (place : ℕ) → 64 - count ≤ place → place < 64 → slice_index (skipped count block) place ≡ 0x20
  space place from below =
      let rest : length (drop count block) ≡ 64 - count = length-drop count block ∙ ap (λ n. n - count) long in
      get_or-append_right (drop count block) (replicate count 0x20) (64 - count) place 0 rest from ∙ get_or-replicate count (place - (64 - count)) 0x20 0 (omega arith)

  module _ (p : ℕ → Bool) (mask : ℕ) (marks : Marks mask (λ place. p (slice_index block place))) where
    shifted-kept : (place : ℕ) → place < 64 - count → is_set (mask / 2 ^ count) place ≡ p (slice_index (skipped count block) place)
    shifted-kept place below = is_set-shr count mask place ∙ marks.bits (count + place) (omega arith) ∙ ap p (sym (kept place below))

    shifted-space : (place : ℕ) → 64 - count ≤ place → is_set (mask / 2 ^ count) place ≡ false
    shifted-space place from = is_set-shr count mask place ∙ is_set-above mask (count + place) marks.fits (omega arith)

    shifted-fits : mask / 2 ^ count < 2 ^ 64
    shifted-fits = lt_of_le_of_lt (div-le_self mask (2 ^ count)) marks.fits

    -- a test that a space fails, and one that it passes
    pub Marks-skipped : p 0x20 ≡ false → Marks (mask / 2 ^ count) (λ place. p (slice_index (skipped count block) place))
    Marks-skipped fails = record { fits = shifted-fits; bits = λ place within. go place within (cases_lt place (64 - count)) }
      where
        go : (place : ℕ) → place < 64 → (place < 64 - count) ⊎ (64 - count ≤ place) → is_set (mask / 2 ^ count) place ≡ p (slice_index (skipped count block) place)
        go place within (inl below) = shifted-kept place below
        go place within (inr from) = shifted-space place from ∙ sym fails ∙ ap p (sym (space place from within))

    all_below : (place : ℕ) → place < 64 - count → is_set ((2 ^ 64 - 1) / 2 ^ count) place ≡ true
    all_below place below = is_set-shr count (2 ^ 64 - 1) place ∙ is_set-all_if true (count + place) (omega arith)

    none_from : (place : ℕ) → 64 - count ≤ place → is_set ((2 ^ 64 - 1) / 2 ^ count) place ≡ false
    none_from place from = is_set-shr count (2 ^ 64 - 1) place ∙ is_set-above (2 ^ 64 - 1) (count + place) (omega arith) (omega arith)

    pub Marks-skipped_whitespace : p 0x20 ≡ true → Marks (bit_or (mask / 2 ^ count) (2 ^ 64 - 1 - (2 ^ 64 - 1) / 2 ^ count)) (λ place. p (slice_index (skipped count block) place))
    Marks-skipped_whitespace passes =
        Marks-agree _ _ (λ place within. go place within (cases_lt place (64 - count)))
        (Marks-or (Marks-itself (mask / 2 ^ count) shifted-fits) (Marks-not (Marks-itself ((2 ^ 64 - 1) / 2 ^ count) (lt_of_le_of_lt (div-le_self (2 ^ 64 - 1) (2 ^ count)) (omega arith)))))
      where
        or-false : (b : Bool) → (b || false) ≡ b
        or-false true = refl
        or-false false = refl

        go : (place : ℕ) → place < 64 → (place < 64 - count) ⊎ (64 - count ≤ place)
            → (is_set (mask / 2 ^ count) place || not (is_set ((2 ^ 64 - 1) / 2 ^ count) place)) ≡ p (slice_index (skipped count block) place)
        go place within (inl below) =
            ap (λ b. is_set (mask / 2 ^ count) place || not b) (all_below place below) ∙ or-false (is_set (mask / 2 ^ count) place) ∙ shifted-kept place below
        go place within (inr from) =
            ap₂ (λ a b. a || not b) (shifted-space place from) (none_from place from) ∙ sym passes ∙ ap p (sym (space place from within))
