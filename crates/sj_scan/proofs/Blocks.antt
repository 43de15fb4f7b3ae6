-- The masks of a block mark what the definitions say of its places.
use Rattle.std.proofs.Common.{◌≡◌, ℕ, zero, suc, ◌-◌, ◌^◌, ◌≤◌, Bool, true, false, not, ◌&&◌, ◌||◌, ◌==◌, List, slice_index, nat_lt, refl, sym, ap, ap₂, subst, ◌∙◌, arith, ◌⊎◌, inl, inr, true≢false, bit_and, bit_or, bit_xor}
use Rattle.std.proofs.lemmas.Bool.{cases_eq, ne_eqb, and_right}
use Rattle.sj_scan.specs.Positions.{is_odd, is_whitespace, is_operator, backslashes, is_real_quote, real_quotes, is_separated, is_position}
use Rattle.sj_scan.specs.Scan.{is_control}
use Rattle.sj_scan.specs.inside.Masks.{is_set, Marks, differ, all_if, is_odd_run, is_odd_count}
use Rattle.sj_scan.specs.inside.Blocks.{before_in, test_in}
use Rattle.sj_scan.proofs.States.{is_odd-run, is_odd-quotes}
use Rattle.sj_scan.proofs.Marks.{Marks-agree, Marks-and, Marks-or, Marks-xor, Marks-not, Marks-all_if}

module _ (before block : List ℕ) where
  abbrev Slashes : ℕ → Type 0
  Slashes mask = Marks mask (λ place. slice_index block place == 0x5c)

  -- behind a run of backslashes
  pub odd_run-is : (mask : ℕ) → Slashes mask → (place : ℕ) → place ≤ 64 → is_odd_run (is_odd (backslashes before)) (is_set mask) place ≡ is_odd (backslashes (before_in before block place))
  unfolding is_odd_run before_in
  odd_run-is mask slashes zero within = refl
  odd_run-is mask slashes (suc place) within =
      ap₂ (λ s r. s && not r) (slashes.bits place (omega arith)) (odd_run-is mask slashes place (omega arith))
      ∙ is_odd-run (slice_index block place == 0x5c) (backslashes (before_in before block place))

  pub Marks-real : {escaped quotes slashes : ℕ} → Slashes slashes → Marks escaped (is_odd_run (is_odd (backslashes before)) (is_set slashes)) → Marks quotes (λ place. slice_index block place == 0x22)
      → Marks (bit_and quotes (2 ^ 64 - 1 - escaped)) (test_in is_real_quote before block)
  Marks-real {escaped} {quotes} {slashes} is behind marks =
      Marks-agree _ _ (λ place within. ap (λ odd. (slice_index block place == 0x22) && not odd) (odd_run-is slashes is place (omega arith))) (Marks-and marks (Marks-not behind))

  differ-none : (b : Bool) → differ false b ≡ b
  differ-none true = refl
  differ-none false = refl

  differ-swap : (a b c : Bool) → differ (differ a b) c ≡ differ (differ a c) b
  differ-swap true true true = refl
  differ-swap true true false = refl
  differ-swap true false true = refl
  differ-swap true false false = refl
  differ-swap false true true = refl
  differ-swap false true false = refl
  differ-swap false false true = refl
  differ-swap false false false = refl

  module _ (quotes : ℕ) (real : Marks quotes (test_in is_real_quote before block)) where
    abbrev opened : Bool
    opened = is_odd (real_quotes before)

    abbrev open_at : ℕ → Bool
    open_at place = is_odd (real_quotes (before_in before block place))

    count-is : (place : ℕ) → place ≤ 64 → differ (is_odd_count (is_set quotes) place) opened ≡ open_at place
    unfolding is_odd_count before_in
    count-is zero within = differ-none opened
    count-is (suc place) within =
        differ-swap (is_odd_count (is_set quotes) place) (is_set quotes place) opened
        ∙ ap₂ differ (count-is place (omega arith)) (real.bits place (omega arith))
        ∙ is_odd-quotes (test_in is_real_quote before block place) (real_quotes (before_in before block place))

    -- inside a string behind each byte, and before it
    pub Marks-after : {parities carry : ℕ} → carry ≡ all_if opened → Marks parities (λ place. is_odd_count (is_set quotes) (suc place)) → Marks (bit_xor parities carry) (λ place. open_at (suc place))
    Marks-after {parities} {carry} is counted =
        subst (λ word. Marks (bit_xor parities word) (λ place. open_at (suc place))) (sym is) (Marks-agree _ _ (λ place within. count-is (suc place) within) (Marks-xor counted (Marks-all_if opened)))

    twice : (a b c : Bool) → c ≡ differ a b → differ c b ≡ a
    twice true true c is = rw is refl
    twice true false c is = rw is refl
    twice false true c is = rw is refl
    twice false false c is = rw is refl

    pub Marks-inside : {after : ℕ} → Marks after (λ place. open_at (suc place)) → Marks (bit_xor after quotes) open_at
    unfolding before_in
    Marks-inside {after} marks =
        Marks-agree _ _ (λ place within. twice (open_at place) (test_in is_real_quote before block place) (open_at (suc place)) (sym (is_odd-quotes (test_in is_real_quote before block place) (real_quotes (before_in before block place))))) (Marks-xor marks real)

    abbrev Whitespace : ℕ → Type 0
    Whitespace mask = Marks mask (λ place. is_whitespace (slice_index block place))

    abbrev Operators : ℕ → Type 0
    Operators mask = Marks mask (λ place. is_operator (slice_index block place))

    pub Marks-separators : {whitespace operators : ℕ} → Whitespace whitespace → Operators operators → Marks (bit_or (bit_or whitespace operators) quotes) (λ place. is_separated (before_in before block (suc place)))
    unfolding before_in
    Marks-separators {whitespace} {operators} spaces ops = Marks-or (Marks-or spaces ops) real

    position : (opened white op quote separated : Bool) → ((not opened && not white) && ((op || quote) || separated)) ≡ (not (opened && not quote) && not white && not (quote && opened) && (op || quote && not opened || separated))
    position true true op true separated = refl
    position true false op true separated = refl
    position true true op false separated = refl
    position true false op false separated = refl
    position false true op quote separated = refl
    position false false true true separated = refl
    position false false true false separated = refl
    position false false false true separated = refl
    position false false false false separated = refl

    pub Marks-positions : {inside whitespace operators separated : ℕ} → Marks inside open_at → Whitespace whitespace → Operators operators → Marks separated (λ place. is_separated (before_in before block place))
        → Marks (bit_and (bit_and (2 ^ 64 - 1 - inside) (2 ^ 64 - 1 - whitespace)) (bit_or (bit_or operators quotes) separated)) (test_in is_position before block)
    Marks-positions {inside} {whitespace} {operators} {separated} strings spaces ops separates =
        Marks-agree _ _ (λ place within. position (open_at place) (is_whitespace (slice_index block place)) (is_operator (slice_index block place)) (test_in is_real_quote before block place) (is_separated (before_in before block place)))
        (Marks-and (Marks-and (Marks-not strings) (Marks-not spaces)) (Marks-or (Marks-or ops real) separates))

    pub Marks-controls : {below inside : ℕ} → Marks below (λ place. nat_lt (slice_index block place) 0x20) → Marks inside open_at → Marks (bit_and below inside) (test_in is_control before block)
    Marks-controls {below} {inside} low strings =
        Marks-agree _ _ (λ place within. control (nat_lt (slice_index block place) 0x20) (slice_index block place == 0x22) (not (is_odd (backslashes (before_in before block place)))) (open_at place) (no_quote (slice_index block place)))
        (Marks-and low strings)
      where
        control : (low quote even inside : Bool) → (low && quote) ≡ false → (low && inside) ≡ (low && (inside && not (quote && even)))
        control true true even inside never = absurd (true≢false never)
        control true false even true never = refl
        control true false even false never = refl
        control false quote even inside never = refl

        no_quote : (byte : ℕ) → (nat_lt byte 0x20 && (byte == 0x22)) ≡ false
        no_quote byte = go (cases_eq byte 0x22)
          where
            go : (byte ≡ 0x22) ⊎ (byte ≡ 0x22 → ⊥) → (nat_lt byte 0x20 && (byte == 0x22)) ≡ false
            go (inl is) = rw is refl
            go (inr other) = and_right (nat_lt byte 0x20) (byte == 0x22) (ne_eqb byte 0x22 other)
