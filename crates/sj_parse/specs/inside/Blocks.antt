-- The bytes of a block of 32 that pass a test, as the bits of a word.
use Rattle.std.specs.Prelude.{◌≡◌, ◌↔◌, ℕ, ◌<◌, Bool, true, List, slice_index}
use Rattle.std.specs.Int.{bit_at}

-- The bits of the word are the places of these bytes.
pub record Places (test : ℕ → Bool) (block : List ℕ) (word : ℕ) : Type 0 where
  pub bits : (k : ℕ) → (bit_at word k ≡ 1) ↔ ((k < 32) × (test (slice_index block k) ≡ true))
