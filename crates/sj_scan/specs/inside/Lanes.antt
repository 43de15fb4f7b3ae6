-- Vectors that are computed lane by lane from a block.
use Rattle.std.specs.Prelude.{◌≡◌, ◌<◌, ◌%◌, ℕ, List, length, slice_index, nat_lt, if◌then◌else◌}

-- Each lane is computed from the byte at its place.
pub record Computes (block lanes : List ℕ) (f : ℕ → ℕ) : Type 0 where
  pub long : length lanes ≡ 64
  pub at : (place : ℕ) → place < 64 → slice_index lanes place ≡ f (slice_index block place)

-- The table has the same 16 entries four times.
abbrev pub IsFourfold : List ℕ → Type 0
IsFourfold table = (place : ℕ) → place < 64 → slice_index table place ≡ slice_index table (place % 16)

-- the entry at the four lowest bits of an ASCII byte, and else 0
abbrev pub low_entry : List ℕ → ℕ → ℕ
low_entry table byte = if nat_lt byte 128 then slice_index table (byte % 16) else 0
