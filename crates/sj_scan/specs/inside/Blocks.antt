-- What a scan by blocks knows of the bytes before a block, and of those before each place in it.
use Rattle.std.specs.Prelude.{◌≡◌, ◌==◌, ℕ, zero, suc, Bool, ◌-◌, List, ◌∷◌, ◌++◌, length, replicate, slice_index, nat_lt}
use Rattle.sj_scan.specs.Positions.{is_odd, is_whitespace, is_operator, backslashes, real_quotes, is_separated}
use Rattle.sj_scan.specs.inside.Masks.{Marks, first_if, all_if}
use Rattle.sj_scan.specs.declared.masks.Carry.{Carry}
use Rattle.sj_scan.specs.declared.classes.Classes.{Classes}

-- the bytes before a place of the block, the nearest first; `before` are those before the block
unfoldable pub before_in : List ℕ → List ℕ → ℕ → List ℕ
before_in before block zero = before
before_in before block (suc place) = slice_index block place ∷ before_in before block place

-- a test at each place of the block
abbrev pub test_in : (List ℕ → ℕ → Bool) → List ℕ → List ℕ → ℕ → Bool
test_in test before block place = test (before_in before block place) (slice_index block place)

pub record Precedes (before : List ℕ) (carry : Carry) : Type 0 where
  pub odd_backslashes : carry.odd_backslashes ≡ first_if (is_odd (backslashes before))
  pub inside : carry.inside ≡ all_if (is_odd (real_quotes before))
  pub separated : carry.separated ≡ first_if (is_separated before)

-- Each mask has the bytes of its kind.
pub record IsClassified (block : List ℕ) (classes : Classes) : Type 0 where
  pub backslashes : Marks classes.backslashes (λ place. slice_index block place == 0x5c)
  pub quotes : Marks classes.quotes (λ place. slice_index block place == 0x22)
  pub operators : Marks classes.operators (λ place. is_operator (slice_index block place))
  pub whitespace : Marks classes.whitespace (λ place. is_whitespace (slice_index block place))
  pub below_space : Marks classes.below_space (λ place. nat_lt (slice_index block place) 0x20)

-- the bytes, and spaces up to the end of a block
abbrev pub filled_up : List ℕ → List ℕ
filled_up rest = rest ++ replicate (64 - length rest) 0x20
