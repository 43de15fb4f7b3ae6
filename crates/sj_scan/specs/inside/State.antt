-- What a scan knows of the bytes before a place.
use Rattle.std.specs.Prelude.{◌≡◌, ℕ, List}
use Rattle.sj_scan.specs.Positions.{is_odd, backslashes, real_quotes, is_separated}
use Rattle.sj_scan.specs.declared.plain.State.{State}

pub record Follows (before : List ℕ) (state : State) : Type 0 where
  pub odd_backslashes : state.odd_backslashes ≡ is_odd (backslashes before)
  pub inside : state.inside ≡ is_odd (real_quotes before)
  pub separated : state.separated ≡ is_separated before
