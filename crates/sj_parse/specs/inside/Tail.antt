-- What is left of a text while its tokens are read.
use Rattle.std.specs.Prelude.{◌≡◌, ◌⊎◌, ℕ, ◌+◌, ◌-◌, ◌<◌, ◌≤◌, List, length, drop, slice_index}
use Rattle.sj_base.specs.Spelling.{longest}
use Rattle.sj_parse.specs.Token.{Token}
use Rattle.sj_parse.specs.declared.tail.Tail.{Tail}
use Rattle.sj_parse.specs.inside.Step.{token_of, reach}

-- A token begins at `place` in it, and the next one at `next`, or the text ends there.
pub record Holds (place next : ℕ) (t : Tail) : Type 0 where
  pub is_behind : t.from ≤ place
  pub is_inside : place - t.from < length t.rest.now
  pub is_before : place ≤ next
  pub next_is_inside : next ≤ t.from + length t.rest.now
  pub short : t.from + length t.rest.now ≤ longest

abbrev pub first_byte : ℕ → Tail → ℕ
first_byte place t = slice_index t.rest.now (place - t.from)

-- the token at that place, from what stands before it
abbrev pub token_here : ℕ → List ℕ → Tail → Token
token_here place before t = token_of place before (drop (place - t.from) t.rest.now)

-- The token ends where the next one begins, or before.
abbrev pub Reaches : ℕ → ℕ → Tail → Type 0
Reaches place next t = (before : List ℕ) × (place + reach (token_here place before t) ≤ next)

-- What was left is cut, so that it begins at `next`.
abbrev pub IsCut : ℕ → Tail → Tail → Type 0
IsCut next old new = (new.from ≡ next) × (new.rest.now ≡ drop (next - old.from) old.rest.now)

-- What is left behind a token: it may still hold the token.
abbrev pub IsBehind : ℕ → Tail → Tail → Type 0
IsBehind next old new = ((new.from ≡ old.from) × (new.rest.now ≡ old.rest.now)) ⊎ IsCut next old new
