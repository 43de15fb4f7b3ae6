-- Counts of the calls of a source or a sink.
use Rattle.std.specs.Prelude.{◌≡◌, ◌≢◌, ℕ, ◌+◌, List, length, ◌==◌, nat_lt, ◌&&◌, if◌then◌else◌}
use Rattle.std.specs.IoError.{error_kind}
use Rattle.std.specs.declared.io.Error.{Error}
use Rattle.std.specs.declared.io.ErrorKind.TheVariants.{Interrupted}

pub record Calls : Type 0 where
  pub made : ℕ  -- all calls
  pub failed : ℕ  -- those with an error other than an interruption
  pub interrupted : ℕ
  pub empty : ℕ  -- those that moved no byte, with a slice that has one

abbrev pub no_calls : Calls
no_calls = record { made = 0; failed = 0; interrupted = 0; empty = 0 }

-- one more call, which moved n bytes into or out of the slice
abbrev pub CountsOk : Calls → Calls → List ℕ → ℕ → Type 0
CountsOk old new buf n =
    let idle = n == 0 && nat_lt 0 (length buf) in
    new ≡ record old { made = old.made + 1; empty = if idle then old.empty + 1 else old.empty }

abbrev pub one_interrupted : Calls → Calls
one_interrupted old = record old { made = old.made + 1; interrupted = old.interrupted + 1 }

abbrev pub one_failed : Calls → Calls
one_failed old = record old { made = old.made + 1; failed = old.failed + 1 }

-- one more call, with that error
abbrev pub CountsErr : Calls → Calls → Error → Type 0
CountsErr old new e = (error_kind e ≡ Interrupted → new ≡ one_interrupted old) × (error_kind e ≢ Interrupted → new ≡ one_failed old)

-- the calls that failed, were interrupted or moved no byte
abbrev pub unsuccessful : Calls → ℕ
unsuccessful c = c.failed + c.interrupted + c.empty
