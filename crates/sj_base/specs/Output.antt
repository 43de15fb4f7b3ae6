-- Appending bytes to an output.
use Rattle.std.specs.Prelude.{◌≡◌, ℕ, ◌+◌, List, [], ◌++◌, Option, Result, Ok, Err}
use Rattle.std.specs.Io.KnownBytes.{Appends}
use Rattle.sj_base.specs.Calls.{Calls, unsuccessful}

-- What it takes to append bytes in pieces. `A s t xs`: the state t is s with xs appended. `B s t xs`: the state t is what a
-- fault may leave of appending xs to s.
pub record Continues {S : Type 0} (A B : S → S → List ℕ → Type 0) : Type 0 where
  pub none : (s : S) → A s s []
  pub then : (s t u : S) (xs ys : List ℕ) → A s t xs → A t u ys → A s u (xs ++ ys)
  pub fails : (s t u : S) (xs ys : List ℕ) → A s t xs → B t u ys → B s u (xs ++ ys)
  pub before : (s t : S) (xs ys : List ℕ) → B s t xs → B s t (xs ++ ys)

-- Bytes are printed to an output with the relations A and B.
abbrev pub Prints : {S X E : Type 0} → (S → S → List ℕ → Type 0) → (S → S → List ℕ → Type 0) → Result X E → S → S → List ℕ → Type 0
Prints A B (Ok done) old new bytes = A old new bytes
Prints A B (Err e) old new bytes = B old new bytes

-- The bytes were appended, or on an error the vector is as it was.
abbrev pub AppendsOrLeaves : {E : Type 0} → Result Unit E → List ℕ → List ℕ → List ℕ → Type 0
AppendsOrLeaves (Ok done) old new bytes = new ≡ old ++ bytes
AppendsOrLeaves (Err e) old new bytes = new ≡ old

-- a prefix of the bytes is appended
abbrev pub AppendsPrefix : Option (List ℕ) → Option (List ℕ) → List ℕ → Type 0
AppendsPrefix old new bytes = (taken rest : List ℕ) × (bytes ≡ taken ++ rest) × Appends old new taken

-- All of the bytes are appended, and no call failed, was interrupted or moved no byte.
abbrev pub WritesAll : Option (List ℕ) → Option (List ℕ) → Calls → Calls → List ℕ → Type 0
WritesAll old new calls_old calls_new bytes = Appends old new bytes × (unsuccessful calls_new ≡ unsuccessful calls_old)

-- A prefix of the bytes is appended, and exactly one call failed, was interrupted or moved no byte.
abbrev pub WritesPrefix : Option (List ℕ) → Option (List ℕ) → Calls → Calls → List ℕ → Type 0
WritesPrefix old new calls_old calls_new bytes = AppendsPrefix old new bytes × (unsuccessful calls_new ≡ unsuccessful calls_old + 1)

-- Bytes are written to a sink with these contents and calls: on an error a prefix of them.
abbrev pub Writes : {S X E : Type 0} → (S → Option (List ℕ)) → (S → Calls) → Result X E → S → S → List ℕ → Type 0
Writes contents calls result old new bytes =
    Prints (λ s t xs. WritesAll (contents s) (contents t) (calls s) (calls t) xs) (λ s t xs. WritesPrefix (contents s) (contents t) (calls s) (calls t) xs) result old new bytes
