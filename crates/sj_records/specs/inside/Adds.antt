-- What adding the inverse of a write to a history leaves.
use Rattle.std.specs.Prelude.{◌≡◌, ℕ, List, take, Option, Result, Ok, Err}
use Rattle.sj_documents.specs.declared.inverse.Inverse.{Inverse}
use Rattle.sj_records.specs.History.{added}

-- What was handed out was added, if anything; or it is an error; or there was no memory, and the bytes from `start` on are gone.
abbrev pub Adds : {E : Type 0} → Result Unit E → Result (Option Inverse) E → List Inverse → List Inverse → ℕ → List ℕ → List ℕ → Type 0
Adds (Ok done) (Ok inverse) history after start old new = (after ≡ added history inverse) × (new ≡ old)
Adds (Ok done) (Err f) history after start old new = ⊥
Adds (Err e) (Ok inverse) history after start old new = new ≡ take start old
Adds (Err e) (Err f) history after start old new = new ≡ old
