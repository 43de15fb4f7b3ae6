-- The check of UTF-8 answers as the test of the definitions.
use Rattle.std.proofs.Common.{◌≡◌, ℕ, List, Bool, true, false, refl, sym, ◌∙◌, Result, Ok, Err}
use Rattle.std.specs.Prelude.{IsUtf8, MatchResult, is_ok}
use Rattle.std.specs.Str.{is_utf8}
use Rattle.std.proofs.lemmas.Str.{IsUtf8-from_is_utf8, is_utf8-from_IsUtf8}
use Rattle.sj_scan.proofs.plain.is_utf8.Goals as goal

false-from_not : (b : Bool) → (b ≡ true → ⊥) → false ≡ b
false-from_not true never = absurd (never refl)
false-from_not false never = refl

is_ok-is_utf8 : {A E : Type 0} (r : Result A E) (P : A → Type 0) (bytes : List ℕ) → MatchResult r (λ s. P s × IsUtf8 bytes) (λ _. ¬ (IsUtf8 bytes)) → is_ok r ≡ is_utf8 bytes
is_ok-is_utf8 (Ok s) P bytes h = sym (is_utf8-from_IsUtf8 bytes h.1)
is_ok-is_utf8 (Err e) P bytes h = false-from_not (is_utf8 bytes) (λ is. h (IsUtf8-from_is_utf8 bytes is))

pub returns : goal.returns
returns c = c.is_ok.ensures.value ∙ is_ok-is_utf8 c.from_utf8.result (λ s. s.now ≡ c.args.bytes.now) c.args.bytes.now c.from_utf8.ensures
