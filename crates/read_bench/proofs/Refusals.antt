-- What is refused, by what reading and scanning answer.
use Rattle.std.proofs.Common.{◌≡◌, ◌≢◌, ℕ, ◌<◌, ◌≤◌, ◌+◌, cond, inl, inr, true, false, List, length, None, [], ◌∷◌, refl, vec_len, Vec}
use Rattle.std.specs.List.{AllZip, each_same, fold}
use Rattle.std.specs.declared.alloc.Global.{Global}
use Rattle.std.proofs.lemmas.Bool.{lt-ltb, le-ltb}
use Rattle.sj_base.specs.Spelling.{longest}
use Rattle.sj_base.specs.declared.TheConstants.{DEFAULT_MAX_DEPTH}
use Rattle.sj_base.specs.declared.error.Error.{Error}
use Rattle.sj_base.specs.declared.error.ErrorType.TheVariants.{OutOfMemory}
use Rattle.sj_scan.specs.Scan.{scan_fault, IsFirstFault}
use Rattle.sj_scan.specs.declared.stage1.ScanFault.{ScanFault}
use Rattle.sj_scan.specs.declared.stage1.ScanFault.TheVariants.{Utf8, Unclosed, Control, NoToken, Memory}
use Rattle.sj_parse.specs.Fault.{fault}
use Rattle.sj_parse.specs.Answers.{IsErrorOf}
use Rattle.read_bench.specs.Refused.{is_refused, is_refused_by_scan, tapes_refused}

pub is_refused-read : (bytes : List ℕ) → fault bytes DEFAULT_MAX_DEPTH ≡ None → false ≡ is_refused bytes
unfolding is_refused
is_refused-read bytes e = rw e refl

pub is_refused-fault : (bytes : List ℕ) (e : Error) → IsErrorOf (fault bytes DEFAULT_MAX_DEPTH) e → e.error ≢ OutOfMemory → true ≡ is_refused bytes
unfolding is_refused
is_refused-fault bytes e h other = elim h [
  | inl is ↦ rw is refl
  | inr is ↦ absurd (other (rw is refl))
]

pub is_refused_by_scan-long : (bytes : List ℕ) → longest < length bytes → true ≡ is_refused_by_scan bytes
unfolding is_refused_by_scan
is_refused_by_scan-long bytes h = rw (lt-ltb longest (length bytes) h) refl

pub is_refused_by_scan-scanned : (bytes : List ℕ) → length bytes ≤ longest → scan_fault bytes ≡ None → false ≡ is_refused_by_scan bytes
unfolding is_refused_by_scan
is_refused_by_scan-scanned bytes h e = rw (le-ltb longest (length bytes) h, e) refl

pub is_refused_by_scan-fault : (bytes : List ℕ) (f : ScanFault) → length bytes ≤ longest → IsFirstFault bytes f → f ≢ Memory → true ≡ is_refused_by_scan bytes
unfolding is_refused_by_scan
is_refused_by_scan-fault bytes Utf8 h e other = rw (le-ltb longest (length bytes) h, e) refl
is_refused_by_scan-fault bytes Unclosed h e other = rw (le-ltb longest (length bytes) h, e) refl
is_refused_by_scan-fault bytes Control h e other = rw (le-ltb longest (length bytes) h, e) refl
is_refused_by_scan-fault bytes NoToken h e other = rw (le-ltb longest (length bytes) h, e) refl
is_refused_by_scan-fault bytes Memory h e other = absurd (other refl)

-- Copies hold the same bytes.
abbrev AreCopies : List (Vec ℕ Global) → List (Vec ℕ Global) → Type 0
AreCopies documents copies = AllZip (λ v w. AllZip (λ x y. y ≡ x) v.items w.items × (vec_len w ≡ vec_len v)) documents copies

-- the count behind one more document
abbrev counted : ℕ → Vec ℕ Global → ℕ
counted n document = n + cond (is_refused document.items) 1 0

counted-copies : (n : ℕ) (documents copies : List (Vec ℕ Global)) → AreCopies documents copies → fold counted n copies ≡ fold counted n documents
counted-copies n [] [] h = refl
counted-copies n [] (w ∷ ws) h = absurd h
counted-copies n (v ∷ vs) [] h = absurd h
counted-copies n (v ∷ vs) (w ∷ ws) h = rw (each_same v.items w.items h.0.0) (counted-copies (counted n v) vs ws h.1)

-- They are refused as the documents are.
pub tapes_refused-copies : (documents copies : List (Vec ℕ Global)) → AreCopies documents copies → tapes_refused copies ≡ tapes_refused documents
tapes_refused-copies documents copies h = counted-copies 0 documents copies h
