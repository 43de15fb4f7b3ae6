-- Records that are written one after the other.
use Rattle.std.proofs.Common.{◌≡◌, ℕ, ◌+◌, List, [], ◌∷◌, ◌++◌, take, length, Option, Result, Ok, Err, refl, sym, ap, ◌∙◌, append_assoc}
use Rattle.std.proofs.Math.Nat.{zero-add, suc-add}
use Rattle.std.proofs.Math.Seq.{take-nil}
use Rattle.std.proofs.lemmas.List.{take_at}
use Rattle.std.proofs.KnownBytes.{Appends-nil, Appends-trans}
use Rattle.sj_records.specs.Record.{IsRecord, AreRecords}
use Rattle.sj_documents.specs.Step.{Job}
use Rattle.sj_records.specs.declared.run_error.RunError.{RunError}
use Rattle.sj_records.specs.declared.run_error.RunError.TheVariants.{Memory, Write, Read, TooManyReads}
use Rattle.sj_records.specs.inside.Progress.{Wrote, WroteSome, WrotePrefix, LeavesLines, LeavesBytes}

-- ---- records

-- the records of some lines, and then of others
pub AreRecords-append : (job : Job) (ls ms : List (List ℕ)) (x y : List ℕ)
    → AreRecords job ls x → AreRecords job ms y → AreRecords job (ls ++ ms) (x ++ y)
AreRecords-append job [] ms x y h k = rw h k
AreRecords-append job (l ∷ ls) ms x y h k =
    (h.0, h.1 ++ y, ap (λ b. b ++ y) h.2 ∙ append_assoc h.0 (0x0a ∷ h.1) y, h.3, AreRecords-append job ls ms h.1 y h.4 k)

-- ---- what was written

module _ (job : Job) where
  pub Wrote-nothing : (a : Option (List ℕ)) → Wrote job a a []
  Wrote-nothing a = ([], Appends-nil a, refl)

  pub Wrote-then : (a b c : Option (List ℕ)) (ls ms : List (List ℕ)) → Wrote job a b ls → Wrote job b c ms → Wrote job a c (ls ++ ms)
  Wrote-then a b c ls ms h k = (h.0 ++ k.0, Appends-trans a b c h.0 k.0 h.1 k.1, AreRecords-append job ls ms h.0 k.0 h.2 k.2)

  -- the first of more lines
  pub WroteSome-front : (a b : Option (List ℕ)) (ls ms : List (List ℕ)) → Wrote job a b ls → WroteSome job a b (ls ++ ms)
  WroteSome-front a b ls ms h = (length ls, (h.0, h.1, rw (take_at ls ms (length ls) refl) h.2))

  take-past : (ls ms : List (List ℕ)) (k : ℕ) → take (length ls + k) (ls ++ ms) ≡ ls ++ take k ms
  take-past [] ms k = rw zero-add refl
  take-past (l ∷ ls) ms k = rw suc-add (ap (λ x. l ∷ x) (take-past ls ms k))

  -- lines, and then the first of others
  pub WroteSome-then : (a b c : Option (List ℕ)) (ls ms : List (List ℕ)) → Wrote job a b ls → WroteSome job b c ms → WroteSome job a c (ls ++ ms)
  WroteSome-then a b c ls ms h k =
      let both = Wrote-then a b c ls (take k.0 ms) h k.1 in
      (length ls + k.0, rw (take-past ls ms k.0) both)

  pub WrotePrefix-then : (a b c : Option (List ℕ)) (ls ms : List (List ℕ)) → Wrote job a b ls → WrotePrefix job b c ms → WrotePrefix job a c (ls ++ ms)
  WrotePrefix-then a b c ls ms h k =
      (h.0 ++ k.0, k.1, Appends-trans a b c h.0 k.0 h.1 k.2, rw (append_assoc h.0 k.0 k.1) (AreRecords-append job ls ms h.0 (k.0 ++ k.1) h.2 k.3))

  -- ---- what stands by the answer

  -- no record, where none of the lines is ended
  pub WroteSome-none : (a b : Option (List ℕ)) → WroteSome job a b [] → Wrote job a b []
  WroteSome-none a b h = rw take-nil at h.1

  -- the record of a line whose bytes were handed to the writer
  pub LeavesLines-written : (a b : Option (List ℕ)) (line bytes out : List ℕ) (result : Result Unit RunError) → out ≡ bytes ++ 0x0a ∷ [] → IsRecord job line bytes
      → LeavesBytes result a b out → LeavesLines result job a b [] (line ∷ [])
  LeavesLines-written a b line bytes out (Ok done) is holds h = (out, h, (bytes, [], is, holds, refl))
  LeavesLines-written a b line bytes out (Err Write) is holds h = (h.0, h.1, h.3, (bytes, [], sym h.2 ∙ is, holds, refl))
  LeavesLines-written a b line bytes out (Err Memory) is holds h = absurd h
  LeavesLines-written a b line bytes out (Err Read) is holds h = absurd h
  LeavesLines-written a b line bytes out (Err TooManyReads) is holds h = absurd h
