-- A stream of which a part has been cut into lines, each of them read as a text and answered.
use Rattle.std.proofs.Common.{◌≡◌, ℕ, List, [], ◌∷◌, ◌++◌, Option, Err, refl, sym, ap, ◌∙◌, append_assoc}
use Rattle.std.proofs.lemmas.List.{append-nil}
use Rattle.sj_records.specs.Lines.{ended, unended}
use Rattle.sj_records.specs.declared.run_error.RunError.{RunError}
use Rattle.sj_records.specs.declared.run_error.RunError.TheVariants.{Memory, Write, Read, TooManyReads}
use Rattle.sj_documents.specs.Step.{Job}
use Rattle.sj_records.specs.inside.Progress.{HasNoLineFeed, Wrote, WroteSome, WrotePrefix, LeavesLines}
use Rattle.sj_parse.specs.declared.buffers.Buffers.{Buffers}
use Rattle.sj_records.specs.Texts.{HasReadLines}
use Rattle.sj_records.proofs.Texts.{HasReadLines-nothing, HasReadLines-then}
use Rattle.sj_records.proofs.Cut.{ended-none, unended-none, ended-cut, unended-cut, HasNoLineFeed-append}
use Rattle.sj_records.proofs.Written.{Wrote-nothing, Wrote-then, WroteSome-front, WroteSome-none, WrotePrefix-then, AreRecords-append}
use Rattle.sj_records.proofs.Total.{AreRecords-exist}

-- Since the writer held `first` and the buffers were `before`, the lines `done` of the stream were read and answered, and
-- `line ++ rest` is left.
pub record Feeding (job : Job) (first now : Option (List ℕ)) (before after : Buffers) (stream line rest : List ℕ) : Type 0 where
  pub done : List (List ℕ)
  pub wrote : Wrote job first now done
  pub read : HasReadLines job before after done
  pub ended_is : ended stream ≡ done ++ ended (line ++ rest)
  pub unended_is : unended stream ≡ unended (line ++ rest)
  pub clean : HasNoLineFeed line

module _ (job : Job) where
  pub Feeding-begin : (a : Option (List ℕ)) (s : Buffers) (line piece : List ℕ) → HasNoLineFeed line → Feeding job a a s s (line ++ piece) line piece
  Feeding-begin a s line piece clean = record { done = []; wrote = Wrote-nothing job a; read = HasReadLines-nothing job s; ended_is = refl; unended_is = refl; clean = clean }

  -- what is left, where a line feed comes
  cut : (line rest end more : List ℕ) → HasNoLineFeed line → rest ≡ end ++ 0x0a ∷ more → HasNoLineFeed end → ended (line ++ rest) ≡ (line ++ end) ∷ ended more
  cut line rest end more clean is free =
      ap (λ l. ended (line ++ l)) is ∙ ap ended (sym (append_assoc line end (0x0a ∷ more))) ∙ ended-cut (line ++ end) more (HasNoLineFeed-append line end clean free)

  uncut : (line rest end more : List ℕ) → HasNoLineFeed line → rest ≡ end ++ 0x0a ∷ more → HasNoLineFeed end → unended (line ++ rest) ≡ unended more
  uncut line rest end more clean is free =
      ap (λ l. unended (line ++ l)) is ∙ ap unended (sym (append_assoc line end (0x0a ∷ more))) ∙ unended-cut (line ++ end) more (HasNoLineFeed-append line end clean free)

  -- one more line is answered
  pub Feeding-line : (a b c : Option (List ℕ)) (s t u : Buffers) (stream line rest end more new : List ℕ) → Feeding job a b s t stream line rest → rest ≡ end ++ 0x0a ∷ more → HasNoLineFeed end
      → Wrote job b c ((line ++ end) ∷ []) → HasReadLines job t u ((line ++ end) ∷ []) → new ≡ [] → Feeding job a c s u stream new more
  Feeding-line a b c s t u stream line rest end more new f is free wrote read none =
      record {
        done = f.done ++ (line ++ end) ∷ [];
        wrote = Wrote-then job a b c f.done ((line ++ end) ∷ []) f.wrote wrote;
        read = HasReadLines-then job s t u f.done ((line ++ end) ∷ []) f.read read;
        ended_is = f.ended_is ∙ ap (λ ls. f.done ++ ls) (cut line rest end more f.clean is free) ∙ sym (append_assoc f.done ((line ++ end) ∷ []) (ended more)) ∙ ap (λ l. (f.done ++ (line ++ end) ∷ []) ++ ended (l ++ more)) (sym none);
        unended_is = f.unended_is ∙ uncut line rest end more f.clean is free ∙ ap (λ l. unended (l ++ more)) (sym none);
        clean = rw none tt;
      }

  -- nothing more was written
  pub Feeding-stopped : (a b c : Option (List ℕ)) (s t : Buffers) (stream line rest : List ℕ) → Feeding job a b s t stream line rest → Wrote job b c [] → WroteSome job a c (ended stream)
  Feeding-stopped a b c s t stream line rest f nothing =
      let both : Wrote job a c f.done = rw (← append-nil f.done) (Wrote-then job a b c f.done [] f.wrote nothing) in
      rw f.ended_is (WroteSome-front job a c f.done (ended (line ++ rest)) both)

  -- a part of the next record was written
  Feeding-prefix : (a b c : Option (List ℕ)) (s t : Buffers) (stream line rest end more : List ℕ) → Feeding job a b s t stream line rest → rest ≡ end ++ 0x0a ∷ more → HasNoLineFeed end
      → WrotePrefix job b c ((line ++ end) ∷ []) → WrotePrefix job a c (ended stream)
  Feeding-prefix a b c s t stream line rest end more f is free part =
      let others = AreRecords-exist job (ended more) in
      let all = AreRecords-append job ((line ++ end) ∷ []) (ended more) (part.0 ++ part.1) others.0 part.3 others.1 in
      let next : WrotePrefix job b c (ended (line ++ rest)) = (part.0, part.1 ++ others.0, part.2, rw (cut line rest end more f.clean is free, ← append_assoc part.0 part.1 others.0) all) in
      rw f.ended_is (WrotePrefix-then job a b c f.done (ended (line ++ rest)) f.wrote next)

  -- the record of the next line was not written whole
  pub Feeding-failed : (a b c : Option (List ℕ)) (s t : Buffers) (stream line rest end more : List ℕ) (e : RunError) → Feeding job a b s t stream line rest → rest ≡ end ++ 0x0a ∷ more → HasNoLineFeed end
      → LeavesLines (Err e) job b c [] ((line ++ end) ∷ []) → LeavesLines (Err e) job a c (ended stream) (ended stream)
  Feeding-failed a b c s t stream line rest end more Memory f is free h = Feeding-stopped a b c s t stream line rest f (WroteSome-none job b c h)
  Feeding-failed a b c s t stream line rest end more Write f is free h = Feeding-prefix a b c s t stream line rest end more f is free h
  Feeding-failed a b c s t stream line rest end more Read f is free h = absurd h
  Feeding-failed a b c s t stream line rest end more TooManyReads f is free h = absurd h

  -- no line feed is left
  pub Feeding-end : (a b : Option (List ℕ)) (s t : Buffers) (stream line rest : List ℕ) → Feeding job a b s t stream line rest → HasNoLineFeed rest → Wrote job a b (ended stream)
  Feeding-end a b s t stream line rest f free =
      let none = ended-none (line ++ rest) (HasNoLineFeed-append line rest f.clean free) in
      rw (f.ended_is, none, append-nil f.done) f.wrote

  pub Feeding-read : (a b : Option (List ℕ)) (s t : Buffers) (stream line rest : List ℕ) → Feeding job a b s t stream line rest → HasNoLineFeed rest → HasReadLines job s t (ended stream)
  Feeding-read a b s t stream line rest f free =
      let none = ended-none (line ++ rest) (HasNoLineFeed-append line rest f.clean free) in
      rw (f.ended_is, none, append-nil f.done) f.read

  pub Feeding-kept : (a b : Option (List ℕ)) (s t : Buffers) (stream line rest : List ℕ) → Feeding job a b s t stream line rest → HasNoLineFeed rest → line ++ rest ≡ unended stream
  Feeding-kept a b s t stream line rest f free = sym (f.unended_is ∙ unended-none (line ++ rest) (HasNoLineFeed-append line rest f.clean free))
