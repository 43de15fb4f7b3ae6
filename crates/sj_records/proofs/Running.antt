-- A run so far: what was read was cut into lines, each ended one was read as a text and answered, and the rest is kept.
use Rattle.std.proofs.Common.{◌≡◌, ℕ, List, [], ◌++◌, length, Option, Result, Ok, Err, sym, ap, subst, ◌∙◌, append_assoc, arith}
use Rattle.std.specs.Prelude.{OnOk}
use Rattle.std.proofs.lemmas.List.{append-nil, take_all}
use Rattle.std.specs.Io.KnownBytes.{Consumes, Keeps}
use Rattle.std.proofs.KnownBytes.{Consumes-nil, Consumes-trans, Consumes-kept}
use Rattle.sj_records.specs.declared.run_error.RunError.{RunError}
use Rattle.sj_records.specs.declared.run_error.RunError.TheVariants.{Memory, Write, Read, TooManyReads}
use Rattle.sj_documents.specs.Step.{Job}
use Rattle.sj_records.specs.Lines.{ended, unended, if_any}
use Rattle.sj_records.specs.Record.{AreRecords}
use Rattle.sj_records.specs.Run.{Transfers, LeavesOutput}
use Rattle.sj_records.specs.inside.Progress.{HasNoLineFeed, Wrote, WroteSome, WrotePrefix, LeavesLines}
use Rattle.sj_parse.specs.declared.buffers.Buffers.{Buffers}
use Rattle.sj_records.specs.Texts.{HasReadLines, HasReadStream}
use Rattle.sj_records.proofs.Texts.{HasReadLines-nothing, HasReadLines-then}
use Rattle.sj_records.proofs.Cut.{ended-append, unended-append, unended-HasNoLineFeed}
use Rattle.sj_records.proofs.Written.{Wrote-nothing, Wrote-then, WroteSome-then, WroteSome-none, WrotePrefix-then, AreRecords-append}
use Rattle.sj_records.proofs.Total.{AreRecords-exist}

pub record Running (job : Job) (unread_old unread held_old held : Option (List ℕ)) (first now : Buffers) (line : List ℕ) : Type 0 where
  pub input : List ℕ
  pub consumed : Consumes unread_old unread input
  pub wrote : Wrote job held_old held (ended input)
  pub read : HasReadLines job first now (ended input)
  pub kept : line ≡ unended input

module _ (job : Job) where
  pub Running-begin : (r w : Option (List ℕ)) (b : Buffers) (line : List ℕ) → line ≡ [] → Running job r r w w b b line
  Running-begin r w b line none = record { input = []; consumed = Consumes-nil r; wrote = Wrote-nothing job w; read = HasReadLines-nothing job b; kept = none }

  pub Running-clean : (r0 r1 w0 w1 : Option (List ℕ)) (b0 b1 : Buffers) (line : List ℕ) → Running job r0 r1 w0 w1 b0 b1 line → HasNoLineFeed line
  Running-clean r0 r1 w0 w1 b0 b1 line h = rw h.kept (unended-HasNoLineFeed h.input)

  -- an interrupted read
  pub Running-idle : (r0 r1 r2 w0 w1 : Option (List ℕ)) (b0 b1 : Buffers) (line : List ℕ) → Running job r0 r1 w0 w1 b0 b1 line → Keeps r1 r2 → Running job r0 r2 w0 w1 b0 b1 line
  Running-idle r0 r1 r2 w0 w1 b0 b1 line h keeps = record { input = h.input; consumed = Consumes-kept r0 r1 r2 h.input h.consumed keeps; wrote = h.wrote; read = h.read; kept = h.kept }

  -- the ended lines of what was read now
  more : (input line piece : List ℕ) → line ≡ unended input → ended (input ++ piece) ≡ ended input ++ ended (line ++ piece)
  more input line piece e = ended-append input piece ∙ ap (λ l. ended input ++ ended (l ++ piece)) (sym e)

  pub Running-more : (r0 r1 r2 w0 w1 w2 : Option (List ℕ)) (b0 b1 b2 : Buffers) (line piece new : List ℕ) → Running job r0 r1 w0 w1 b0 b1 line → Consumes r1 r2 piece
      → Wrote job w1 w2 (ended (line ++ piece)) → HasReadLines job b1 b2 (ended (line ++ piece)) → new ≡ unended (line ++ piece) → Running job r0 r2 w0 w2 b0 b2 new
  Running-more r0 r1 r2 w0 w1 w2 b0 b1 b2 line piece new h given wrote read kept =
      record {
        input = h.input ++ piece;
        consumed = Consumes-trans r0 r1 r2 h.input piece h.consumed given;
        wrote = rw (more h.input line piece h.kept) (Wrote-then job w0 w1 w2 (ended h.input) (ended (line ++ piece)) h.wrote wrote);
        read = rw (more h.input line piece h.kept) (HasReadLines-then job b0 b1 b2 (ended h.input) (ended (line ++ piece)) h.read read);
        kept = kept ∙ ap (λ l. unended (l ++ piece)) h.kept ∙ sym (unended-append h.input piece);
      }

  -- ---- what stands written at the end

  abbrev pub Stands : Option (List ℕ) → Option (List ℕ) → Option (List ℕ) → Option (List ℕ) → Result Unit RunError → Type 0
  Stands r0 r1 w0 w1 result = Transfers r0 r1 w0 w1 (LeavesOutput result job)

  -- a read failed
  pub Running-failed : (r0 r1 r2 w0 w1 : Option (List ℕ)) (b0 b1 : Buffers) (line : List ℕ) → Running job r0 r1 w0 w1 b0 b1 line → Keeps r1 r2 → Stands r0 r2 w0 w1 (Err Read)
  Running-failed r0 r1 r2 w0 w1 b0 b1 line h keeps = (h.input, h.wrote.0, Consumes-kept r0 r1 r2 h.input h.consumed keeps, h.wrote.1, h.wrote.2)

  some_stand : (r0 r2 w0 w2 : Option (List ℕ)) (input : List ℕ) → Consumes r0 r2 input → WroteSome job w0 w2 (ended input) → Stands r0 r2 w0 w2 (Err Memory)
  some_stand r0 r2 w0 w2 input consumed h = (input, h.1.0, consumed, h.1.1, (h.0, h.1.2))

  -- the records of the part behind the last line feed
  rest_records : (input : List ℕ) → (bytes : List ℕ) × AreRecords job (if_any (unended input)) bytes
  rest_records input = AreRecords-exist job (if_any (unended input))

  -- a prefix of the records of the ended lines
  prefix_stands : (r0 r2 w0 w2 : Option (List ℕ)) (input : List ℕ) → Consumes r0 r2 input → WrotePrefix job w0 w2 (ended input) → Stands r0 r2 w0 w2 (Err Write)
  prefix_stands r0 r2 w0 w2 input consumed h =
      let last = rest_records input in
      let all = AreRecords-append job (ended input) (if_any (unended input)) (h.0 ++ h.1) last.0 h.3 last.1 in
      (input, h.0, consumed, h.2, (h.1 ++ last.0, rw (← append_assoc h.0 h.1 last.0) all))

  pub Running-fed_some : (r0 r1 r2 w0 w1 w2 : Option (List ℕ)) (b0 b1 : Buffers) (line piece : List ℕ) → Running job r0 r1 w0 w1 b0 b1 line → Consumes r1 r2 piece → WroteSome job w1 w2 (ended (line ++ piece)) → Stands r0 r2 w0 w2 (Err Memory)
  Running-fed_some r0 r1 r2 w0 w1 w2 b0 b1 line piece h read wrote =
      some_stand r0 r2 w0 w2 (h.input ++ piece) (Consumes-trans r0 r1 r2 h.input piece h.consumed read)
      (rw (more h.input line piece h.kept) (WroteSome-then job w0 w1 w2 (ended h.input) (ended (line ++ piece)) h.wrote wrote))

  pub Running-fed_prefix : (r0 r1 r2 w0 w1 w2 : Option (List ℕ)) (b0 b1 : Buffers) (line piece : List ℕ) → Running job r0 r1 w0 w1 b0 b1 line → Consumes r1 r2 piece → WrotePrefix job w1 w2 (ended (line ++ piece)) → Stands r0 r2 w0 w2 (Err Write)
  Running-fed_prefix r0 r1 r2 w0 w1 w2 b0 b1 line piece h read wrote =
      prefix_stands r0 r2 w0 w2 (h.input ++ piece) (Consumes-trans r0 r1 r2 h.input piece h.consumed read)
      (rw (more h.input line piece h.kept) (WrotePrefix-then job w0 w1 w2 (ended h.input) (ended (line ++ piece)) h.wrote wrote))

  -- not all records of a piece were written
  pub Running-piece_failed : (r0 r1 r2 w0 w1 w2 : Option (List ℕ)) (b0 b1 : Buffers) (line piece : List ℕ) (e : RunError) → Running job r0 r1 w0 w1 b0 b1 line → Consumes r1 r2 piece
      → (let lines = ended (line ++ piece) in LeavesLines (Err e) job w1 w2 lines lines) → Stands r0 r2 w0 w2 (Err e)
  Running-piece_failed r0 r1 r2 w0 w1 w2 b0 b1 line piece Memory h read left = Running-fed_some r0 r1 r2 w0 w1 w2 b0 b1 line piece h read left
  Running-piece_failed r0 r1 r2 w0 w1 w2 b0 b1 line piece Write h read left = Running-fed_prefix r0 r1 r2 w0 w1 w2 b0 b1 line piece h read left
  Running-piece_failed r0 r1 r2 w0 w1 w2 b0 b1 line piece Read h read left = absurd left
  Running-piece_failed r0 r1 r2 w0 w1 w2 b0 b1 line piece TooManyReads h read left = absurd left

  -- the reader is at its end
  pub Running-ended : (r0 r1 r2 w0 w1 w2 : Option (List ℕ)) (b0 b1 : Buffers) (line : List ℕ) (result : Result Unit RunError) → Running job r0 r1 w0 w1 b0 b1 line → Consumes r1 r2 []
      → LeavesLines result job w1 w2 [] (if_any line) → Stands r0 r2 w0 w2 result
  Running-ended r0 r1 r2 w0 w1 w2 b0 b1 line (Ok done) h read left =
      let all = Wrote-then job w0 w1 w2 (ended h.input) (if_any line) h.wrote left in
      let consumed = rw append-nil at (Consumes-trans r0 r1 r2 h.input [] h.consumed read) in
      (h.input, all.0, consumed, all.1, subst (λ (l : List ℕ). AreRecords job (ended h.input ++ if_any l) all.0) h.kept all.2)
  Running-ended r0 r1 r2 w0 w1 w2 b0 b1 line (Err Memory) h read left =
      let consumed = rw append-nil at (Consumes-trans r0 r1 r2 h.input [] h.consumed read) in
      let all = Wrote-then job w0 w1 w2 (ended h.input) [] h.wrote (WroteSome-none job w1 w2 left) in
      some_stand r0 r2 w0 w2 h.input consumed (length (ended h.input), rw (take_all (length (ended h.input)) (ended h.input) (omega arith)) (rw append-nil at all))
  Running-ended r0 r1 r2 w0 w1 w2 b0 b1 line (Err Write) h read left =
      let consumed = rw append-nil at (Consumes-trans r0 r1 r2 h.input [] h.consumed read) in
      let all = WrotePrefix-then job w0 w1 w2 (ended h.input) (if_any line) h.wrote left in
      (h.input, all.0, consumed, all.2, (all.1, subst (λ (l : List ℕ). AreRecords job (ended h.input ++ if_any l) (all.0 ++ all.1)) h.kept all.3))
  Running-ended r0 r1 r2 w0 w1 w2 b0 b1 line (Err Read) h read left = absurd left
  Running-ended r0 r1 r2 w0 w1 w2 b0 b1 line (Err TooManyReads) h read left = absurd left

  -- and the texts of all lines were read
  pub Running-read : (r0 r1 r2 w0 w1 w2 : Option (List ℕ)) (b0 b1 b2 : Buffers) (line : List ℕ) (result : Result Unit RunError) → Running job r0 r1 w0 w1 b0 b1 line → Consumes r1 r2 []
      → LeavesLines result job w1 w2 [] (if_any line) → OnOk result (HasReadLines job b1 b2 (if_any line)) → OnOk result (HasReadStream job r0 r2 w0 w2 b0 b2)
  unfolding Running-ended
  Running-read r0 r1 r2 w0 w1 w2 b0 b1 b2 line (Ok done) h given left read =
      let stands = Running-ended r0 r1 r2 w0 w1 w2 b0 b1 line (Ok done) h given left in
      let texts = HasReadLines-then job b0 b1 b2 (ended h.input) (if_any line) h.read read in
      (stands.0, stands.1, stands.2, stands.3, (stands.4, subst (λ (l : List ℕ). HasReadLines job b0 b2 (ended h.input ++ if_any l)) h.kept texts))
  Running-read r0 r1 r2 w0 w1 w2 b0 b1 b2 line (Err e) h given left read = tt
