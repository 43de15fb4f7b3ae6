use Rattle.std.proofs.Common.{ℕ, List, [], Option, Result, Ok, Err, sym, rules}
use Rattle.std.specs.Prelude.{OnErr}
use Rattle.std.specs.Io.KnownBytes.{Appends, Keeps}
use Rattle.std.proofs.KnownBytes.{Appends-kept}
use Rattle.std.proofs.lemmas.List.{append-nil}
use Rattle.sj_base.specs.Output.{AppendsPrefix}
use Rattle.records_program.specs.declared.fault.Fault.{Fault}
use Rattle.records_program.proofs.program.print_help.Goals as goal

-- the whole of the help was written before the flush
before_flush : (old mid new : Option (List ℕ)) (help : List ℕ) (flushed : Result Unit Fault) → Appends old mid help → Keeps mid new → OnErr flushed (AppendsPrefix old new help)
before_flush old mid new help (Ok done) wrote keeps = tt
before_flush old mid new help (Err fault) wrote keeps = (help, [], sym (append-nil help), Appends-kept old mid new help wrote keeps)

pub returns-in-Ok-clause-err : goal.returns-in-Ok-clause-err
returns-in-Ok-clause-err g c =
    let left = before_flush (g.O.Write.contents c.args.output.now) _ _ c.args.help.now c.flush.result (rw c.in-Ok.is at rw c.as_bytes.ensures.value at c.put_counted-put.ensures.ok) c.flush.ensures.bytes in
    search rules
