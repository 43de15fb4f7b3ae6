use Rattle.std.specs.Io.{StartsWith}
use Rattle.sj_documents.proofs.ListedKeys.{IsPrinted}
use Rattle.sj_documents.proofs.part.put_keys.Given as goal

abbrev pub invariant-loop-key : goal.invariant-loop-key
invariant-loop-key g l = StartsWith l.out.items l.fn.out.items × IsPrinted l.yielded l.list l.fn.out.items l.out.items
