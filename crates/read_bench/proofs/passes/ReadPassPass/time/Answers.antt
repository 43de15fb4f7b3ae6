use Rattle.std.proofs.Common.{rules}
use Rattle.read_bench.proofs.Refusals.{tapes_refused-copies}
use Rattle.read_bench.proofs.passes.ReadPassPass.time.Goals as goal

pub returns-clause-refused : goal.returns-clause-refused
returns-clause-refused g c =
    let copies = tapes_refused-copies c.args.self.now.documents.items c.in_ok-copies.copies.items (search rules) in
    search rules
