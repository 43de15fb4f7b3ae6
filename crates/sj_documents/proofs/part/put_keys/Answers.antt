use Rattle.std.proofs.Common.{arith, rules}
use Rattle.std.proofs.lemmas.Grind.{common_steps}
use Rattle.std.specs.Io.{StartsWith}
use Rattle.std.specs.Iterator.{Drains}
use Rattle.sj_documents.proofs.ListedKeys.{keys-more, keys-closed}
use Rattle.sj_documents.proofs.part.put_keys.Goals as goal

pub loop-key-preserved : goal.loop-key-preserved
loop-key-preserved g c =
    let loop = c.loop-key in
    let starts : StartsWith c.print_text.new.out.items c.args.out.now.items = grind (arith, common_steps) in
    (starts, keys-more loop.yielded c.in-Some.key loop.list _ _ loop.out.items _ _ loop.invariant.1 c.in_ok-next.ensures.container c.in_ok-next.ensures.printed c.in_ok-print_text.ensures)

pub returns : goal.returns
returns g c =
    let loop = c.loop-key in
    let steps = g.I.Iterator.next_gives in
    let all : Drains steps c.args.keys loop.yielded = search rules in
    keys-closed steps c.args.keys loop.yielded loop.list _ loop.out c.close.new.out c.close.result loop.invariant.0 loop.invariant.1 all c.close.ensures
