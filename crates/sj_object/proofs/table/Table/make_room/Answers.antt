use Rattle.std.proofs.Common.{map, ap, ◌∙◌}
use Rattle.sj_object.specs.declared.table.Link.{Link}
use Rattle.sj_object.proofs.Chains.{have_hashes}
use Rattle.sj_object.proofs.table.Table.make_room.Goals as goal

pub returns-clause-table : goal.returns-clause-table
returns-clause-table c = λ ks is.
    let old = c.args.self.now in
    let hash = λ (l : Link). l.hash in
    c.relink.ensures.table ks (ap (map hash) c.reserve_exact.ensures.items ∙ have_hashes old.heads.items old.links.items ks is)
