use Rattle.std.proofs.Common.{◌≡◌, length, map, ap, ap₂, subst, sym, ◌∙◌, None, arith}
use Rattle.std.specs.List.{insert}
use Rattle.sj_object.specs.Hash.{text_hash}
use Rattle.sj_object.specs.declared.table.Link.{Link}
use Rattle.sj_object.specs.inside.Chains.{IsTable}
use Rattle.sj_object.proofs.Chains.{have_hashes, inserted_last, map-insert, table_put}
use Rattle.sj_object.proofs.table.Table.insert.Goals as goal

pub returns-then-place-len : goal.returns-then-place-len
returns-then-place-len c = λ ks k is own.
    let old = c.args.self.now in
    let at = c.args.place in
    let end : at ≡ length ks = omega (arith, c.if-place-len.true, c.len.ensures, is.1) in
    subst (IsTable c.put.new.self) (sym (inserted_last ks at k end)) (table_put old c.put.new.self ks k c.args.hash own c.put.ensures.heads c.put.ensures.links is)

pub returns-else-place-len : goal.returns-else-place-len
returns-else-place-len c = λ ks k is own.
    let old = c.args.self.now in
    let at = c.args.place in
    let hash = λ (l : Link). l.hash in
    c.relink.ensures.table (insert ks at k)
    (ap (map hash) c.insert_reserved.ensures.items
    ∙ map-insert hash old.links.items at (record { hash = c.args.hash; next = None })
    ∙ ap₂ (λ hs h. insert hs at h) (have_hashes old.heads.items old.links.items ks is) own
    ∙ sym (map-insert text_hash ks at k))
