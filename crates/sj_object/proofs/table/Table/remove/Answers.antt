use Rattle.std.proofs.Common.{◌≡◌, suc, length, map, slice_get, Some, ap, sym, ◌∙◌, arith}
use Rattle.std.specs.List.{remove}
use Rattle.sj_object.specs.Hash.{text_hash}
use Rattle.sj_object.specs.declared.table.Link.{Link}
use Rattle.sj_object.proofs.Chains.{get_within, have_hashes, map-remove, removed_last, chained_pop}
use Rattle.sj_object.proofs.table.Table.remove.Goals as goal

pub returns-then-place-len : goal.returns-then-place-len
returns-then-place-len c = λ ks is.
    let old = c.args.self.now in
    let at = c.args.place in
    let count : length old.links.items ≡ suc at = omega (arith, c.if-place-len.true, c.len.ensures, c.remove-link.ensures.len) in
    let link = c.remove-link.result in
    let last : slice_get old.links.items at ≡ Some link = sym (get_within old.links.items at link (omega (arith, count))) ∙ ap (λ l. Some l) (sym c.remove-link.ensures.value) in
    let keys : length ks ≡ suc at = omega (arith, is.1, count) in
    rw (removed_last ks at keys, c.home-home.ensures.home, c.remove-link.ensures.items, removed_last old.links.items at count)
    (chained_pop old.heads.items old.links.items ks is at count link last)

pub returns-else-place-len : goal.returns-else-place-len
returns-else-place-len c = λ ks is.
    let old = c.args.self.now in
    let at = c.args.place in
    let hash = λ (l : Link). l.hash in
    c.relink.ensures.table (remove ks at)
    (ap (map hash) c.remove-link.ensures.items
    ∙ map-remove hash old.links.items at
    ∙ ap (λ hs. remove hs at) (have_hashes old.heads.items old.links.items ks is)
    ∙ sym (map-remove text_hash ks at))
