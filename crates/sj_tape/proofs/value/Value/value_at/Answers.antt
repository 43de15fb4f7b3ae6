use Rattle.std.proofs.Common.{◌≡◌, ◌-◌, take, drop, length, sym, ap, ◌∙◌}
use Rattle.std.proofs.lemmas.List.{take_rest}
use Rattle.sj_tape.specs.Listing.{listing}
use Rattle.sj_tape.specs.Nodes.{entries}
use Rattle.sj_tape.proofs.Beginnings.{nodes_begin}
use Rattle.sj_tape.proofs.value.Value.value_at.Goals as goal

pub split_from-requires : goal.split_from-requires
split_from-requires c =
    let self = c.args.self.now in
    let i = c.args.index in
    let all = self.nodes.now in
    let begun = nodes_begin self.nodes.now i self.listed self.is_valid c.requires in
    let same : take (length all - i) (drop i all) ≡ drop i self.nodes.now = take_rest all i in
    (begun.0, begun.1, begun.2, ap entries same ∙ begun.3)

pub returns-clause-listed : goal.returns-clause-listed
returns-clause-listed c =
    let self = c.args.self.now in
    let i = c.args.index in
    let all = self.nodes.now in
    let begun = nodes_begin self.nodes.now i self.listed self.is_valid c.requires in
    let same : take (length all - i) (drop i all) ≡ drop i self.nodes.now = take_rest all i in
    let cut = ap entries same ∙ begun.3 in
    c.split_from.ensures.first begun.0 begun.1 cut ∙ ap listing (sym (c.split_from.ensures.tree begun.0 begun.1 cut).0)
