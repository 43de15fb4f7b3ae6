use Rattle.std.proofs.Common.{◌-◌, ◌∙◌, arith, sym, subst}
use Rattle.sj_base.specs.Tree.{Items, item, AreValidItems}
use Rattle.sj_tape.specs.Listing.{items_listing}
use Rattle.sj_tape.specs.Nodes.{entries}
use Rattle.sj_tape.proofs.Listings.{items_from, lists_items}
use Rattle.sj_tape.proofs.Children.{item_nodes-step, item_nodes-first, item_nodes-none, item_runs-step, item_runs-none}
use Rattle.sj_tape.proofs.ValidTrees.{items_found, are_valid_items}
use Rattle.sj_tape.proofs.Cutting.{items_front, no_items_left, item_same}
use Rattle.sj_tape.proofs.array.Array.split_first.Goals as goal

pub returns-then-self-eq0-clause-items : goal.returns-then-self-eq0-clause-items
returns-then-self-eq0-clause-items c = no_items_left c.args.self.now.len (entries c.args.self.now.nodes.now) c.args.self.now.items (omega arith)

pub split_from-requires : goal.split_from-requires
split_from-requires c =
    let f = items_front c.args.self.now.len (entries c.args.self.now.nodes.now) c.args.self.now.items (omega arith) in
    let both : AreValidItems (item f.0 f.1) = subst (λ (ts : Items). AreValidItems ts) f.2 (items_found _ c.args.self.now.are_valid) in
    (f.0, items_listing f.1, both.0, f.3)

pub invariant_of-rest : goal.invariant_of-rest
invariant_of-rest c =
    let f = items_front c.args.self.now.len (entries c.args.self.now.nodes.now) c.args.self.now.items (omega arith) in
    let both = c.split_from.ensures.tree f.0 (items_listing f.1) f.3 in
    let trees : AreValidItems (item f.0 f.1) = subst (λ (ts : Items). AreValidItems ts) f.2 (items_found _ c.args.self.now.are_valid) in
    record { items = lists_items (entries c.split_from.result.1.now) f.1 (c.args.self.now.len - 1) both.1 f.4; are_valid = are_valid_items (entries c.split_from.result.1.now) f.1 (c.args.self.now.len - 1) both.1 f.4 trees.1 }

pub returns-clause-items : goal.returns-clause-items
returns-clause-items c =
    let f = items_front c.args.self.now.len (entries c.args.self.now.nodes.now) c.args.self.now.items (omega arith) in
    let both = c.split_from.ensures.tree f.0 (items_listing f.1) f.3 in
    f.2 ∙ sym (item_same _ _ _ _ both.0 (items_from (entries c.split_from.result.1.now) f.1 (c.args.self.now.len - 1) both.1 f.4))

pub returns-then-self-eq0-clause-first : goal.returns-then-self-eq0-clause-first
returns-then-self-eq0-clause-first c = item_nodes-none c.args.self.now.len c.args.self.now.nodes.now 0 (omega arith)

pub returns-then-self-eq0-clause-behind : goal.returns-then-self-eq0-clause-behind
returns-then-self-eq0-clause-behind c = λ i some. item_nodes-none c.args.self.now.len c.args.self.now.nodes.now i (omega arith)

pub returns-clause-first : goal.returns-clause-first
returns-clause-first c =
    let a = c.args.self.now in
    let f = items_front a.len (entries a.nodes.now) a.items (omega arith) in
    item_nodes-first a.len a.nodes.now c.split_from.result.0.nodes.now c.split_from.result.1.now f.0 c.split_from.ensures.parts (c.split_from.ensures.first f.0 (items_listing f.1) f.3) (omega arith)

pub returns-clause-behind : goal.returns-clause-behind
returns-clause-behind c = λ i some.
    let a = c.args.self.now in
    let f = items_front a.len (entries a.nodes.now) a.items (omega arith) in
    item_nodes-step a.len a.nodes.now c.split_from.result.0.nodes.now c.split_from.result.1.now f.0 i c.split_from.ensures.parts (c.split_from.ensures.first f.0 (items_listing f.1) f.3) (omega arith) some

pub returns-then-self-eq0-clause-runs : goal.returns-then-self-eq0-clause-runs
returns-then-self-eq0-clause-runs c = item_runs-none c.args.self.now.len c.args.self.now.nodes.now (omega arith)

pub returns-clause-runs : goal.returns-clause-runs
returns-clause-runs c =
    let a = c.args.self.now in
    let f = items_front a.len (entries a.nodes.now) a.items (omega arith) in
    item_runs-step a.len a.nodes.now c.split_from.result.0.nodes.now c.split_from.result.1.now f.0 c.split_from.ensures.parts (c.split_from.ensures.first f.0 (items_listing f.1) f.3) (omega arith)
