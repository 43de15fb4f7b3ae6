use Rattle.std.proofs.Common.{◌≡◌, ℕ, ◌+◌, length, ap, ◌∙◌, arith}
use Rattle.sj_tape.specs.Listing.{listing}
use Rattle.sj_tape.specs.Nodes.{entries}
use Rattle.sj_tape.proofs.Listings.{tree_from}
use Rattle.sj_tape.proofs.ValidTrees.{is_valid}
use Rattle.sj_tape.proofs.Tapes.{is_tape}
use Rattle.sj_tape.proofs.Cutting.{first_count, listing_long, front_fits, cut_front, cut_back}
use Rattle.sj_tape.proofs.value.Value.split_from.Goals as goal

pub bounds-nodes-0 : goal.bounds-nodes-0
bounds-nodes-0 c = omega (arith, listing_long c.requires.0, front_fits c.args.nodes.now c.requires.0 c.requires.1 c.requires.3)

pub overflow_add-count : goal.overflow_add-count
overflow_add-count c =
    let m : c.count.result + 1 ≡ length (listing c.requires.0) = ap (λ (n : ℕ). n + 1) c.count.ensures ∙ first_count c.args.nodes.now c.requires.0 c.requires.1 c.index-nodes-0.result c.requires.3 c.index-nodes-0.is in
    omega (arith, m, front_fits c.args.nodes.now c.requires.0 c.requires.1 c.requires.3, c.well_formed.0.0)

pub split_at-requires : goal.split_at-requires
split_at-requires c =
    let m : c.count.result + 1 ≡ length (listing c.requires.0) = ap (λ (n : ℕ). n + 1) c.count.ensures ∙ first_count c.args.nodes.now c.requires.0 c.requires.1 c.index-nodes-0.result c.requires.3 c.index-nodes-0.is in
    omega (arith, m, front_fits c.args.nodes.now c.requires.0 c.requires.1 c.requires.3)

pub invariant_of-result : goal.invariant_of-result
invariant_of-result c =
    let m : c.count.result + 1 ≡ length (listing c.requires.0) = ap (λ (n : ℕ). n + 1) c.count.ensures ∙ first_count c.args.nodes.now c.requires.0 c.requires.1 c.index-nodes-0.result c.requires.3 c.index-nodes-0.is in
    let front : entries c.split_at.result.0.now ≡ listing c.requires.0 = ap entries c.split_at.ensures.front ∙ cut_front c.args.nodes.now c.requires.0 c.requires.1 (c.count.result + 1) c.requires.3 m in
    record { listed = is_tape (entries c.split_at.result.0.now) c.requires.0 front; is_valid = is_valid (entries c.split_at.result.0.now) c.requires.0 front c.requires.2 }

pub returns-clause-tree : goal.returns-clause-tree
returns-clause-tree c = λ t rest h.
    let m : c.count.result + 1 ≡ length (listing t) = ap (λ (n : ℕ). n + 1) c.count.ensures ∙ first_count c.args.nodes.now t rest c.index-nodes-0.result h c.index-nodes-0.is in
    let front : entries c.split_at.result.0.now ≡ listing t = ap entries c.split_at.ensures.front ∙ cut_front c.args.nodes.now t rest (c.count.result + 1) h m in
    let back : entries c.split_at.result.1.now ≡ rest = ap entries c.split_at.ensures.back ∙ cut_back c.args.nodes.now t rest (c.count.result + 1) h m in
    (tree_from (entries c.split_at.result.0.now) t front, back)

pub returns-clause-first : goal.returns-clause-first
returns-clause-first c = λ t rest h.
    let m : c.count.result + 1 ≡ length (listing t) = ap (λ (n : ℕ). n + 1) c.count.ensures ∙ first_count c.args.nodes.now t rest c.index-nodes-0.result h c.index-nodes-0.is in
    ap entries c.split_at.ensures.front ∙ cut_front c.args.nodes.now t rest (c.count.result + 1) h m
