use Rattle.std.proofs.Common.{◌≡◌, ◌≢◌, ◌≤◌, List, inr, Some, IfSome, length, subst, ℕ, rules, arith, drop, option_map}
use Rattle.std.proofs.lemmas.Option.{IfSome_then}
use Rattle.sj_tape.specs.Listing.{Entry}
use Rattle.sj_tape.specs.Nodes.{entries}
use Rattle.sj_tape.specs.inside.Passing.{PassesTree}
use Rattle.sj_tape.specs.declared.node.Node.{Node}
use Rattle.sj_tape.proofs.NodeLists.{length-entries}
use Rattle.sj_tape.proofs.Tapes.{whole, not_whole, passed_is_valid}
use Rattle.sj_tape.proofs.tape.Tape.new.Goals as goal

pub from_listing-requires : goal.from_listing-requires
from_listing-requires c =
    let es : List Entry = entries c.args.nodes.items in
    let end : c.tree_end.result ≡ Some c.len.result = search rules in
    let all : c.len.result ≡ length es = omega (arith, length-entries c.args.nodes.items, c.len.ensures) in
    let same : c.deref.result.now ≡ c.args.nodes.items = c.deref.ensures.value in
    let passes : PassesTree (drop 0 es) (option_map (λ (x : ℕ). drop x es) c.tree_end.result) = subst (λ (ns : List Node). PassesTree (drop 0 (entries ns)) (option_map (λ (x : ℕ). drop x (entries ns)) c.tree_end.result)) same c.tree_end.ensures.passes in
    inr (whole es c.len.result c.tree_end.result passes end all)

pub returns-clause-accepts : goal.returns-clause-accepts
returns-clause-accepts c =
    let es : List Entry = entries c.args.nodes.items in
    let other : c.tree_end.result ≢ Some c.len.result = search rules in
    let all : c.len.result ≡ length es = omega (arith, length-entries c.args.nodes.items, c.len.ensures) in
    let same : c.deref.result.now ≡ c.args.nodes.items = c.deref.ensures.value in
    let passes : PassesTree (drop 0 es) (option_map (λ (x : ℕ). drop x es) c.tree_end.result) = subst (λ (ns : List Node). PassesTree (drop 0 (entries ns)) (option_map (λ (x : ℕ). drop x (entries ns)) c.tree_end.result)) same c.tree_end.ensures.passes in
    let low : IfSome c.tree_end.result (λ end. end ≤ c.len.result) = IfSome_then c.tree_end.result c.tree_end.ensures.bounds (λ x p. omega (arith, p.1, c.deref.ensures.len, c.len.ensures)) in
    ((λ e. cc), (λ w. absurd (not_whole es c.len.result c.tree_end.result passes low other all w.0 w.1)))

pub returns-then-eq-clause-tree : goal.returns-then-eq-clause-tree
returns-then-eq-clause-tree c = c.from_listing.ensures.tree

pub returns-then-eq-clause-is_valid : goal.returns-then-eq-clause-is_valid
returns-then-eq-clause-is_valid c = λ t e.
    let passes = subst (λ (ns : List Node). PassesTree (drop 0 (entries ns)) (option_map (λ (x : ℕ). drop x (entries ns)) c.tree_end.result)) c.deref.ensures.value c.tree_end.ensures.passes in
    passed_is_valid (entries c.args.nodes.items) c.tree_end.result passes t e

pub returns-clause-is_valid : goal.returns-clause-is_valid
returns-clause-is_valid c = λ t e.
    let passes = subst (λ (ns : List Node). PassesTree (drop 0 (entries ns)) (option_map (λ (x : ℕ). drop x (entries ns)) c.tree_end.result)) c.deref.ensures.value c.tree_end.ensures.passes in
    passed_is_valid (entries c.args.nodes.items) c.tree_end.result passes t e
