-- Behind an error there are no nodes, and else they list the text's tree.
use Rattle.std.proofs.Common.{◌≢◌, List, [], ap, inl, inr, sym, ◌∙◌, subst}
use Rattle.std.specs.Prelude.{OnOk}
use Rattle.sj_tape.specs.Nodes.{entries}
use Rattle.sj_tape.specs.declared.node.Node.{Node}
use Rattle.sj_tape.specs.Listed.{IsPreorder}
use Rattle.sj_parse.specs.Fault.{fault}
use Rattle.sj_parse.specs.Answers.{buffer_limit}
use Rattle.sj_parse.proofs.TextTapes.{IsPreorder-Answers, not_empty-Answers, on_ok-err}
use Rattle.sj_parse.proofs.reading.fill_tape_by.Goals as goal
use Rattle.sj_parse.proofs.reading.fill_tape_by.Goals.{then-is_err, else-is_err}

pub from_listing-requires : goal.from_listing-requires
from_listing-requires g c =
    let limit = buffer_limit c.args.buffers.now in
    elim c.if-is_err.branch [
      | then-is_err w ↦ inl (ap (λ v. v.items) w.nodes-is ∙ w.clear.ensures.items)
      | else-is_err w ↦ inr (subst (λ v. IsPreorder (entries v.items)) (sym w.nodes-is) (IsPreorder-Answers c.args.s.now limit (fault c.args.s.now limit) c.read_nodes-read.new.nodes.items c.read_nodes-read.result (sym c.is_err.ensures.value ∙ w.if-is_err.false) c.read_nodes-read.ensures.answers))
    ]

pub returns-clause-not_empty : goal.returns-clause-not_empty
returns-clause-not_empty g c =
    let limit = buffer_limit c.args.buffers.now in
    elim c.if-is_err.branch [
      | then-is_err w ↦ on_ok-err _ c.read_nodes-read.result (sym c.is_err.ensures.value ∙ w.if-is_err.true)
      | else-is_err w ↦ subst (λ (ns : List Node). OnOk c.read_nodes-read.result (ns ≢ [])) (sym (c.from_listing.ensures.nodes ∙ ap (λ v. v.items) w.nodes-is)) (not_empty-Answers c.args.s.now limit (fault c.args.s.now limit) c.read_nodes-read.new.nodes.items c.read_nodes-read.result c.read_nodes-read.ensures.answers)
    ]
