-- One node more, which the container counts.
use Rattle.std.proofs.Common.{List, ◌∷◌, ◌++◌, [], ap, sym, ◌∙◌, subst}
use Rattle.sj_tape.specs.Listing.{Entry}
use Rattle.sj_tape.specs.Nodes.{node_entry, entries}
use Rattle.sj_tape.specs.declared.node.Node.{Node}
use Rattle.sj_parse.specs.Nodes.{HaveCarriers}
use Rattle.sj_parse.specs.inside.Machine.{waiting_entries}
use Rattle.sj_parse.proofs.OpenContainers.{after_value-entries, carriers-one, entries-one}
use Rattle.sj_parse.proofs.containers.add_scalar.Goals as goal

pub returns-clause-at : goal.returns-clause-at
returns-clause-at c = λ ws t es st made. record {
  state_is = c.after_value.ensures.state ws t st;
  entries_are =
      ap entries c.push_reserved.ensures.items ∙ entries-one c.args.nodes.now.items c.args.node
      ∙ ap (λ (xs : List Entry). xs ++ node_entry c.args.node ∷ []) es ∙ ap (λ (xs : List Entry). waiting_entries ws ++ xs) made ∙ after_value-entries ws t;
  stack_is = c.after_value.ensures.stack ws t st;
}

pub returns-clause-carriers : goal.returns-clause-carriers
returns-clause-carriers c = λ ts t makes has h.
    subst (λ (ns : List Node). HaveCarriers (ts ++ t ∷ []) ns) (sym c.push_reserved.ensures.items) (carriers-one ts c.args.nodes.now.items t c.args.node makes has h)
