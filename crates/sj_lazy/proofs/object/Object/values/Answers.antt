use Rattle.std.proofs.Common.{◌∙◌, ap, sym, map, length}
use Rattle.std.proofs.lemmas.List.{length-map}
use Rattle.std.proofs.lemmas.Simd.{map-map}
use Rattle.std.specs.Cow.{cow_str_bytes}
use Rattle.std.specs.declared.alloc.Global.{Global}
use Rattle.std.specs.declared.borrow.CowStr.{CowStr}
use Rattle.sj_base.specs.Containers.{members_len, member_pairs}
use Rattle.sj_object.specs.declared.entry.Entry.{Entry}
use Rattle.sj_lazy.specs.Contents.{Document, nodes, document}
use Rattle.sj_lazy.specs.Parts.{object_members, object_parts, tape_pair, document_pair}
use Rattle.sj_lazy.specs.Views.{document_tree, contents_tree}
use Rattle.sj_lazy.proofs.Lists.{members_count, values_of_members}
use Rattle.std.specs.Prelude.{ℕ, List}
use Rattle.sj_lazy.specs.Contents.{Contents}
use Rattle.sj_tape.specs.declared.node.Node.{Node}
use Rattle.sj_lazy.proofs.object.Object.values.Goals as goal

abbrev inside : Entry (CowStr Global) Document → Document
inside e = e.value

abbrev run : List ℕ × List Node → List Node
run p = p.1

abbrev part : List ℕ × Contents → Contents
part p = p.1

pub returns-in-Tape-clause-parts : goal.returns-in-Tape-clause-parts
returns-in-Tape-clause-parts c =
    ap (map nodes) c.values.ensures.nodes
    ∙ map-map nodes run _
    ∙ sym (map-map part tape_pair _)
    ∙ sym (ap (λ o. map part (object_parts o)) c.in-Tape.is)

pub returns-in-Tape-clause-values : goal.returns-in-Tape-clause-values
returns-in-Tape-clause-values c = map-map contents_tree nodes _ ∙ c.values.ensures.values ∙ sym (ap (λ o. map (λ p. p.1) (member_pairs (object_members o))) c.in-Tape.is)

pub returns-in-Value-clause-parts : goal.returns-in-Value-clause-parts
returns-in-Value-clause-parts c =
    ap (map document) c.values-in-Value.ensures
    ∙ map-map document inside _
    ∙ sym (map-map part document_pair _)
    ∙ sym (ap (λ o. map part (object_parts o)) c.in-Value.is)

pub returns-in-Value-clause-values : goal.returns-in-Value-clause-values
returns-in-Value-clause-values c =
    map-map contents_tree document _
    ∙ ap (map document_tree) c.values-in-Value.ensures
    ∙ map-map document_tree inside _
    ∙ values_of_members document_tree cow_str_bytes c.in-Value.members.now
    ∙ sym (ap (λ o. map (λ p. p.1) (member_pairs (object_members o))) c.in-Value.is)

pub returns-in-Value-clause-count : goal.returns-in-Value-clause-count
returns-in-Value-clause-count c =
    length-map _ document
    ∙ ap length c.values-in-Value.ensures
    ∙ length-map _ inside
    ∙ members_count document_tree cow_str_bytes c.in-Value.members.now
    ∙ sym (ap (λ o. members_len (object_members o)) c.in-Value.is)
