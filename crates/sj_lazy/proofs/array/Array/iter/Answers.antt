use Rattle.std.proofs.Common.{◌∙◌, ap, sym}
use Rattle.std.proofs.lemmas.List.{length-map}
use Rattle.std.proofs.lemmas.Simd.{map-map}
use Rattle.std.specs.Cow.{cow_str_bytes}
use Rattle.sj_base.specs.Containers.{items_len, item_trees}
use Rattle.sj_base.specs.Scalar.{decimal_cow_text}
use Rattle.sj_owned.specs.Views.{items_view}
use Rattle.sj_lazy.specs.Contents.{nodes, document}
use Rattle.sj_lazy.specs.Parts.{array_items}
use Rattle.sj_lazy.specs.Views.{document_tree, contents_tree}
use Rattle.sj_lazy.proofs.Lists.{items_count, trees_of_items}
use Rattle.sj_lazy.proofs.array.Array.iter.Goals as goal

pub returns-in-Tape-clause-items : goal.returns-in-Tape-clause-items
returns-in-Tape-clause-items c = map-map contents_tree nodes _ ∙ c.iter.ensures.items ∙ sym (ap (λ a. item_trees (array_items a)) c.in-Tape.is)

pub returns-in-Value-clause-items : goal.returns-in-Value-clause-items
returns-in-Value-clause-items c =
    map-map contents_tree document _
    ∙ trees_of_items document_tree _
    ∙ ap (λ vs. item_trees (items_view cow_str_bytes decimal_cow_text vs)) (c.iter-in-Value.ensures.rest ∙ c.deref.ensures.value)
    ∙ sym (ap (λ a. item_trees (array_items a)) c.in-Value.is)

pub returns-in-Value-clause-count : goal.returns-in-Value-clause-count
returns-in-Value-clause-count c =
    length-map _ document
    ∙ items_count document_tree _
    ∙ ap (λ vs. items_len (items_view cow_str_bytes decimal_cow_text vs)) (c.iter-in-Value.ensures.rest ∙ c.deref.ensures.value)
    ∙ sym (ap (λ a. items_len (array_items a)) c.in-Value.is)
