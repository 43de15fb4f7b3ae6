use Rattle.std.proofs.Common.{◌∙◌, ap, sym, rules, arith}
use Rattle.std.proofs.lemmas.Grind.{common_steps}
use Rattle.std.proofs.lemmas.List.{length-map}
use Rattle.std.proofs.lemmas.Simd.{map-map}
use Rattle.std.specs.Cow.{cow_str_bytes}
use Rattle.sj_base.specs.Containers.{members_len, member_pairs}
use Rattle.sj_base.specs.Scalar.{decimal_cow_text}
use Rattle.sj_owned.specs.Views.{members_view}
use Rattle.sj_lazy.specs.Parts.{object_members, tape_pair, document_pair, pair_tree}
use Rattle.sj_lazy.specs.Views.{document_tree}
use Rattle.sj_lazy.proofs.Lists.{members_count, pairs_of_members}
use Rattle.sj_lazy.proofs.object.Object.iter.Goals as goal

pub returns-in-Tape-clause-members : goal.returns-in-Tape-clause-members
returns-in-Tape-clause-members c = map-map pair_tree tape_pair _ ∙ c.iter.ensures.members ∙ sym (ap (λ o. member_pairs (object_members o)) c.in-Tape.is)

pub returns-in-Value-clause-members : goal.returns-in-Value-clause-members
returns-in-Value-clause-members c =
    map-map pair_tree document_pair _
    ∙ pairs_of_members document_tree cow_str_bytes _
    ∙ ap (λ es. member_pairs (members_view cow_str_bytes decimal_cow_text es)) c.iter-in-Value.ensures
    ∙ sym (ap (λ o. member_pairs (object_members o)) c.in-Value.is)

pub returns-in-Value-clause-count : goal.returns-in-Value-clause-count
returns-in-Value-clause-count c =
    length-map _ document_pair
    ∙ members_count document_tree cow_str_bytes _
    ∙ ap (λ es. members_len (members_view cow_str_bytes decimal_cow_text es)) c.iter-in-Value.ensures
    ∙ sym (ap (λ o. members_len (object_members o)) c.in-Value.is)

pub returns-in-Tape-clause-parts : goal.returns-in-Tape-clause-parts
returns-in-Tape-clause-parts c = search rules

pub returns-in-Tape-clause-count : goal.returns-in-Tape-clause-count
returns-in-Tape-clause-count c = grind (arith, common_steps)
