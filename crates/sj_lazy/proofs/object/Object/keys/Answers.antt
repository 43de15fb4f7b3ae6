use Rattle.std.proofs.Common.{◌∙◌, ap, sym, map, length}
use Rattle.std.proofs.lemmas.List.{length-map}
use Rattle.std.proofs.lemmas.Simd.{map-map}
use Rattle.std.specs.Cow.{cow_str_bytes}
use Rattle.std.specs.declared.alloc.Global.{Global}
use Rattle.std.specs.declared.borrow.CowStr.{CowStr}
use Rattle.sj_base.specs.Containers.{members_len, member_pairs}
use Rattle.sj_object.specs.declared.entry.Entry.{Entry}
use Rattle.sj_lazy.specs.Contents.{Document}
use Rattle.sj_lazy.specs.Parts.{object_members}
use Rattle.sj_lazy.specs.Views.{document_tree}
use Rattle.sj_lazy.proofs.Lists.{members_count, keys_of_members}
use Rattle.sj_lazy.proofs.object.Object.keys.Goals as goal

abbrev name : Entry (CowStr Global) Document → CowStr Global
name e = e.key

pub returns-in-Value-clause-keys : goal.returns-in-Value-clause-keys
returns-in-Value-clause-keys c =
    ap (map cow_str_bytes) c.keys-in-Value.ensures
    ∙ map-map cow_str_bytes name _
    ∙ keys_of_members document_tree cow_str_bytes c.in-Value.members.now
    ∙ sym (ap (λ o. map (λ p. p.0) (member_pairs (object_members o))) c.in-Value.is)

pub returns-in-Value-clause-count : goal.returns-in-Value-clause-count
returns-in-Value-clause-count c =
    length-map _ cow_str_bytes
    ∙ ap length c.keys-in-Value.ensures
    ∙ length-map _ name
    ∙ members_count document_tree cow_str_bytes c.in-Value.members.now
    ∙ sym (ap (λ o. members_len (object_members o)) c.in-Value.is)
