use Rattle.std.proofs.Common.{◌∙◌, ap, sym}
use Rattle.std.specs.Cow.{cow_str_bytes}
use Rattle.sj_base.specs.Containers.{members_len}
use Rattle.sj_lazy.specs.Parts.{object_members}
use Rattle.sj_lazy.specs.Views.{document_tree}
use Rattle.sj_lazy.proofs.Lists.{members_count}
use Rattle.sj_lazy.proofs.object.Object.len.Goals as goal

pub returns-in-Value : goal.returns-in-Value
returns-in-Value c = c.len-in-Value.ensures.len ∙ members_count document_tree cow_str_bytes c.in-Value.members.now ∙ sym (ap (λ o. members_len (object_members o)) c.in-Value.is)
