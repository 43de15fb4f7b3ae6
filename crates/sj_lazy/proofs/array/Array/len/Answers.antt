use Rattle.std.proofs.Common.{◌∙◌, ap, sym, length, rules}
use Rattle.sj_base.specs.Containers.{items_len}
use Rattle.sj_lazy.specs.Parts.{array_items}
use Rattle.sj_lazy.specs.Views.{document_tree}
use Rattle.sj_lazy.proofs.Lists.{items_count}
use Rattle.sj_lazy.proofs.array.Array.len.Goals as goal

pub returns-in-Value : goal.returns-in-Value
returns-in-Value c = ap length c.as_slice.ensures.value ∙ items_count document_tree c.in-Value.items.now.items ∙ sym (ap (λ a. items_len (array_items a)) c.in-Value.is)

pub returns-in-Tape : goal.returns-in-Tape
returns-in-Tape c = search rules
