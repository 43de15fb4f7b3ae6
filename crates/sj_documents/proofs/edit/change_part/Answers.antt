use Rattle.std.proofs.Common.{sym, ◌∙◌}
use Rattle.sj_documents.proofs.BackEdits.{member_taken, item_taken}
use Rattle.sj_documents.proofs.edit.change_part.Goals as goal

pub returns-in-DropMember : goal.returns-in-DropMember
returns-in-DropMember g c =
    let taken = member_taken g.K.ObjectKey.text g.D.Literal.literal c.args.part.now c.remove.new.self c.deref.result.now c.remove.result c.remove.ensures.value c.remove.ensures.tree c.remove.ensures.unchanged in
    rw (c.in-DropMember.is, sym c.deref.ensures) (c.is_taken.ensures ∙ taken.0, taken.1)

pub returns-in-DropItem : goal.returns-in-DropItem
returns-in-DropItem g c =
    let taken = item_taken g.K.ObjectKey.text g.D.Literal.literal c.args.part.now c.pop.new.self c.pop.result c.pop.ensures.value c.pop.ensures.tree c.pop.ensures.unchanged in
    rw c.in-DropItem.is (c.is_taken-in-DropItem.ensures ∙ taken.0, taken.1)
