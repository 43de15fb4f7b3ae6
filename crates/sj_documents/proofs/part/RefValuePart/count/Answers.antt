use Rattle.std.proofs.Common.{◌≡◌, Ok, length, arith, ap, sym, ◌∙◌}
use Rattle.std.specs.Prelude.{pos}
use Rattle.sj_base.specs.Tree.{integer}
use Rattle.sj_owned.specs.Views.{value_tree}
use Rattle.sj_owned.proofs.Layers.{tree-Array, tree-Object}
use Rattle.sj_documents.specs.Step.{count}
use Rattle.sj_documents.proofs.Edits.{count_items, count_members}
use Rattle.sj_documents.proofs.part.RefValuePart.count.Goals as goal

pub returns-in-Array : goal.returns-in-Array
returns-in-Array g c =
    let text = g.K.ObjectKey.text in
    let literal = g.D.Literal.literal in
    let counts : c.len.result ≡ length c.in-Array.items.items = omega arith in
    ap (λ n. Ok (integer (pos n))) (counts ∙ sym (count_items text literal c.in-Array.items.items))
    ∙ sym (ap count (ap (value_tree text literal) c.in-Array.is ∙ tree-Array text literal c.in-Array.items))

pub returns-in-Object : goal.returns-in-Object
returns-in-Object g c =
    let text = g.K.ObjectKey.text in
    let literal = g.D.Literal.literal in
    ap (λ n. Ok (integer (pos n))) (c.len-in-Object.ensures.len ∙ sym (count_members text literal c.in-Object.members))
    ∙ sym (ap count (ap (value_tree text literal) c.in-Object.is ∙ tree-Object text literal c.in-Object.members))
