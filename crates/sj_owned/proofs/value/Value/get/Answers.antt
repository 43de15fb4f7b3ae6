use Rattle.std.proofs.Common.{◌∙◌, ap, sym, rules}
use Rattle.sj_base.specs.Path.{key, child}
use Rattle.sj_owned.specs.Views.{value_tree}
use Rattle.sj_owned.specs.declared.value.Value.{the_lemmas}
use Rattle.sj_owned.proofs.Layers.{tree-Object, member_found}
use Rattle.sj_owned.proofs.value.Value.get.Goals as goal

pub returns-in-Object-clause-tree : goal.returns-in-Object-clause-tree
returns-in-Object-clause-tree g c =
    let text = g.K.ObjectKey.text in
    let literal = g.D.Literal.literal in
    let k = c.args.name.now in
    let whole = ap (value_tree text literal) c.in-Object.is ∙ tree-Object text literal c.in-Object.members in
    member_found text literal c.in-Object.members k c.get.result c.get.ensures ∙ sym (ap (λ t. child t (key k)) whole)

pub returns-in-Object-clause-value : goal.returns-in-Object-clause-value
returns-in-Object-clause-value g c = search (rules, the_lemmas)
