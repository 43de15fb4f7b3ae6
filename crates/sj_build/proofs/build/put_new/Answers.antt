use Rattle.std.proofs.Common.{ap, ◌∙◌}
use Rattle.sj_object.specs.Members.{member_pairs}
use Rattle.sj_build.specs.Trees.{members_of, on_values}
use Rattle.sj_build.proofs.Members.{not_found, put_last, has_member}
use Rattle.sj_build.proofs.build.put_new.Goals as goal

pub push_reserved-requires-clause-new_key : goal.push_reserved-requires-clause-new_key
push_reserved-requires-clause-new_key g c =
    not_found g.K.ObjectKey.text g.V.BuildValue.tree (member_pairs c.args.members.now) (g.K.ObjectKey.text c.args.key) c.requires.new_key

pub returns-clause-added : goal.returns-clause-added
returns-clause-added g c =
    let text = g.K.ObjectKey.text in
    let tree = g.V.BuildValue.tree in
    let old = member_pairs c.args.members.now in
    ap (λ es. members_of text (on_values tree es)) c.push_reserved.ensures.pairs
    ∙ put_last text tree old c.args.key c.args.value (has_member text tree old (text c.args.key) ∙ c.requires.new_key)
