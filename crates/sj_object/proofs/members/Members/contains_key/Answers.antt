use Rattle.std.proofs.Common.{is_some, ap, ◌∙◌}
use Rattle.sj_object.specs.Members.{member_pairs}
use Rattle.sj_object.proofs.Places.{has_place}
use Rattle.sj_object.proofs.members.Members.contains_key.Goals as goal

pub returns : goal.returns
returns g c = c.is_some.ensures ∙ ap is_some c.place.ensures ∙ has_place g.K.ObjectKey.text c.args.key.now (member_pairs c.args.self.now)
