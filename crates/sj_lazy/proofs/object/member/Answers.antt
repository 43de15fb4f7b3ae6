use Rattle.std.specs.Cow.{cow_str_bytes}
use Rattle.sj_base.specs.Scalar.{decimal_cow_text}
use Rattle.sj_owned.proofs.Layers.{member_found}
use Rattle.sj_lazy.proofs.object.member.Goals as goal

pub returns-clause-tree : goal.returns-clause-tree
returns-clause-tree c = member_found cow_str_bytes decimal_cow_text c.args.members.now c.args.name.now c.get.result c.get.ensures
