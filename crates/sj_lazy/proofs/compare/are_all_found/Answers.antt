use Rattle.std.proofs.Common.{sym, ◌∙◌, arith}
use Rattle.std.proofs.lemmas.Bool.{le-leb}
use Rattle.sj_tape.specs.Views.{object_members as tape_members}
use Rattle.sj_lazy.specs.Parts.{object_members}
use Rattle.sj_lazy.proofs.Alike.{front_found}
use Rattle.sj_lazy.proofs.compare.are_all_found.Goals as goal

pub returns-then-len-front : goal.returns-then-len-front
returns-then-len-front c =
    let few = c.if-len-front.true in
    le-leb c.len.result c.args.front few
    ∙ sym (front_found c.args.front (tape_members c.args.members.now) (object_members c.args.others.now) c.requires (omega (arith, few, c.len.ensures)))
