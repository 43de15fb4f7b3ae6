use Rattle.std.proofs.Common.{Bool, [], if◌then◌else◌, subst}
use Rattle.sj_base.specs.Text.{quoted}
use Rattle.sj_base.proofs.Prints.{prints_behind}
use Rattle.sj_base.proofs.put.print_string.Goals as goal

pub returns : goal.returns
returns g c =
    let nothing = subst (λ (done : Bool). g.O.Output.appends c.args.out.now c.put_plain.new.self (if done then quoted c.as_bytes.result.now else [])) c.if-branch.false c.in_ok-put_plain.ensures.ok in
    prints_behind g.met.O.Output.laws c.print_pieces.result _ _ _ [] (quoted c.args.text.now) nothing c.print_pieces.ensures
