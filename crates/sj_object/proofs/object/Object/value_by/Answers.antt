use Rattle.std.proofs.Common.{Some, get_or, length, sym, ap, ◌∙◌, arith}
use Rattle.sj_object.proofs.Places.{place_within, value_at_place, value_at_no_place}
use Rattle.sj_object.proofs.object.Object.value_by.Goals as goal

pub returns-in_err-at : goal.returns-in_err-at
returns-in_err-at g c = rw c.from_residual.ensures (sym (value_at_no_place g.K.ObjectKey.text c.args.key.now c.args.self.now (sym c.in_err-at.ensures)))

pub index-requires : goal.index-requires
index-requires g c =
    omega (arith, place_within g.K.ObjectKey.text c.args.key.now c.args.self.now c.in_ok-at.at (sym c.in_ok-at.ensures), ap length c.entries.ensures, c.entries.result.now.ok.0)

pub returns : goal.returns
returns g c =
    let is = c.index.ensures ∙ ap (λ l. get_or l c.in_ok-at.at c.index.result.now) c.entries.ensures in
    ap (λ e. Some e.value) is
    ∙ sym (value_at_place g.K.ObjectKey.text c.args.key.now c.index.result.now c.args.self.now c.in_ok-at.at (sym c.in_ok-at.ensures))
