use Rattle.std.proofs.Common.{◌∙◌, ap, sym}
use Rattle.sj_owned.specs.Compare.{kept_alike}
use Rattle.sj_owned.specs.inside.Comparing.{kept_alike-partial}
use Rattle.sj_tape.specs.Views.{value_tree}
use Rattle.sj_lazy.specs.Views.{lazy_tree}
use Rattle.sj_lazy.proofs.compare.ValuePartialEq.eq.Goals as goal

pub returns-in-Tape-other : goal.returns-in-Tape-other
returns-in-Tape-other c =
    c.same_view-in-Tape-other.ensures
    ∙ kept_alike-partial.symm (value_tree c.in-Tape-other.view) (lazy_tree c.args.self.now)
    ∙ ap (λ v. kept_alike (lazy_tree c.args.self.now) (lazy_tree v)) (sym c.in-Tape-other.is)
