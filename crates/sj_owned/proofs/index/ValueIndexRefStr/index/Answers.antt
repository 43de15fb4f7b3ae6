use Rattle.std.proofs.Common.{ap, sym, ◌∙◌}
use Rattle.std.specs.Option.{option_copied}
use Rattle.sj_owned.proofs.index.ValueIndexRefStr.index.Goals as goal

pub returns : goal.returns
returns g c = sym c.get.ensures.value ∙ ap option_copied c.unwrap.ensures
