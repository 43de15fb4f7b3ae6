use Rattle.sj_tape.proofs.Children.{items_by_place}
use Rattle.sj_tape.proofs.laws.items_by_place.Goals as goal

pub returns : goal.returns
returns c = items_by_place
