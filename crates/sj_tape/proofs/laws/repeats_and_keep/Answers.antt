use Rattle.sj_tape.proofs.NoRepeats.{repeats_and_keep}
use Rattle.sj_tape.proofs.laws.repeats_and_keep.Goals as goal

pub returns : goal.returns
returns c = repeats_and_keep
