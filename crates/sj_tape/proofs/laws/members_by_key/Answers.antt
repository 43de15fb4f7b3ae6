use Rattle.sj_tape.proofs.Children.{members_by_key}
use Rattle.sj_tape.proofs.laws.members_by_key.Goals as goal

pub returns : goal.returns
returns c = members_by_key
