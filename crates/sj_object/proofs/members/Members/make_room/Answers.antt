use Rattle.std.proofs.Common.{rules}
use Rattle.sj_object.proofs.members.Members.make_room.Goals as goal

pub returns-clause-room : goal.returns-clause-room
returns-clause-room g c = search rules
