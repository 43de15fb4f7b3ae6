use Rattle.sj_tape.proofs.Listings.{one_listing}
use Rattle.sj_tape.proofs.laws.one_listing.Goals as goal

pub returns : goal.returns
returns c = one_listing
