use Rattle.std.proofs.Common.{refl}
use Rattle.sj_tape.specs.Listing.{listing}
use Rattle.sj_tape.proofs.Listings.{tree_from}
use Rattle.sj_tape.proofs.laws.listing_back.Goals as goal

pub returns : goal.returns
returns c = λ t. tree_from (listing t) t refl
