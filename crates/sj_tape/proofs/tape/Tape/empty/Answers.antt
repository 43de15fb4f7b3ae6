use Rattle.std.proofs.Common.{inl, ◌∙◌}
use Rattle.sj_tape.proofs.tape.Tape.empty.Goals as goal

pub from_listing-requires : goal.from_listing-requires
from_listing-requires c = inl c.new.ensures.items

pub returns : goal.returns
returns c = c.from_listing.ensures.nodes ∙ c.new.ensures.items
