use Rattle.std.specs.Prelude.{nat_lt}
use Rattle.sj_parse.proofs.LanePlaces.{places-above, top-cond}
use Rattle.sj_parse.proofs.search.above.Goals as goal

pub returns : goal.returns
returns c = places-above _ (λ a b. top-cond (nat_lt a b)) c.args.byte c.args.block c.fits-block.0
