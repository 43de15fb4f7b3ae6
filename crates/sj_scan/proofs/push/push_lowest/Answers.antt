use Rattle.sj_scan.proofs.SetPlaces.{IsPrefix-lowest}
use Rattle.sj_scan.proofs.push.push_lowest.Goals as goal

pub returns-clause-front : goal.returns-clause-front
returns-clause-front c = λ wanted begins.
    rw c.push_reserved.ensures.items (IsPrefix-lowest wanted c.args.out.now.items c.args.base c.args.mask c.ranges.mask.fits begins)
