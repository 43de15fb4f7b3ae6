use Rattle.std.proofs.Common.{◌+◌, ◌++◌, ap, drop, ◌∙◌}
use Rattle.sj_scripts.specs.Script.{path_view}
use Rattle.sj_documents.proofs.Paths.{part_copied, path_copied}
use Rattle.sj_documents.proofs.path.copy_path.Goals as goal

pub loop-part-preserved : goal.loop-part-preserved
loop-part-preserved c =
    let i = c.loop-part.part-index in
    ap (λ ps. path_view ps ++ path_view (drop (i + 1) c.args.path.now)) c.in_ok-push.ensures.items
    ∙ part_copied c.args.path.now c.loop-part.copy.items i c.part-item.result c.in_ok-copy_part.field-0 c.loop-part-test.true c.part-item.is c.in_ok-copy_part.ensures c.loop-part.invariant

pub returns : goal.returns
returns c =
    path_copied c.args.path.now c.loop-part.copy.items c.loop-part.part-index c.loop-part-test.false c.loop-part.invariant
