use Rattle.sj_base.specs.declared.TheConstants.{DEFAULT_MAX_DEPTH}
use Rattle.sj_tape.specs.Views.{tape_nodes}
use Rattle.sj_build.proofs.Reading.{answers_kept}
use Rattle.sj_build.proofs.read.deserialize.Goals as goal

pub returns-clause-answers : goal.returns-clause-answers
returns-clause-answers g c =
    answers_kept g.V.BuildValue.tree c.args.s.now DEFAULT_MAX_DEPTH (tape_nodes c.in_ok-tape.tape) c.build_document.result c.in_ok-tape.ensures.answers.1 c.build_document.ensures.document c.build_document.ensures.err
