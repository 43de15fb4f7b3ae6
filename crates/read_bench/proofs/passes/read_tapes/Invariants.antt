use Rattle.std.proofs.Common.{◌≡◌, ◌+◌, length}
use Rattle.sj_base.specs.declared.TheConstants.{DEFAULT_MAX_DEPTH}
use Rattle.sj_parse.specs.Answers.{buffer_limit}
use Rattle.read_bench.specs.Refused.{tapes_refused}
use Rattle.read_bench.proofs.passes.read_tapes.Given as goal

abbrev pub invariant-loop-document : goal.invariant-loop-document
invariant-loop-document l = (l.refused + tapes_refused l.rest ≡ tapes_refused l.initial.rest) × (buffer_limit l.buffers ≡ DEFAULT_MAX_DEPTH)

abbrev pub decreases-loop-document : goal.decreases-loop-document
decreases-loop-document l = length l.rest
