use Rattle.std.proofs.Common.{◌≡◌, ◌++◌, ◌≤◌, ◌-◌, false, take, drop, length}
use Rattle.sj_parse.specs.inside.Step.{string_body}
use Rattle.sj_parse.proofs.Bodies.{body_from}
use Rattle.sj_parse.proofs.scalars.body_len.Given as goal

abbrev pub invariant-loop-len : goal.invariant-loop-len
invariant-loop-len l = (l.len ≤ length l.bytes) × (string_body l.bytes ≡ take l.len l.bytes ++ body_from false (drop l.len l.bytes))

abbrev pub decreases-loop-len : goal.decreases-loop-len
decreases-loop-len l = length l.bytes - l.len
