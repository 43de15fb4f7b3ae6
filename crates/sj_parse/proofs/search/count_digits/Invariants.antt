use Rattle.std.proofs.Common.{◌≡◌, ◌++◌, take, drop}
use Rattle.sj_base.specs.NumberTests.{front_digits}
use Rattle.sj_parse.proofs.search.count_digits.Given as goal

abbrev pub invariant-loop-place : goal.invariant-loop-place
invariant-loop-place l = front_digits l.bytes ≡ take l.place l.bytes ++ front_digits (drop l.place l.bytes)
