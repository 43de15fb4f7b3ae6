use Rattle.std.proofs.Common.{◌≡◌, ◌++◌, take, drop}
use Rattle.sj_base.specs.NumberTests.{front_digits, behind_digits}
use Rattle.sj_base.proofs.number.split_digits.Given as goal

-- All bytes before the place are digits.
abbrev pub invariant-loop-place : goal.invariant-loop-place
invariant-loop-place l =
    (front_digits l.bytes ≡ take l.place l.bytes ++ front_digits (drop l.place l.bytes)) × (behind_digits l.bytes ≡ behind_digits (drop l.place l.bytes))
