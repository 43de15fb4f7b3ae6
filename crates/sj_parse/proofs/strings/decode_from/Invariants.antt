use Rattle.std.proofs.Common.{◌-◌, length}
use Rattle.sj_parse.proofs.Decoding.{Decoding}
use Rattle.sj_parse.proofs.strings.decode_from.Given as goal

abbrev pub invariant-loop-read : goal.invariant-loop-read
invariant-loop-read l = Decoding l.place l.read l.written l.initial.body l.body

abbrev pub decreases-loop-read : goal.decreases-loop-read
decreases-loop-read l = length l.initial.body - l.read
