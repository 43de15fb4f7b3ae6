use Rattle.std.proofs.Common.{◌≡◌, ◌++◌, take, drop}
use Rattle.sj_parse.specs.Token.{word}
use Rattle.sj_parse.proofs.search.word_len.Given as goal

abbrev pub invariant-loop-place : goal.invariant-loop-place
invariant-loop-place l = word l.bytes ≡ take l.place l.bytes ++ word (drop l.place l.bytes)
