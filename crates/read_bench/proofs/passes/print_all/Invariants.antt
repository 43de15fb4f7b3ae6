use Rattle.std.proofs.Common.{◌≡◌, ◌++◌, take}
use Rattle.std.specs.Prelude.{flat_map}
use Rattle.sj_base.specs.Buffer.{buffer_text}
use Rattle.read_bench.specs.Printed.{text_of}
use Rattle.read_bench.proofs.passes.print_all.Given as goal

abbrev pub invariant-loop-tape : goal.invariant-loop-tape
invariant-loop-tape l = buffer_text l.out ≡ buffer_text l.initial.out ++ flat_map text_of (take l.tape-index l.tapes)
