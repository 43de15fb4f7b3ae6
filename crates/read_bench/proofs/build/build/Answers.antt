use Rattle.std.proofs.Common.{refl, sym, ap, option_map}
use Rattle.sj_base.specs.Keep.{keep}
use Rattle.read_bench.proofs.Texts.{tree-empty}
use Rattle.read_bench.proofs.build.build.Goals as goal

pub returns-then-is_empty : goal.returns-then-is_empty
returns-then-is_empty g c = sym (ap (option_map keep) (tree-empty c.args.tape.now (c.if-is_empty.ensures.0 refl)))
