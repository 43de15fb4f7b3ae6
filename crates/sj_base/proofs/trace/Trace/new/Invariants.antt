use Rattle.std.proofs.Common.{[]}
use Rattle.sj_base.proofs.trace.Trace.new.Given as goal

abbrev pub ghost-named : goal.ghost-named
ghost-named a = []
