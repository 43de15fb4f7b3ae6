use Rattle.sj_base.proofs.trace.Trace.following.Given as goal

abbrev pub ghost-named : goal.ghost-named
ghost-named g a = g.list
