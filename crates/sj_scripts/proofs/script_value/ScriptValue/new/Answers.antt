use Rattle.std.proofs.Common.{rules}
use Rattle.sj_scripts.specs.Values.{owned_tree}
use Rattle.sj_scripts.proofs.KeptTrees.{kept-told}
use Rattle.sj_scripts.proofs.script_value.ScriptValue.new.Goals as goal

pub invariant_of-result-clause-repeats_no_key : goal.invariant_of-result-clause-repeats_no_key
invariant_of-result-clause-repeats_no_key c = kept-told (owned_tree c.args.value) c.in_ok-levels.ensures.kept

pub invariant_of-result-clause-counts_levels : goal.invariant_of-result-clause-counts_levels
invariant_of-result-clause-counts_levels c = search rules
