use Rattle.std.proofs.Common.{rules}
use Rattle.std.specs.Cow.{cow_str_bytes}
use Rattle.sj_base.specs.Scalar.{decimal_cow_text}
use Rattle.sj_base.specs.declared.fault.AccessError.TheVariants.{NotAnArray}
use Rattle.sj_lazy.specs.Upgrade.{upgraded}
use Rattle.sj_lazy.proofs.Documents.{popped}
use Rattle.sj_lazy.proofs.Upgrades.{upgraded_tree}
use Rattle.sj_lazy.proofs.edit.Value.pop.Goals as goal

pub returns-clause-value : goal.returns-clause-value
returns-clause-value c =
    let d = c.in-Ok.document.now in
    popped cow_str_bytes decimal_cow_text d (upgraded c.args.self.now) NotAnArray c.pop.result (upgraded_tree c.args.self.now d c.in-Ok.ensures.value) c.pop.ensures.value

pub returns-clause-document : goal.returns-clause-document
returns-clause-document c = search rules
