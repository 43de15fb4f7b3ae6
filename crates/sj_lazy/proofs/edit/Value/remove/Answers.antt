use Rattle.std.specs.Cow.{cow_str_bytes}
use Rattle.sj_base.specs.Scalar.{decimal_cow_text}
use Rattle.sj_base.specs.declared.fault.AccessError.TheVariants.{NotAnObject}
use Rattle.sj_lazy.specs.Upgrade.{upgraded}
use Rattle.sj_lazy.proofs.Documents.{removed}
use Rattle.sj_lazy.proofs.Upgrades.{upgraded_tree}
use Rattle.sj_lazy.proofs.edit.Value.remove.Goals as goal

pub returns-clause-value : goal.returns-clause-value
returns-clause-value c =
    let d = c.in-Ok.document.now in
    removed cow_str_bytes decimal_cow_text d (upgraded c.args.self.now) c.args.key.now NotAnObject c.remove.result (upgraded_tree c.args.self.now d c.in-Ok.ensures.value) c.remove.ensures.value
