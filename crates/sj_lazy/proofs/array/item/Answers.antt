use Rattle.std.proofs.Common.{◌∙◌, ap}
use Rattle.std.specs.Cow.{cow_str_bytes}
use Rattle.sj_base.specs.Scalar.{decimal_cow_text}
use Rattle.sj_owned.specs.Views.{items_view}
use Rattle.sj_base.specs.Path.{item_at}
use Rattle.sj_owned.proofs.Layers.{item_found}
use Rattle.sj_lazy.proofs.array.item.Goals as goal

pub returns-clause-tree : goal.returns-clause-tree
returns-clause-tree c =
    item_found cow_str_bytes decimal_cow_text c.deref.result.now c.args.index c.get.result c.get.ensures.lookup
    ∙ ap (λ vs. item_at (items_view cow_str_bytes decimal_cow_text vs) c.args.index) c.deref.ensures.value
