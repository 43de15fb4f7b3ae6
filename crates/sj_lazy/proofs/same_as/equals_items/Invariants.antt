use Rattle.std.proofs.Common.{◌↔◌, drop, map}
use Rattle.std.specs.List.{AllZip}
use Rattle.sj_base.specs.Containers.{item_trees}
use Rattle.sj_lazy.specs.Parts.{array_items, items_left}
use Rattle.sj_lazy.specs.Views.{contents_tree}
use Rattle.sj_lazy.proofs.same_as.equals_items.Given as goal

abbrev pub invariant-loop-value : goal.invariant-loop-value
invariant-loop-value g l =
    AllZip g.U.Comparand.equals (drop l.value-index l.values) (map contents_tree (items_left l.left))
    ↔ AllZip g.U.Comparand.equals l.values (item_trees (array_items l.fn.items))
