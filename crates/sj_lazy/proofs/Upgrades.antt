-- The tree of what an upgrade makes.
use Rattle.std.proofs.Common.{◌≡◌, ap}
use Rattle.sj_lazy.specs.Contents.{Document, Value}
use Rattle.sj_lazy.specs.Upgrade.{Upgrades, upgraded}
use Rattle.sj_lazy.specs.Views.{document_tree}
use Rattle.sj_lazy.specs.declared.held.Held.TheVariants.{Borrowed, Owned}
use Rattle.sj_lazy.specs.declared.value.TapeOrDocument.TheVariants as lazy

pub upgraded_tree : (v : Value) (d : Document) → Upgrades v d → document_tree d ≡ upgraded v
upgraded_tree (lazy.Tape v) d h = h
upgraded_tree (lazy.Value (Borrowed e)) d h = h.0
upgraded_tree (lazy.Value (Owned e)) d h = ap document_tree h
