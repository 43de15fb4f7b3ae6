use Rattle.std.proofs.Common.{◌≡◌, sym, subst}
use Rattle.sj_base.specs.Tree.{string}
use Rattle.sj_lazy.specs.Contents.{Document, Value}
use Rattle.sj_lazy.specs.Upgrade.{OwnsSuch}
use Rattle.sj_lazy.specs.Views.{document_tree}
use Rattle.sj_lazy.specs.declared.held.Held.TheVariants.{Borrowed, Owned}
use Rattle.sj_lazy.specs.declared.value.TapeOrDocument.TheVariants as lazy
use Rattle.sj_lazy.proofs.from.Value.from_text.Goals as goal

-- What holds of a document holds of the one that the value was made of.
owns_such : (P : Document → Type 0) (v : Value) (d : Document) → OwnsSuch (λ e. e ≡ d) v → P d → OwnsSuch P v
owns_such P (lazy.Tape t) d is p = absurd is
owns_such P (lazy.Value (Borrowed e)) d is p = absurd is
owns_such P (lazy.Value (Owned e)) d is p = subst P (sym is) p

pub returns : goal.returns
returns c = owns_such (λ d. document_tree d ≡ string c.args.text.now) c.owned.result c.in_ok-from_text.field-0 c.owned.ensures c.in_ok-from_text.ensures
