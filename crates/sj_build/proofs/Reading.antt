-- The document of a text's tape is the one that a call answers.
use Rattle.std.proofs.Common.{◌≡◌, ℕ, List, inr, ap, ◌∙◌}
use Rattle.std.specs.Prelude.{Result, Ok, Err, IfOk, IfErr}
use Rattle.sj_base.specs.Tree.{Tree}
use Rattle.sj_base.specs.Keep.{keep}
use Rattle.sj_base.specs.declared.error.Error.{Error}
use Rattle.sj_base.specs.declared.error.ErrorType.TheVariants.{OutOfMemory}
use Rattle.sj_tape.specs.Nodes.{entries}
use Rattle.sj_tape.specs.Views.{nodes_tree}
use Rattle.sj_tape.specs.declared.node.Node.{Node}
use Rattle.sj_tape.proofs.Listings.{tree_from}
use Rattle.sj_parse.specs.Answers.{IsTapeOf}
use Rattle.sj_parse.specs.Fault.{generic}
use Rattle.sj_build.specs.Reading.{AnswersKept}

pub answers_kept : {X : Type 0} (tree : X → Tree) (bytes : List ℕ) (limit : ℕ) (tape : List Node) (r : Result X Error) → IsTapeOf bytes limit tape → IfOk r (λ x. tree x ≡ keep (nodes_tree tape)) → IfErr r (λ e. e ≡ generic OutOfMemory) → AnswersKept tree bytes limit r
answers_kept tree bytes limit tape (Ok x) of built refused = (of.0, of.1, built ∙ ap keep (tree_from (entries tape) of.0 of.2))
answers_kept tree bytes limit tape (Err e) of built refused = inr refused
