-- The text of a tape, with a document and without, and what a call that answers `Ok` has printed.
use Rattle.std.proofs.Common.{◌≡◌, ℕ, List, [], None, Some, Result, Ok, Err, refl}
use Rattle.std.specs.Prelude.{OnOk}
use Rattle.sj_base.specs.Output.{Prints}
use Rattle.sj_base.specs.Text.{text}
use Rattle.sj_base.specs.Tree.{Tree}
use Rattle.sj_tape.specs.Listed.{listed_tree}
use Rattle.sj_tape.specs.Views.{tape_nodes, tape_tree}
use Rattle.sj_tape.specs.declared.tape.Tape.{Tape}
use Rattle.read_bench.specs.Printed.{text_of}

pub tree-empty : (tape : Tape) → tape_nodes tape ≡ [] → tape_tree tape ≡ None
unfolding listed_tree
tree-empty tape e = rw e refl

pub text_of-empty : (tape : Tape) → tape_nodes tape ≡ [] → text_of tape ≡ []
unfolding text_of listed_tree
text_of-empty tape e = rw e refl

pub text_of-tree : (tape : Tape) (t : Tree) → tape_tree tape ≡ Some t → text_of tape ≡ text t
unfolding text_of
text_of-tree tape t e = rw e refl

pub on_ok : {S X E : Type 0} (A B : S → S → List ℕ → Type 0) (r : Result X E) (s t : S) (bytes : List ℕ) → Prints A B r s t bytes → OnOk r (A s t bytes)
on_ok A B (Ok x) s t bytes p = p
on_ok A B (Err e) s t bytes p = tt
