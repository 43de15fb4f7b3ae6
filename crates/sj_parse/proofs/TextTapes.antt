-- The nodes that the descent makes of a text are a tape of its tree.
use Rattle.std.proofs.Common.{◌≡◌, ◌≢◌, ℕ, ◌≤◌, false, true, List, [], length, Option, None, Result, Ok, Err, sym, ap, subst, ◌∙◌}
use Rattle.std.specs.Prelude.{OnOk, is_err}
use Rattle.std.proofs.lemmas.Bool.{le-ltb}
use Rattle.sj_base.specs.declared.error.Error.{Error}
use Rattle.sj_parse.specs.declared.descent_fault.DescentKind.TheVariants.{InternalError}
use Rattle.sj_base.specs.Tree.{Tree, null, boolean, integer, decimal, string, list, object}
use Rattle.sj_base.specs.Spelling.{longest, Document}
use Rattle.sj_base.proofs.Trees.{IsValidTree-from_SpellsValue}
use Rattle.sj_scan.specs.Scan.{scan_fault}
use Rattle.sj_tape.specs.Listing.{listing}
use Rattle.sj_tape.specs.Listed.{IsPreorder}
use Rattle.sj_tape.specs.Nodes.{entries}
use Rattle.sj_tape.specs.declared.node.Node.{Node}
use Rattle.sj_parse.specs.Token.{tokens}
use Rattle.sj_parse.specs.Descent.{Left, left, left_kind, nothing_left, descent}
use Rattle.sj_parse.specs.Fault.{fault_behind, stop_fault, fault}
use Rattle.sj_parse.specs.Nodes.{HaveCarriers}
use Rattle.sj_parse.specs.Answers.{IsTapeOf, Answers}
use Rattle.sj_parse.specs.inside.Trees.{Reading, tree_value}
use Rattle.sj_parse.proofs.Forget.{forget, forget-tree_value}
use Rattle.sj_parse.proofs.Documents.{document-of_tree_value}

-- Behind the tests on the whole text the fault is that of the descent.
pub fault-descent : (bytes : List ℕ) (limit : ℕ) → length bytes ≤ longest → scan_fault bytes ≡ None → fault bytes limit ≡ stop_fault bytes (descent (tokens bytes) limit)
fault-descent bytes limit short scanned = rw (le-ltb longest (length bytes) short) (ap (fault_behind bytes limit) scanned)

same_tree : (p q : Tree × Left) (r : Reading Tree) → r ≡ Ok p → r ≡ Ok q → p.0 ≡ q.0
same_tree p q r a b = let e : p ≡ q = cc in ap (λ (x : Tree × Left). x.0) e

-- a text whose descent reads a tree has no fault, and the tree's listing is its tape
pub tape-of_tree_value : (bytes : List ℕ) (limit : ℕ) (nodes : List Node) → length bytes ≤ longest → scan_fault bytes ≡ None
    → (t : Tree) (last : ℕ) → tree_value limit InternalError 0 (tokens bytes) ≡ Ok (t, left last []) → entries nodes ≡ listing t → HaveCarriers (tokens bytes) nodes
    → (fault bytes limit ≡ None) × IsTapeOf bytes limit nodes
tape-of_tree_value bytes limit nodes short scanned t last read listed carriers =
    let descends : descent (tokens bytes) limit ≡ None = ap (nothing_left (left_kind (tokens bytes))) (forget-tree_value limit InternalError 0 (tokens bytes) ∙ ap (λ r. forget r) read) in
    let none = fault-descent bytes limit short scanned ∙ ap (stop_fault bytes) descends in
    let d = document-of_tree_value bytes limit none in
    let same : t ≡ d.0 = same_tree (t, left last []) (d.0, left d.2.0 []) (tree_value limit InternalError 0 (tokens bytes)) read d.2.1 in
    (none, (t, subst (λ (u : Tree). Document bytes limit u) (sym same) d.1, listed, carriers))

-- The nodes of a text are the preorder of a valid tree.
pub IsPreorder-Answers : (bytes : List ℕ) (limit : ℕ) (found : Option Error) (nodes : List Node) (r : Result Unit Error) → is_err r ≡ false → Answers (λ _. nodes) bytes limit found r → IsPreorder (entries nodes)
IsPreorder-Answers bytes limit found nodes (Ok done) ok h = let d = h.1.1 in (h.1.0, IsValidTree-from_SpellsValue h.1.0 d.spells.inner d.spells.holds, h.1.2)
IsPreorder-Answers bytes limit found nodes (Err e) ok h = absurd cc

listing_some : (t : Tree) → listing t ≢ []
listing_some null e = absurd cc
listing_some (boolean b) e = absurd cc
listing_some (integer n) e = absurd cc
listing_some (decimal d) e = absurd cc
listing_some (string text) e = absurd cc
listing_some (list ts) e = absurd cc
listing_some (object ms) e = absurd cc

-- they are not none
pub not_empty-Answers : (bytes : List ℕ) (limit : ℕ) (found : Option Error) (nodes : List Node) (r : Result Unit Error) → Answers (λ _. nodes) bytes limit found r → OnOk r (nodes ≢ [])
not_empty-Answers bytes limit found nodes (Ok done) h = λ none. listing_some h.1.0 (sym h.1.2 ∙ ap entries none)
not_empty-Answers bytes limit found nodes (Err e) h = tt

pub on_ok-err : (P : Type 0) (r : Result Unit Error) → is_err r ≡ true → OnOk r P
on_ok-err P (Ok done) is = absurd cc
on_ok-err P (Err e) is = tt
