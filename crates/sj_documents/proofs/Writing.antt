-- What a write of a document leaves, by what its edit leaves.
use Rattle.std.proofs.Common.{◌≡◌, ℕ, List, [], ◌++◌, Option, Some, None, option_map, Result, Ok, Err, Bor, refl, sym, ap, subst, ◌∙◌}
use Rattle.std.specs.Prelude.{is_err}
use Rattle.std.specs.Option.{option_copied}
use Rattle.sj_base.specs.Path.{Part}
use Rattle.sj_base.specs.Text.{text}
use Rattle.sj_base.specs.Tree.{Tree, string}
use Rattle.sj_documents.specs.Inverse.{Change, found_of}
use Rattle.sj_documents.specs.Inverses.{change_view, HandsOut, Settles}
use Rattle.sj_scripts.specs.Script.{path_view}
use Rattle.sj_documents.specs.Step.{Word, from_start, reply_of, pushing, write_at, settled}
use Rattle.sj_scripts.specs.Values.{owned_tree}
use Rattle.sj_documents.specs.declared.edit.Write.{Write}
use Rattle.sj_documents.specs.declared.edit.Write.TheVariants.{Insert, Remove, Push, Pop, Set}
use Rattle.sj_documents.specs.declared.inverse.Inverse.{Inverse}
use Rattle.sj_documents.specs.declared.inverse.Undo.{Undo}
use Rattle.sj_documents.specs.declared.inverse.Undo.TheVariants.{Possible, Impossible}
use Rattle.sj_documents.specs.inside.Documents.{rewrite_of, back_of}
use Rattle.sj_documents.proofs.Changes.{pushed, write_done}

-- what takes a write back shows what the write found
shown_again : (write : Write) (o : Option Tree) (t : Tree) (path : List Part) (u : Tree) → write_at t path (rewrite_of write) ≡ Ok (reply_of o, u) → reply_of (found_of (back_of write o)) ≡ reply_of o
shown_again (Insert k v fits) None t path u e = refl
shown_again (Insert k v fits) (Some x) t path u e = refl
shown_again (Remove k place) None t path u e = refl
shown_again (Remove k place) (Some x) t path u e = refl
shown_again (Push v fits) o t path u e =
    let d = write_done t path (pushing fits (owned_tree v.now)) (reply_of o, u) e in
    let p = pushed fits (owned_tree v.now) d.0 d.2 d.3 in
    ap (λ (w : Tree × Tree). w.0) p.3 ∙ ap (λ (w : Tree × Tree). w.0) d.4
shown_again Pop None t path u e = refl
shown_again Pop (Some x) t path u e = refl
shown_again (Set v fits) None t path u e = refl
shown_again (Set v fits) (Some x) t path u e = refl

after_write : (t u : Tree) (r : Result (Tree × Tree) Word) (reply : Tree) → r ≡ Ok (reply, u) → u ≡ (settled t [] r).1.tree
after_write t u r reply written = sym (ap (λ w. (settled t [] w).1.tree) written)

hands_nothing : (how : Undo) (path : List Part) (r : Result (Tree × Tree) Word) (word : Word) (inversion : Option Tree → Change) → r ≡ Err word → HandsOut how None path r inversion
hands_nothing Possible path r word inversion is = ap is_err is
hands_nothing Impossible path r word inversion is = refl

module _ (E : Type 0) (how : Undo) (old new : List ℕ) (t u : Tree) (path : List Part) (write : Write) where
  abbrev Leaves : Undo → Option Inverse → Type 0
  Leaves h inverse = Settles {E = E} h (Ok inverse) old new from_start t u path (rewrite_of write) (back_of write)

  module _ (o : Option Tree) (written : write_at t path (rewrite_of write) ≡ Ok (reply_of o, u)) where
    -- the reply was appended
    pub write_made : (inverse : Inverse) → how ≡ Possible → path_view inverse.path.items ≡ path → change_view inverse.change ≡ back_of write o → new ≡ old ++ text (reply_of (found_of (change_view inverse.change))) → Leaves how (Some inverse)
    write_made inverse possible same is appended = subst (λ (h : Undo). Leaves h (Some inverse)) (sym possible) (
      appended ∙ ap (λ c. old ++ text (reply_of (found_of c))) is ∙ ap (λ r. old ++ text r) (shown_again write o t path u written) ∙ sym (ap (λ w. old ++ text (settled t [] w).0) written),
      after_write t u (write_at t path (rewrite_of write)) (reply_of o) written,
      (same, (o, u, written, is)),
    )

    -- and nothing takes the write back
    pub write_forgotten : how ≡ Impossible → new ≡ old ++ text (reply_of o) → Leaves how None
    write_forgotten impossible appended = subst (λ (h : Undo). Leaves h None) (sym impossible) (
      appended ∙ sym (ap (λ w. old ++ text (settled t [] w).0) written),
      after_write t u (write_at t path (rewrite_of write)) (reply_of o) written,
      refl,
    )

  -- the word of a refusal was appended
  pub write_refused : (word : Word) → write_at t path (rewrite_of write) ≡ Err word → u ≡ t → new ≡ old ++ text (string word) → Leaves how None
  write_refused word written same appended = (
    appended ∙ sym (ap (λ w. old ++ text (settled t [] w).0) written),
    same ∙ sym (ap (λ w. (settled t [] w).1.tree) written),
    hands_nothing how path (write_at t path (rewrite_of write)) word (back_of write) written,
  )

-- the tree of what a reference lends
pub copied_tree : {V : Type 0} (tree : V → Tree) (o : Option (Bor V)) → option_map (λ (d : Bor V). tree d.now) o ≡ option_map tree (option_copied o)
copied_tree tree None = refl
copied_tree tree (Some d) = refl
