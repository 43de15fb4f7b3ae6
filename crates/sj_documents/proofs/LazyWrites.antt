-- Writes on documents in the form `Lazy`, by those on the documents that they are made of.
use Rattle.std.proofs.Common.{◌≡◌, ℕ, Bool, true, List, [], Option, Some, None, Result, Ok, Err, refl, sym, ap, subst, ◌∙◌, inl, inr}
use Rattle.std.specs.Option.{unwrap_or}
use Rattle.sj_base.specs.Keep.{keep, IsKept}
use Rattle.sj_base.specs.Path.{Part}
use Rattle.sj_base.specs.Tree.{Tree}
use Rattle.sj_lazy.specs.Contents.{Document, Value}
use Rattle.sj_lazy.specs.Upgrade.{Upgrades}
use Rattle.sj_lazy.specs.Views.{document_tree, lazy_tree}
use Rattle.sj_lazy.specs.declared.held.Held.TheVariants.{Borrowed, Owned}
use Rattle.sj_lazy.specs.declared.value.TapeOrDocument.TheVariants as lazy
use Rattle.sj_base.proofs.Keeping.{keeps_once}
use Rattle.sj_documents.specs.Inverse.{Change, back}
use Rattle.sj_documents.specs.Inverses.{Settles, TakesBack}
use Rattle.sj_documents.specs.declared.inverse.Inverse.{Inverse}
use Rattle.sj_documents.specs.declared.inverse.Undo.{Undo}
use Rattle.sj_documents.specs.Step.{Rewrite, from_start, from_write, write_at}
use Rattle.sj_documents.specs.inside.KeptChanges.{IsKeptChange}
use Rattle.sj_documents.specs.inside.LazyDocuments.{RepeatsNoKey}
use Rattle.sj_documents.proofs.KeptChanges.{StaysKept, settled_kept}
use Rattle.sj_scripts.proofs.KeptTrees.{kept-found, kept-told}
use Rattle.sj_scripts.specs.inside.KeptValues.{is_kept}
use Rattle.sj_documents.proofs.MadeChanges.{back_kept}

-- The document that a write is made on is what is kept of the value.
pub upgrade_keeps : (v : Value) (d : Document) → RepeatsNoKey v → Upgrades v d → document_tree d ≡ keep (lazy_tree v)
upgrade_keeps (lazy.Tape v) d r h = h
upgrade_keeps (lazy.Value (Borrowed e)) d r h = h.0 ∙ sym (kept-found (document_tree e.now) r)
upgrade_keeps (lazy.Value (Owned e)) d r h = ap document_tree h ∙ sym (kept-found (document_tree e) r)

made_kept : (v : Value) (d : Document) → RepeatsNoKey v → Upgrades v d → IsKept (document_tree d)
made_kept v d r h = subst IsKept (sym (upgrade_keeps v d r h)) (keeps_once (lazy_tree v))

module _ {E : Type 0} (how : Undo) (old new : List ℕ) (path : List Part) (change : Rewrite) (inversion : Tree → Option Tree → Change) where
  -- A write on a kept tree leaves a kept tree, also where memory is lacking.
  pub settles_kept : (r : Result (Option Inverse) E) (t u : Tree) → StaysKept change → IsKept t → Settles how r old new from_start t u path change (inversion t) → IsKept u
  settles_kept (Ok inverse) t u fine kept h = subst IsKept (sym h.1) (settled_kept t [] path change (write_at t path change) refl fine kept tt).0
  settles_kept (Err e) t u fine kept h = elim h.1 [
    | inl same ↦ subst IsKept (sym same) kept
    | inr rest ↦ elim rest [
      | inl same ↦ subst IsKept (sym same) kept
      | inr after ↦ subst IsKept (sym after) (settled_kept t [] path change (write_at t path change) refl fine kept tt).0
    ]
  ]

  -- What such a write on what is kept of a tree leaves is what the form `Lazy` leaves of that tree.
  pub settles_lazy : (r : Result (Option Inverse) E) (t d u : Tree) → d ≡ keep t → Settles how r old new from_start d u path change (inversion d) → Settles how r old new from_write t u path change (inversion (keep t))
  settles_lazy (Ok inverse) t d u is h = subst (λ x. Settles {E = E} how (Ok inverse) old new from_start x u path change (inversion x)) is h
  settles_lazy (Err e) t d u is h =
      let k = subst (λ x. Settles {E = E} how (Err e) old new from_start x u path change (inversion x)) is h in
      (k.0, elim k.1 [ inl same ↦ inr (inl same) | inr rest ↦ inr rest ])

  module _ (value : Value) (d e : Document) (r : Result (Option Inverse) E) (once : RepeatsNoKey value) (made : Upgrades value d) (wrote : Settles how r old new from_start (document_tree d) (document_tree e) path change (inversion (document_tree d))) where
    -- a value after a write on the document that was made of it
    pub settles_value : Settles how r old new from_write (lazy_tree value) (document_tree e) path change (inversion (keep (lazy_tree value)))
    settles_value = settles_lazy r (lazy_tree value) (document_tree d) (document_tree e) (upgrade_keeps value d once made) wrote

    pub settles_value_kept : StaysKept change → is_kept (document_tree e) ≡ true
    settles_value_kept fine = kept-told (document_tree e) (settles_kept r (document_tree d) (document_tree e) fine (made_kept value d once made) wrote)

undone_kept : (o : Option Tree) (t : Tree) → IsKept t → ((u : Tree) → o ≡ Some u → IsKept u) → IsKept (unwrap_or o t)
undone_kept None t kept good = kept
undone_kept (Some u) t kept good = good u refl

module _ {E : Type 0} (path : List Part) (change : Change) where
  -- Taking a write back on a kept tree leaves a kept tree.
  taken_kept : (r : Result Bool E) (t u : Tree) → IsKeptChange change → IsKept t → TakesBack r from_start t u path change → IsKept u
  taken_kept (Ok is_made) t u good kept h = subst IsKept (sym h.1) (undone_kept (back path change t) t kept (λ v e. back_kept t path change v good kept e))
  taken_kept (Err e) t u good kept h = elim h [
    | inl same ↦ subst IsKept (sym same) kept
    | inr rest ↦ elim rest [
      | inl same ↦ subst IsKept (sym same) kept
      | inr after ↦ subst IsKept (sym after) (undone_kept (back path change t) t kept (λ v e. back_kept t path change v good kept e))
    ]
  ]

  takes_lazy : (r : Result Bool E) (t d u : Tree) → d ≡ keep t → TakesBack r from_start d u path change → TakesBack r from_write t u path change
  takes_lazy (Ok is_made) t d u is h = subst (λ x. TakesBack {E = E} (Ok is_made) from_start x u path change) is h
  takes_lazy (Err e) t d u is h =
      let k = subst (λ x. TakesBack {E = E} (Err e) from_start x u path change) is h in
      elim k [ inl same ↦ inr (inl same) | inr rest ↦ inr rest ]

  module _ (value : Value) (d e : Document) (r : Result Bool E) (once : RepeatsNoKey value) (made : Upgrades value d) (took : TakesBack r from_start (document_tree d) (document_tree e) path change) where
    -- a value after a write on it was taken back
    pub takes_value : TakesBack r from_write (lazy_tree value) (document_tree e) path change
    takes_value = takes_lazy r (lazy_tree value) (document_tree d) (document_tree e) (upgrade_keeps value d once made) took

    pub takes_value_kept : IsKeptChange change → is_kept (document_tree e) ≡ true
    takes_value_kept good = kept-told (document_tree e) (taken_kept r (document_tree d) (document_tree e) good (made_kept value d once made) took)
