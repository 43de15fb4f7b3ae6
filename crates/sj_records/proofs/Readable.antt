-- What a script comes to on a line can be read again from its text, and begins as it was.
use Rattle.std.proofs.Common.{◌≡◌, ℕ, ◌≤◌, true, List, [], ◌∷◌, ◌++◌, length, None, refl, sym, ap, subst, ◌∙◌, inl, inr}
use Rattle.std.specs.Prelude.{IsUtf8}
use Rattle.std.specs.Str.{is_utf8}
use Rattle.std.specs.List.{AllByRecursion}
use Rattle.std.proofs.Math.Bool.{Bool-set}
use Rattle.std.proofs.Math.Logic.{∥∥₁_elim, ∥∥₁_map}
use Rattle.std.proofs.lemmas.Str.{IsUtf8-from_is_utf8, is_utf8-from_IsUtf8}
use Rattle.sj_base.specs.Keep.{IsKept}
use Rattle.sj_base.specs.Laws.{PrintsBack}
use Rattle.sj_base.specs.Spelling.{Spells, longest}
use Rattle.sj_base.specs.Text.{text, pretty}
use Rattle.sj_base.specs.Tree.{Tree, IsValidTree}
use Rattle.sj_base.proofs.Keeping.{keeps_once}
use Rattle.sj_base.proofs.Meanings.{same_tree}
use Rattle.sj_base.proofs.OneLine.{text_visible}
use Rattle.sj_parse.specs.Answers.{IsTapeOf}
use Rattle.sj_parse.specs.Fault.{fault}
use Rattle.sj_parse.specs.Laws.{PrintsNoFault}
use Rattle.sj_tape.specs.Nodes.{entries}
use Rattle.sj_tape.specs.Views.{nodes_tree}
use Rattle.sj_tape.specs.declared.node.Node.{Node}
use Rattle.sj_tape.proofs.Listings.{tree_from}
use Rattle.sj_tape.proofs.ValidTrees.{tree_found}
use Rattle.sj_scripts.specs.Command.{Step, get, contains, type_of, len, keys, insert, remove, push, pop, set_at, undo, reload, reload_pp}
use Rattle.sj_documents.specs.Step.{Job, Keeping, from_start, from_write, start, begun, after}
use Rattle.sj_scripts.specs.Script.{IsAccepted}
use Rattle.sj_scripts.specs.inside.KeptValues.{is_kept}
use Rattle.sj_documents.specs.declared.inverse.Inverse.{Inverse}
use Rattle.sj_records.specs.inside.Reloads.{IsReadable, IsPrinted, Reloads}
use Rattle.sj_documents.specs.declared.inverse.Undo.{Undo}
use Rattle.sj_records.proofs.Accepted.{Good, Sound, accepted_sound}
use Rattle.sj_records.proofs.Along.{after_within, start_within}
use Rattle.sj_records.proofs.KeptAlong.{after_kept}
use Rattle.sj_scripts.proofs.KeptTrees.{kept-found, kept-told}
use Rattle.sj_records.proofs.Shown.{after_valid, start_valid}

-- ---- what an accepted script writes, taken out of a truncation: each part is decidable

utf8_found : (bs : List ℕ) → ∥ IsUtf8 bs ∥₁ → IsUtf8 bs
utf8_found bs h = IsUtf8-from_is_utf8 bs (∥∥₁_elim h (Bool-set (is_utf8 bs) true) (is_utf8-from_IsUtf8 bs))

good_found : (t : Tree) → ∥ Good t ∥₁ → Good t
good_found t h = (kept-found t (∥∥₁_elim h (Bool-set (is_kept t) true) (λ p. kept-told t p.0)), tree_found t (∥∥₁_map h (λ p. p.1)))

step_found : (c : Step) → ∥ Sound c ∥₁ → Sound c
step_found (insert path k v) h = (utf8_found k (∥∥₁_map h (λ p. p.0)), good_found v (∥∥₁_map h (λ p. p.1)))
step_found (push path v) h = good_found v h
step_found (set_at path v) h = good_found v h
step_found (get path) h = tt
step_found (contains path k) h = tt
step_found (type_of path) h = tt
step_found (len path) h = tt
step_found (keys path) h = tt
step_found (remove path k) h = tt
step_found (pop path) h = tt
step_found undo h = tt
step_found reload h = tt
step_found reload_pp h = tt

all_found : (cs : List Step) → ∥ AllByRecursion Sound cs ∥₁ → AllByRecursion Sound cs
all_found [] h = tt
all_found (c ∷ cs) h = (step_found c (∥∥₁_map h (λ p. p.0)), all_found cs (∥∥₁_map h (λ p. p.1)))

script_found : (script : List Step) → ∥ IsAccepted script ∥₁ → AllByRecursion Sound script
script_found script h = all_found script (∥∥₁_map h (accepted_sound script))

-- ---- what the first commands of a script come to

front_sound : (script cs ds : List Step) → script ≡ cs ++ ds → AllByRecursion Sound script → AllByRecursion Sound cs
front_sound script [] ds is h = tt
front_sound script (c ∷ cs) ds is h = let sound = subst (λ (ls : List Step). AllByRecursion Sound ls) is h in (sound.0, front_sound (cs ++ ds) cs ds refl sound.1)

module _ (job : Job) (t : Tree) (ran : List Step) (sound : AllByRecursion Sound ran) where
  pub readable_after : IsReadable job.limit t → IsReadable job.limit (after job (begun job t) ran).tree
  readable_after h = (
    (after_valid text_visible job (begun job t) ran sound (start_valid text_visible t job.keeping h.0, tt)).0,
    (after_within job (begun job t) ran (start_within job.limit t job.keeping h.1, tt)).0,
  )

  kept_again : (k : Keeping) (u : Tree) → (k ≡ from_start → IsKept u) → start u k ≡ u
  kept_again from_start u h = h refl
  kept_again from_write u h = refl

  -- It begins with the tree that was printed.
  pub started_again : start (after job (begun job t) ran).tree job.keeping ≡ (after job (begun job t) ran).tree
  started_again =
      kept_again job.keeping (after job (begun job t) ran).tree (λ e. (after_kept job (begun job t) ran sound (subst (λ (k : Keeping). IsKept (start t k)) (sym e) (keeps_once t), tt)).0)

-- what stands before the next command of an accepted script, behind a reload
pub reached_again : (how : Undo) (job : Job) (t : Tree) (left : List Step) (history : List Inverse) (printed old new : List ℕ) (texts : List (List ℕ)) (r : Reloads how job (begun job t) job.script left true history printed old new texts) → ∥ IsAccepted job.script ∥₁ → IsReadable job.limit t
    → IsReadable job.limit (after job (begun job t) r.ran).tree × (start (after job (begun job t) r.ran).tree job.keeping ≡ (after job (begun job t) r.ran).tree)
reached_again how job t left history printed old new texts r accepted readable =
    let sound = front_sound job.script r.ran left r.parts (script_found job.script accepted) in
    (readable_after job t r.ran sound readable, started_again job t r.ran sound)

-- ---- a printed text

pub printed_spells : PrintsBack text → PrintsBack pretty → (t : Tree) (bytes : List ℕ) → IsValidTree t → IsPrinted t bytes → Spells bytes t
printed_spells compact indented t bytes valid (inl is, short) = subst (λ (bs : List ℕ). Spells bs t) (sym is) (compact t valid)
printed_spells compact indented t bytes valid (inr is, short) = subst (λ (bs : List ℕ). Spells bs t) (sym is) (indented t valid)

pub printed_faultless : PrintsNoFault text → PrintsNoFault pretty → (t : Tree) (limit : ℕ) (bytes : List ℕ) → IsReadable limit t → IsPrinted t bytes → fault bytes limit ≡ None
printed_faultless compact indented t limit bytes h (inl is, short) = ap (λ bs. fault bs limit) is ∙ compact t limit h.0 h.1 (subst (λ (bs : List ℕ). length bs ≤ longest) is short)
printed_faultless compact indented t limit bytes h (inr is, short) = ap (λ bs. fault bs limit) is ∙ indented t limit h.0 h.1 (subst (λ (bs : List ℕ). length bs ≤ longest) is short)

-- the tape of the text lists the tree
pub printed_document : (t : Tree) (limit : ℕ) (bytes : List ℕ) (nodes : List Node) → Spells bytes t → IsTapeOf bytes limit nodes → nodes_tree nodes ≡ t
printed_document t limit bytes nodes spells found = tree_from (entries nodes) found.0 found.2 ∙ same_tree bytes found.0 t found.1.spells spells
