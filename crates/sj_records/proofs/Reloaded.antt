-- A reload changes nothing.
use Rattle.std.proofs.Common.{◌≡◌, ℕ, List, [], ◌∷◌, ◌++◌, Some, None, refl, sym, ap, ap₂, ◌∙◌, inl, inr}
use Rattle.sj_base.specs.Tree.{Tree, Items, item}
use Rattle.sj_base.specs.Text.{text, pretty}
use Rattle.sj_scripts.specs.Command.{Step, reload, reload_pp}
use Rattle.sj_documents.specs.Step.{Job, State, begun, reload_reply, step, replies, after}
use Rattle.sj_records.specs.Record.{record_of, outcome, repeat_record, refused_repeat, unless_refused, tree_record}
use Rattle.sj_tape.specs.Repeats.{Repetition}
use Rattle.sj_records.specs.Laws.{with_script, items_then, ChangesNothing}
use Rattle.sj_records.proofs.RecordText.{same_step, after_join}

replies_join : (job : Job) (s : State) (cs ds : List Step) → replies job s (cs ++ ds) ≡ items_then (replies job s cs) (replies job (after job s cs) ds)
replies_join job s [] ds = refl
replies_join job s (c ∷ cs) ds = ap (item (step job s c).0) (replies_join job (step job s c).1 cs ds)

pub same_replies : (job : Job) (script : List Step) (s : State) (cs : List Step) → replies (with_script job script) s cs ≡ replies job s cs
same_replies job script s [] = refl
same_replies job script s (c ∷ cs) =
    ap (λ (p : Tree × State). item p.0 (replies (with_script job script) p.1 cs)) (same_step job script s c) ∙ ap (item (step job s c).0) (same_replies job script (step job s c).1 cs)

pub same_after : (job : Job) (script : List Step) (s : State) (cs : List Step) → after (with_script job script) s cs ≡ after job s cs
same_after job script s [] = refl
same_after job script s (c ∷ cs) =
    ap (λ (p : Tree × State). after (with_script job script) p.1 cs) (same_step job script s c) ∙ same_after job script (step job s c).1 cs

-- the record of a tree that isn't refused, and of one that is
pub taken : (job : Job) (t : Tree) → refused_repeat job.repeats t ≡ None → tree_record job t ≡ outcome job t
taken job t none = ap (λ o. unless_refused o repeat_record (outcome job t)) none

turned_down : (job : Job) (t : Tree) (r : Repetition) → refused_repeat job.repeats t ≡ Some r → tree_record job t ≡ repeat_record r
turned_down job t r is = ap (λ o. unless_refused o repeat_record (outcome job t)) is

-- the record of two scripts, one behind the other
pub joined : (job : Job) (t : Tree) (cs ds : List Step) → let s = after job (begun job t) cs in
    outcome (with_script job (cs ++ ds)) t ≡ record_of (items_then (replies job (begun job t) cs) (replies job s ds)) (after job s ds).tree
joined job t cs ds =
    ap₂ (λ (rs : Items) (s : State). record_of rs s.tree)
    (same_replies job (cs ++ ds) (begun job t) (cs ++ ds) ∙ replies_join job (begun job t) cs ds)
    (same_after job (cs ++ ds) (begun job t) (cs ++ ds) ∙ after_join job (begun job t) cs ds)

-- c takes nothing from the state
changes_nothing : (c : Step) (print : Tree → List ℕ) → ((job : Job) (s : State) → step job s c ≡ (reload_reply (print s.tree), s)) → ChangesNothing c print
changes_nothing c print stays job line before behind = (
  λ t document none.
      let s = after job (begun job t) before in
      let first = replies job (begun job t) before in
      let with_reload = joined job t before (c ∷ behind)
      ∙ ap (λ (p : Tree × State). record_of (items_then first (item p.0 (replies job p.1 behind))) (after job p.1 behind).tree) (stays job s) in
      let plain = with_script job (before ++ behind) in
      let reloading = with_script job (before ++ c ∷ behind) in
      (inl (t, document, ap text (sym (taken plain t none ∙ joined job t before behind))), inl (t, document, ap text (sym (taken reloading t none ∙ with_reload)))),
  λ t r document is.
      let plain = with_script job (before ++ behind) in
      let reloading = with_script job (before ++ c ∷ behind) in
      (inl (t, document, ap text (sym (turned_down plain t r is))), inl (t, document, ap text (sym (turned_down reloading t r is)))),
  λ e first. (inr (e, first, refl), inr (e, first, refl)),
)

pub reload_changes_nothing : ChangesNothing reload text
reload_changes_nothing = changes_nothing reload text (λ job s. refl)

pub reload_pp_changes_nothing : ChangesNothing reload_pp pretty
reload_pp_changes_nothing = changes_nothing reload_pp pretty (λ job s. refl)
