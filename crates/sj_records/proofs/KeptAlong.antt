-- Trees without repeated keys along an accepted script, and what does not hang on how repeated keys are kept.
use Rattle.std.proofs.Common.{◌≡◌, ℕ, zero, suc, Bool, true, false, List, [], ◌∷◌, take, Option, Some, None, refl, sym, ap, ap₂, subst, ◌∙◌, inl, inr}
use Rattle.std.specs.Prelude.{◌||◌}
use Rattle.std.specs.List.{AllByRecursion}
use Rattle.sj_base.specs.Tree.{Tree, item}
use Rattle.sj_base.specs.Keep.{IsKept}
use Rattle.sj_base.specs.Text.{text}
use Rattle.sj_base.proofs.Keeping.{keeps_once}
use Rattle.sj_scripts.specs.Command.{Step, get, contains, type_of, len, keys, insert, remove, push, pop, set_at, undo, reload, reload_pp}
use Rattle.sj_documents.specs.Step.{Job, Keeping, from_start, from_write, RepeatRule, runs_on_repeats, refuses_repeats, State, start, begun, base, fits, fits_below, insertion, removal, pushing, popping, setting, write_at, settled, undone, step, replies, after}
use Rattle.sj_tape.specs.Repeats.{Repetition, repeated}
use Rattle.sj_tape.proofs.NoRepeats.{repeats_and_keep}
use Rattle.sj_records.specs.Record.{record_of, outcome, repeat_record, refused_repeat, unless_refused, tree_record}
use Rattle.sj_records.specs.Laws.{is_write, has_dropped, state_at, job_with, NoneIsRepeated, BasesAreKept, TreesAreKept, FormsAgree, RefusingFormsAgree}
use Rattle.sj_documents.proofs.KeptChanges.{BothKept, settled_kept, insertion_kept, removal_kept, pushing_kept, popping_kept, setting_kept}
use Rattle.sj_records.proofs.Accepted.{Sound, accepted_sound}

-- what each write command makes of its base
abbrev write_of : ℕ → Tree → List Tree → Step → Tree × State → Tree × State
write_of limit t bases (insert path k v) s = settled t bases (write_at t path (insertion (fits_below path v limit) k v))
write_of limit t bases (remove path k) s = settled t bases (write_at t path (removal k))
write_of limit t bases (push path v) s = settled t bases (write_at t path (pushing (fits_below path v limit) v))
write_of limit t bases (pop path) s = settled t bases (write_at t path popping)
write_of limit t bases (set_at path v) s = settled t bases (write_at t path (setting (fits path v limit) v))
write_of limit t bases (get path) s = s
write_of limit t bases (contains path k) s = s
write_of limit t bases (type_of path) s = s
write_of limit t bases (len path) s = s
write_of limit t bases (keys path) s = s
write_of limit t bases undo s = s
write_of limit t bases reload s = s
write_of limit t bases reload_pp s = s

step-write : (job : Job) (s : State) (c : Step) → step job s c ≡ write_of job.limit (base s.tree job.keeping) s.bases c (step job s c)
step-write job s (insert path k v) = refl
step-write job s (remove path k) = refl
step-write job s (push path v) = refl
step-write job s (pop path) = refl
step-write job s (set_at path v) = refl
step-write job s (get path) = refl
step-write job s (contains path k) = refl
step-write job s (type_of path) = refl
step-write job s (len path) = refl
step-write job s (keys path) = refl
step-write job s undo = refl
step-write job s reload = refl
step-write job s reload_pp = refl

write_kept : (limit : ℕ) (t : Tree) (bases : List Tree) (c : Step) (s : Tree × State) → Sound c → IsKept t → AllByRecursion IsKept bases → (is_write c ≡ false → BothKept s.1) → BothKept (write_of limit t bases c s).1
write_kept limit t bases (insert path k v) s sound h hs read = settled_kept t bases path _ _ refl (insertion_kept (fits_below path v limit) k v sound.1.0) h hs
write_kept limit t bases (remove path k) s sound h hs read = settled_kept t bases path _ _ refl (removal_kept k) h hs
write_kept limit t bases (push path v) s sound h hs read = settled_kept t bases path _ _ refl (pushing_kept (fits_below path v limit) v sound.0) h hs
write_kept limit t bases (pop path) s sound h hs read = settled_kept t bases path _ _ refl popping_kept h hs
write_kept limit t bases (set_at path v) s sound h hs read = settled_kept t bases path _ _ refl (setting_kept (fits path v limit) v sound.0) h hs
write_kept limit t bases (get path) s sound h hs read = read refl
write_kept limit t bases (contains path k) s sound h hs read = read refl
write_kept limit t bases (type_of path) s sound h hs read = read refl
write_kept limit t bases (len path) s sound h hs read = read refl
write_kept limit t bases (keys path) s sound h hs read = read refl
write_kept limit t bases undo s sound h hs read = read refl
write_kept limit t bases reload s sound h hs read = read refl
write_kept limit t bases reload_pp s sound h hs read = read refl

undone_kept : (t : Tree) (bases : List Tree) → IsKept t → AllByRecursion IsKept bases → BothKept (undone t bases).1
undone_kept t [] h hs = (h, tt)
undone_kept t (b ∷ bs) h hs = hs

undone_bases : (t : Tree) (bases : List Tree) → AllByRecursion IsKept bases → AllByRecursion IsKept (undone t bases).1.bases
undone_bases t [] hs = tt
undone_bases t (b ∷ bs) hs = hs.1

-- what any other command leaves
other_kept : (job : Job) (s : State) (c : Step) → is_write c ≡ false → BothKept s → BothKept (step job s c).1
other_kept job s (get path) e h = h
other_kept job s (contains path k) e h = h
other_kept job s (type_of path) e h = h
other_kept job s (len path) e h = h
other_kept job s (keys path) e h = h
other_kept job s undo e h = undone_kept s.tree s.bases h.0 h.1
other_kept job s reload e h = h
other_kept job s reload_pp e h = h
other_kept job s (insert path k v) e h = absurd cc
other_kept job s (remove path k) e h = absurd cc
other_kept job s (push path v) e h = absurd cc
other_kept job s (pop path) e h = absurd cc
other_kept job s (set_at path v) e h = absurd cc

other_bases : (job : Job) (s : State) (c : Step) → is_write c ≡ false → AllByRecursion IsKept s.bases → AllByRecursion IsKept (step job s c).1.bases
other_bases job s (get path) e h = h
other_bases job s (contains path k) e h = h
other_bases job s (type_of path) e h = h
other_bases job s (len path) e h = h
other_bases job s (keys path) e h = h
other_bases job s undo e h = undone_bases s.tree s.bases h
other_bases job s reload e h = h
other_bases job s reload_pp e h = h
other_bases job s (insert path k v) e h = absurd cc
other_bases job s (remove path k) e h = absurd cc
other_bases job s (push path v) e h = absurd cc
other_bases job s (pop path) e h = absurd cc
other_bases job s (set_at path v) e h = absurd cc

base_kept : (t : Tree) (keeping : Keeping) → IsKept t → IsKept (base t keeping)
base_kept t from_start h = h
base_kept t from_write h = keeps_once t

-- from a kept tree on, all trees are kept
step_kept : (job : Job) (s : State) (c : Step) → Sound c → BothKept s → BothKept (step job s c).1
step_kept job s c sound h =
    subst (λ (p : Tree × State). BothKept p.1) (sym (step-write job s c))
    (write_kept job.limit (base s.tree job.keeping) s.bases c (step job s c) sound (base_kept s.tree job.keeping h.0) h.1 (λ e. other_kept job s c e h))

pub after_kept : (job : Job) (s : State) (cs : List Step) → AllByRecursion Sound cs → BothKept s → BothKept (after job s cs)
after_kept job s [] sound h = h
after_kept job s (c ∷ cs) sound h = after_kept job (step job s c).1 cs sound.1 (step_kept job s c sound.0 h)

-- ---- how repeated keys are kept makes no difference to a kept tree

same_base : (t : Tree) (a b : Keeping) → IsKept t → base t a ≡ base t b
same_base t from_start from_start h = refl
same_base t from_start from_write h = sym h
same_base t from_write from_start h = h
same_base t from_write from_write h = refl

same_start : (t : Tree) (a b : Keeping) → IsKept t → start t a ≡ start t b
same_start t from_start from_start h = refl
same_start t from_start from_write h = h
same_start t from_write from_start h = sym h
same_start t from_write from_write h = refl

start_kept : (t : Tree) (keeping : Keeping) → IsKept t → IsKept (start t keeping)
start_kept t from_start h = keeps_once t
start_kept t from_write h = h

module _ (script : List Step) (limit : ℕ) (rule : RepeatRule) (a b : Keeping) where
  same_step : (s : State) (c : Step) → IsKept s.tree → step (job_with script limit rule a) s c ≡ step (job_with script limit rule b) s c
  same_step s (get path) h = refl
  same_step s (contains path k) h = refl
  same_step s (type_of path) h = refl
  same_step s (len path) h = refl
  same_step s (keys path) h = refl
  same_step s undo h = refl
  same_step s reload h = refl
  same_step s reload_pp h = refl
  same_step s (insert path k v) h = ap (λ t. settled t s.bases (write_at t path (insertion (fits_below path v limit) k v))) (same_base s.tree a b h)
  same_step s (remove path k) h = ap (λ t. settled t s.bases (write_at t path (removal k))) (same_base s.tree a b h)
  same_step s (push path v) h = ap (λ t. settled t s.bases (write_at t path (pushing (fits_below path v limit) v))) (same_base s.tree a b h)
  same_step s (pop path) h = ap (λ t. settled t s.bases (write_at t path popping)) (same_base s.tree a b h)
  same_step s (set_at path v) h = ap (λ t. settled t s.bases (write_at t path (setting (fits path v limit) v))) (same_base s.tree a b h)

  same_replies : (s : State) (cs : List Step) → AllByRecursion Sound cs → BothKept s → replies (job_with script limit rule a) s cs ≡ replies (job_with script limit rule b) s cs
  same_replies s [] sound h = refl
  same_replies s (c ∷ cs) sound h =
      ap (λ (p : Tree × State). item p.0 (replies (job_with script limit rule a) p.1 cs)) (same_step s c h.0)
      ∙ ap (item (step (job_with script limit rule b) s c).0) (same_replies (step (job_with script limit rule b) s c).1 cs sound.1 (step_kept (job_with script limit rule b) s c sound.0 h))

  same_after : (s : State) (cs : List Step) → AllByRecursion Sound cs → BothKept s → after (job_with script limit rule a) s cs ≡ after (job_with script limit rule b) s cs
  same_after s [] sound h = refl
  same_after s (c ∷ cs) sound h =
      ap (λ (p : Tree × State). after (job_with script limit rule a) p.1 cs) (same_step s c h.0)
      ∙ same_after (step (job_with script limit rule b) s c).1 cs sound.1 (step_kept (job_with script limit rule b) s c sound.0 h)

  same_outcome : (t : Tree) → AllByRecursion Sound script → IsKept t → outcome (job_with script limit rule a) t ≡ outcome (job_with script limit rule b) t
  same_outcome t sound h =
      let s = begun (job_with script limit rule b) t in
      let first : begun (job_with script limit rule a) t ≡ s = ap (λ (u : Tree). record { tree = u; bases = [] }) (same_start t a b h) in
      let good : BothKept s = (start_kept t b h, tt) in
      ap (λ (s : State). record_of (replies (job_with script limit rule a) s script) (after (job_with script limit rule a) s script).tree) first
      ∙ ap₂ (λ rs (s : State). record_of rs s.tree) (same_replies s script sound good) (same_after s script sound good)

  same_record : (t : Tree) → AllByRecursion Sound script → IsKept t → tree_record (job_with script limit rule a) t ≡ tree_record (job_with script limit rule b) t
  same_record t sound h = ap (unless_refused (refused_repeat rule t) repeat_record) (same_outcome t sound h)

pub forms_agree : FormsAgree
forms_agree script limit rule a b line bytes accepted kept (inl (t, document, is)) =
    inl (t, document, is ∙ ap text (same_record script limit rule a b t (accepted_sound script accepted) (kept t document)))
forms_agree script limit rule a b line bytes accepted kept (inr faulty) = inr faulty

-- a tree that repeats no key, or is refused
same_refusing : (script : List Step) (limit : ℕ) (a b : Keeping) (t : Tree) (o : Option Repetition) → repeated t ≡ o → AllByRecursion Sound script
    → tree_record (job_with script limit refuses_repeats a) t ≡ tree_record (job_with script limit refuses_repeats b) t
same_refusing script limit a b t None none sound = same_record script limit refuses_repeats a b t sound ((repeats_and_keep t).0 none)
same_refusing script limit a b t (Some r) found sound =
    ap (λ o. unless_refused o repeat_record (outcome (job_with script limit refuses_repeats a) t)) found
    ∙ sym (ap (λ o. unless_refused o repeat_record (outcome (job_with script limit refuses_repeats b) t)) found)

pub refusing_forms_agree : RefusingFormsAgree
refusing_forms_agree script limit a b line bytes accepted (inl (t, document, is)) =
    inl (t, document, is ∙ ap text (same_refusing script limit a b t (repeated t) refl (accepted_sound script accepted)))
refusing_forms_agree script limit a b line bytes accepted (inr faulty) = inr faulty

-- ---- trees and bases along a script

take_sound : (n : ℕ) (cs : List Step) → AllByRecursion Sound cs → AllByRecursion Sound (take n cs)
take_sound zero cs h = tt
take_sound (suc n) [] h = tt
take_sound (suc n) (c ∷ cs) h = (h.0, take_sound n cs h.1)

-- from the first write command on
abbrev KeptOnce : Bool → State → Type 0
KeptOnce b s = (b ≡ true → IsKept s.tree) × AllByRecursion IsKept s.bases

write_keeps : (job : Job) (s : State) (c : Step) → Sound c → is_write c ≡ true → IsKept (base s.tree job.keeping) → AllByRecursion IsKept s.bases → BothKept (step job s c).1
write_keeps job s c sound writes h hs =
    subst (λ (p : Tree × State). BothKept p.1) (sym (step-write job s c)) (write_kept job.limit (base s.tree job.keeping) s.bases c (step job s c) sound h hs (λ e. let f = sym writes ∙ e in absurd cc))

once_step : (job : Job) (s : State) (c : Step) (cs : List Step) (b : Bool) → is_write c ≡ b → Sound c → AllByRecursion Sound cs → IsKept (base s.tree job.keeping) → AllByRecursion IsKept s.bases
    → ((u : State) → AllByRecursion IsKept u.bases → KeptOnce (has_dropped from_write cs) (after job u cs)) → KeptOnce (b || has_dropped from_write cs) (after job (step job s c).1 cs)
once_step job s c cs true writes sound sounds h hs rest =
    let kept = after_kept job (step job s c).1 cs sounds (write_keeps job s c sound writes h hs) in
    (λ e. kept.0, kept.1)
once_step job s c cs false other sound sounds h hs rest = rest (step job s c).1 (other_bases job s c other hs)

once : (limit : ℕ) (rule : RepeatRule) (script : List Step) (s : State) (cs : List Step) → AllByRecursion Sound cs → AllByRecursion IsKept s.bases
    → KeptOnce (has_dropped from_write cs) (after (job_with script limit rule from_write) s cs)
once limit rule script s [] sound hs = (λ e. absurd cc, hs)
once limit rule script s (c ∷ cs) sound hs =
    once_step (job_with script limit rule from_write) s c cs (is_write c) refl sound.0 sound.1 (keeps_once s.tree) hs
    (λ u kept. once limit rule script u cs sound.1 kept)

along : (script : List Step) (limit : ℕ) (rule : RepeatRule) (keeping : Keeping) (t : Tree) (n : ℕ) → AllByRecursion Sound script
    → KeptOnce (has_dropped keeping (take n script)) (after (job_with script limit rule keeping) (begun (job_with script limit rule keeping) t) (take n script))
along script limit rule from_start t n sound =
    let kept = after_kept (job_with script limit rule from_start) (begun (job_with script limit rule from_start) t) (take n script) (take_sound n script sound) (keeps_once t, tt) in
    (λ e. kept.0, kept.1)
along script limit rule from_write t n sound = once limit rule script (begun (job_with script limit rule from_write) t) (take n script) (take_sound n script sound) tt

pub bases_are_kept : BasesAreKept
bases_are_kept job t n accepted = (along job.script job.limit job.repeats job.keeping t n (accepted_sound job.script accepted)).1

pub trees_are_kept : TreesAreKept
trees_are_kept job t n accepted dropped = (along job.script job.limit job.repeats job.keeping t n (accepted_sound job.script accepted)).0 dropped

-- ---- where repeated keys are refused

still_taken : (rule : RepeatRule) (t u : Tree) → (IsKept t → IsKept u) → refused_repeat rule t ≡ None → refused_repeat rule u ≡ None
still_taken runs_on_repeats t u stays none = refl
still_taken refuses_repeats t u stays none = (repeats_and_keep u).1 (stays ((repeats_and_keep t).0 none))

-- What a script comes to on a tree that isn't refused isn't refused.
pub taken_after : (job : Job) (t : Tree) (cs : List Step) → AllByRecursion Sound cs → refused_repeat job.repeats t ≡ None → refused_repeat job.repeats (after job (begun job t) cs).tree ≡ None
taken_after job t cs sound none =
    still_taken job.repeats t (after job (begun job t) cs).tree (λ h. (after_kept job (begun job t) cs sound (start_kept t job.keeping h, tt)).0) none

all_unrepeated : (ts : List Tree) → AllByRecursion IsKept ts → AllByRecursion (λ u. repeated u ≡ None) ts
all_unrepeated [] h = tt
all_unrepeated (t ∷ ts) h = ((repeats_and_keep t).1 h.0, all_unrepeated ts h.1)

pub none_is_repeated : NoneIsRepeated
none_is_repeated job t n accepted refuses none =
    let kept = (repeats_and_keep t).0 (subst (λ (rule : RepeatRule). refused_repeat rule t ≡ None) refuses none) in
    let along = after_kept job (begun job t) (take n job.script) (take_sound n job.script (accepted_sound job.script accepted)) (start_kept t job.keeping kept, tt) in
    ((repeats_and_keep (state_at job t n).tree).1 along.0, all_unrepeated (state_at job t n).bases along.1)
