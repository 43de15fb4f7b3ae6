-- Commands on a document whose writes can be taken back.
use Rattle.std.proofs.Common.{◌≡◌, ℕ, Bool, true, false, List, [], ◌∷◌, ◌++◌, Option, Some, None, Result, Ok, Err, refl, sym, ap, subst, ◌∙◌, inl, inr}
use Rattle.std.specs.Prelude.{◌⊎◌, ◌||◌, ◌&&◌, if◌then◌else◌, not, map, reverse, is_some, option_map, option_and_then, IsErr}
use Rattle.std.specs.Option.{unwrap_or}
use Rattle.std.specs.List.{AllByRecursion, list_all, list_any}
use Rattle.std.proofs.lemmas.Bool.{and_parts}
use Rattle.std.proofs.lemmas.List.{reverse-append}
use Rattle.std.proofs.lemmas.Option.{none-some, same_Some}
use Rattle.sj_base.specs.Keep.{keep, IsKept}
use Rattle.sj_base.specs.Output.{AppendsOrLeaves}
use Rattle.sj_base.specs.Path.{Part, at}
use Rattle.sj_base.specs.Text.{text, pretty}
use Rattle.sj_base.specs.Tree.{Tree, boolean}
use Rattle.sj_base.proofs.Keeping.{keeps_once}
use Rattle.sj_scripts.specs.Command.{Step, get, contains, type_of, len, keys, insert, remove, push, pop, set_at, undo, reload, reload_pp}
use Rattle.sj_documents.specs.Inverse.{Change, drop_item, place_in, place_at, back, insertion_back, removal_back, popping_back, setting_back}
use Rattle.sj_documents.specs.Inverses.{change_view, HandsOut, TakesBack}
use Rattle.sj_scripts.specs.Script.{path_view, command_view}
use Rattle.sj_documents.specs.Step.{Job, Keeping, begun, from_start, from_write, State, Word, Rewrite, start, base, fits, fits_below, reply_of, contains_reply, type_reply, len_reply, keys_reply, reload_reply, write_at, settled, undone}
use Rattle.std.specs.declared.alloc.AllocError.{AllocError}
use Rattle.sj_scripts.specs.Values.{owned_tree}
use Rattle.sj_documents.specs.declared.inverse.Inverse.{Inverse}
use Rattle.sj_documents.specs.declared.inverse.Undo.{Undo}
use Rattle.sj_documents.specs.declared.inverse.Undo.TheVariants.{Possible, Impossible}
use Rattle.sj_scripts.specs.declared.script.Command.{Command}
use Rattle.sj_scripts.specs.declared.script.Command.TheVariants.{Get, Contains, TypeOf, Len, Keys, Insert, Remove, Push, Pop, SetAt, Undo as UndoNewest, Reload, ReloadPp}
use Rattle.sj_documents.proofs.Changes.{same_ok}
use Rattle.sj_documents.proofs.KeptChanges.{StaysKept, settled_kept, insertion_kept, removal_kept, pushing_kept, popping_kept, setting_kept}
use Rattle.sj_scripts.proofs.KeptTrees.{kept-found}
use Rattle.sj_documents.proofs.MadeChanges.{same_found}
use Rattle.sj_records.specs.History.{added, WriteLeaves, UndoLeaves, inverse_view, bases_from, bases, BringsBack, StandFor, is_undo, may_run, undo_for}
use Rattle.sj_records.specs.Laws.{Undoes, WritesKept, HistoriesStand}
use Rattle.sj_records.proofs.Inverses.{insert_undone, remove_undone, push_undone, pop_undone, set_undone}

-- ---- what a write leaves

-- The state n comes after a write on the base b, behind these bases: a refused one leaves b and adds no base. Any other adds b,
-- and is taken back by the inverse, if b repeats no key. Where it isn't to be taken back, there is no inverse.
abbrev IsWritten : Undo → Option Inverse → Tree → List Tree → State → Type 0
IsWritten Possible None b bases n = n ≡ record { tree = b; bases = bases }
IsWritten Possible (Some inverse) b bases n =
    let i = inverse_view inverse in
    (n.bases ≡ b ∷ bases) × (IsKept b → (back i.0 i.1 n.tree ≡ Some b) × IsKept n.tree)
IsWritten Impossible inverse b bases n =
    (inverse ≡ None) × ((n ≡ record { tree = b; bases = bases }) ⊎ ((n.bases ≡ b ∷ bases) × (IsKept b → IsKept n.tree)))

module _ (b : Tree) (path : List Part) (change : Rewrite) (inverse_of : Tree → Option Tree → Change) (takes_back : Undoes path change inverse_of) (fine : StaysKept change)
    (handed : Option Tree → Change) (agree : (part : Tree) (found : Option Tree) → at b path ≡ Some part → handed found ≡ inverse_of part found) where
  undone_write : (inverse : Inverse) (w : Tree × Tree) → write_at b path change ≡ Ok w → HandsOut Possible (Some inverse) path (Ok w) handed → IsKept b
      → (back (path_view inverse.path.items) (change_view inverse.change) w.1 ≡ Some b) × IsKept w.1
  undone_write inverse w written hands kept =
      let law = takes_back b w.0 w.1 kept written in
      let found = hands.1.0 in
      let shown : reply_of found ≡ reply_of law.1 = sym (ap (λ (p : Tree × Tree). p.0) (same_ok w _ _ _ refl refl hands.1.2)) ∙ law.3 in
      let same : change_view inverse.change ≡ inverse_of law.0 law.1 = hands.1.3 ∙ ap handed (same_found found law.1 shown) ∙ agree law.0 law.1 law.2 in (
        ap (λ p. back p (change_view inverse.change) w.1) hands.0 ∙ ap (λ c. back path c w.1) same ∙ law.4,
        (settled_kept b [] path change (Ok w) written fine kept tt).0,
      )

  written_state : (how : Undo) (inverse : Option Inverse) (bases : List Tree) (r : Result (Tree × Tree) Word) → write_at b path change ≡ r → HandsOut how inverse path r handed → IsWritten how inverse b bases (settled b bases r).1
  written_state Possible None bases (Err word) written hands = refl
  written_state Possible None bases (Ok w) written hands = absurd cc
  written_state Possible (Some inverse) bases (Err word) written hands = let wrong = hands.1.2 in absurd cc
  written_state Possible (Some inverse) bases (Ok w) written hands = (refl, λ kept. undone_write inverse w written hands kept)
  written_state Impossible inverse bases (Err word) written hands = (hands, inl refl)
  written_state Impossible inverse bases (Ok w) written hands = (hands, inr (refl, λ kept. (settled_kept b [] path change (Ok w) written fine kept tt).0))

same_reply : (b : Tree) (bases : List Tree) (r : Result (Tree × Tree) Word) → (settled b [] r).0 ≡ (settled b bases r).0
same_reply b bases (Ok w) = refl
same_reply b bases (Err word) = refl

same_tree : (b : Tree) (bases : List Tree) (r : Result (Tree × Tree) Word) → (settled b [] r).1.tree ≡ (settled b bases r).1.tree
same_tree b bases (Ok w) = refl
same_tree b bases (Err word) = refl

-- ---- histories

newest_first : (history : List Inverse) (inverse : Inverse) → reverse (map inverse_view (history ++ inverse ∷ [])) ≡ inverse_view inverse ∷ reverse (map inverse_view history)
newest_first history inverse = ap reverse (map_last history) ∙ reverse-append (map inverse_view history) (inverse_view inverse ∷ [])
  where
    map_last : (is : List Inverse) → map inverse_view (is ++ inverse ∷ []) ≡ map inverse_view is ++ inverse_view inverse ∷ []
    map_last [] = refl
    map_last (i ∷ is) = ap (λ js. inverse_view i ∷ js) (map_last is)

-- the tree that a write is made on
base_is : (keeping : Keeping) (t : Tree) → start t keeping ≡ t → base t keeping ≡ keep t
base_is from_start t kept = sym kept
base_is from_write t kept = refl

starts : (keeping : Keeping) (t : Tree) → IsKept t → start t keeping ≡ t
starts from_start t kept = kept
starts from_write t kept = refl

base_starts : (keeping : Keeping) (t : Tree) → start t keeping ≡ t → start (base t keeping) keeping ≡ base t keeping
base_starts from_start t kept = kept
base_starts from_write t kept = refl

brings_base : (how : Undo) (history : List Inverse) (t b : Tree) (bs : List Tree) → keep b ≡ keep t → BringsBack how history t bs → BringsBack how history b bs
brings_base Possible history t b bs same brings = ap (λ v. bases_from (reverse (map inverse_view history)) v) same ∙ brings
brings_base Impossible history t b bs same brings = tt

module _ (how : Undo) (keeping : Keeping) (t u : Tree) (history : List Inverse) (s : State) (stand : StandFor how keeping t history s) where
  abbrev b : Tree
  b = base t keeping

  b_kept : IsKept b
  b_kept = subst IsKept (sym (base_is keeping t stand.1)) (keeps_once t)

  -- after a write that was refused
  stands_refused : (n : State) → u ≡ n.tree → n ≡ record { tree = b; bases = s.bases } → StandFor how keeping u history n
  stands_refused n is written =
      let same : b ≡ u = sym (ap (λ (m : State). m.tree) written) ∙ sym is in
      let all : StandFor how keeping b history (record { tree = b; bases = s.bases }) =
      (refl, base_starts keeping t stand.1, stand.2, brings_base how history t b s.bases (b_kept ∙ base_is keeping t stand.1) stand.3) in
      subst (λ (v : Tree). StandFor how keeping v history n) same (subst (λ (m : State). StandFor how keeping b history m) (sym written) all)

module _ (keeping : Keeping) (t u : Tree) (history : List Inverse) (s : State) where
  -- after one that wasn't
  stands_written : (inverse : Inverse) (n : State) → StandFor Possible keeping t history s → u ≡ n.tree → IsWritten Possible (Some inverse) (base t keeping) s.bases n → StandFor Possible keeping u (history ++ inverse ∷ []) n
  stands_written inverse n stand is written =
      let b = base t keeping in
      let kept : IsKept b = b_kept Possible keeping t u history s stand in
      let taken = written.1 kept in
      let u_kept : IsKept u = subst IsKept (sym is) taken.1 in
      let i = inverse_view inverse in
      let rest : bases_from (reverse (map inverse_view history)) b ≡ Some s.bases = ap (λ v. bases_from (reverse (map inverse_view history)) v) (base_is keeping t stand.1) ∙ stand.3 in
      let first : back i.0 i.1 (keep u) ≡ Some b = ap (λ v. back i.0 i.1 v) (u_kept ∙ is) ∙ taken.0 in
      let all : bases (history ++ inverse ∷ []) u ≡ Some n.bases =
      ap (λ is. bases_from is (keep u)) (newest_first history inverse)
      ∙ ap (λ o. option_and_then (λ c. option_map (λ cs. c ∷ cs) (bases_from (reverse (map inverse_view history)) c)) o) first
      ∙ ap (option_map (λ cs. b ∷ cs)) rest
      ∙ ap (λ cs. Some cs) (sym written.0) in
      (sym is, starts keeping u u_kept, subst (λ (cs : List Tree). AllByRecursion IsKept cs) (sym written.0) (kept, stand.2), all)

  -- after one that isn't to be taken back
  stands_forgotten : (n : State) → StandFor Impossible keeping t history s → u ≡ n.tree → n.bases ≡ base t keeping ∷ s.bases → (IsKept (base t keeping) → IsKept n.tree) → StandFor Impossible keeping u history n
  stands_forgotten n stand is added kept =
      let first : IsKept (base t keeping) = b_kept Impossible keeping t u history s stand in
      (sym is, starts keeping u (subst IsKept (sym is) (kept first)), subst (λ (cs : List Tree). AllByRecursion IsKept cs) (sym added) (first, stand.2), tt)

  stands_after : (how : Undo) (inverse : Option Inverse) (n : State) → StandFor how keeping t history s → u ≡ n.tree → IsWritten how inverse (base t keeping) s.bases n → StandFor how keeping u (added history inverse) n
  stands_after Possible None n stand is written = stands_refused Possible keeping t u history s stand n is written
  stands_after Possible (Some inverse) n stand is written = stands_written inverse n stand is written
  stands_after Impossible inverse n stand is written =
      subst (λ o. StandFor Impossible keeping u (added history o) n) (sym written.0) (elim written.1 [
        | inl same ↦ stands_refused Impossible keeping t u history s stand n is same
        | inr more ↦ stands_forgotten n stand is more.0 more.1
      ])

-- ---- taking back

-- nothing is left to take back
stands_undone_none : (keeping : Keeping) (t : Tree) (s : State) → StandFor Possible keeping t [] s → ((undone s.tree s.bases).0 ≡ boolean false) × StandFor Possible keeping t [] (undone s.tree s.bases).1
stands_undone_none keeping t s stand =
    let none : [] ≡ s.bases = same_Some [] s.bases stand.3 in (
      ap (λ bs. (undone s.tree bs).0) (sym none),
      subst (λ (bs : List Tree). StandFor Possible keeping t [] (undone s.tree bs).1) none (stand.0, stand.1, tt, refl),
    )

-- the bases of a history with a newest inverse
opened : {A B : Type 0} (o : Option A) (f : A → Option B) (y : B) → option_and_then f o ≡ Some y → (x : A) × (o ≡ Some x) × (f x ≡ Some y)
opened None f y e = absurd (none-some y e)
opened (Some x) f y e = (x, refl, e)

mapped : {A B : Type 0} (o : Option A) (f : A → B) (y : B) → option_map f o ≡ Some y → (x : A) × (o ≡ Some x) × (f x ≡ y)
mapped None f y e = absurd (none-some y e)
mapped (Some x) f y e = (x, refl, same_Some (f x) y e)

module _ (keeping : Keeping) (t u : Tree) (history : List Inverse) (inverse : Inverse) (s : State) (stand : StandFor Possible keeping t (history ++ inverse ∷ []) s) where
  stands_undone : (E : Type 0) (is_made : Bool) → TakesBack {E = E} (Ok is_made) keeping t u (path_view inverse.path.items) (change_view inverse.change)
      → ((undone s.tree s.bases).0 ≡ boolean is_made) × StandFor Possible keeping u history (undone s.tree s.bases).1
  stands_undone E is_made takes =
      let i = inverse_view inverse in
      let rest = reverse (map inverse_view history) in
      let all = sym (ap (λ is. bases_from is (keep t)) (newest_first history inverse)) ∙ stand.3 in
      let first = opened (back i.0 i.1 (keep t)) _ s.bases all in
      let c = first.0 in
      let behind = mapped (bases_from rest c) _ s.bases first.2 in
      let on_base : back i.0 i.1 (base t keeping) ≡ Some c = ap (λ v. back i.0 i.1 v) (base_is keeping t stand.1) ∙ first.1 in
      let yes : true ≡ is_made = sym (takes.0 ∙ ap is_some on_base) in
      let is : u ≡ c = takes.1 ∙ ap (λ o. unwrap_or o (base t keeping)) on_base in
      let both = subst (λ (cs : List Tree). AllByRecursion IsKept cs) (sym behind.2) stand.2 in
      let stands : StandFor Possible keeping c history (record { tree = c; bases = behind.0 }) = (refl, starts keeping c both.0, both.1, ap (bases_from rest) both.0 ∙ behind.1) in (
        ap (λ bs. (undone s.tree bs).0) (sym behind.2) ∙ ap boolean yes,
        subst (λ (bs : List Tree). StandFor Possible keeping u history (undone s.tree bs).1) behind.2 (subst (λ (v : Tree). StandFor Possible keeping v history (record { tree = c; bases = behind.0 })) (sym is) stands),
      )

-- ---- each command

module _ (how : Undo) (keeping : Keeping) (t u : Tree) (history next : List Inverse) (old new : List ℕ) (s : State) (stand : StandFor how keeping t history s) where
  -- the document and the history are as they were
  same_stand : u ≡ t → next ≡ history → StandFor how keeping u next s
  same_stand is same = subst (λ (h : List Inverse). StandFor how keeping u h s) (sym same) (subst (λ (v : Tree). StandFor how keeping v history s) (sym is) stand)

  read_stands : (reply : Tree → Tree) → (new ≡ old ++ text (reply t)) × (u ≡ t) × (next ≡ history) → (new ≡ old ++ text (reply s.tree)) × StandFor how keeping u next s
  read_stands reply leaves = (leaves.0 ∙ ap (λ v. old ++ text (reply v)) (sym stand.0), same_stand leaves.1 leaves.2)

  module _ (path : List Part) (change : Rewrite) (inverse_of : Tree → Option Tree → Change) (takes_back : Undoes path change inverse_of) (fine : StaysKept change) (handed : Option Tree → Change)
      (agree : (part : Tree) (found : Option Tree) → at (base t keeping) path ≡ Some part → handed found ≡ inverse_of part found) where
    abbrev Leaves : Tree → Type 0
    Leaves v = let n = settled (base v keeping) s.bases (write_at (base v keeping) path change) in (new ≡ old ++ text n.0) × StandFor how keeping u next n.1

    write_stands : WriteLeaves {E = AllocError} how (Ok tt) keeping t u history next old new path change handed → Leaves s.tree
    write_stands leaves =
        let inverse = leaves.0 in
        let settles = leaves.1 in
        let b = base t keeping in
        let r = write_at b path change in
        let written = written_state b path change inverse_of takes_back fine handed agree how inverse s.bases r refl settles.2 in
        let is : u ≡ (settled b s.bases r).1.tree = settles.1 ∙ same_tree b s.bases r in
        let stands = stands_after keeping t u history s how inverse (settled b s.bases r).1 stand is written in
        subst Leaves (sym stand.0) (settles.0 ∙ ap (λ reply. old ++ text reply) (same_reply b s.bases r), subst (λ (h : List Inverse). StandFor how keeping u h (settled b s.bases r).1) (sym leaves.2) stands)

module _ (keeping : Keeping) (t u : Tree) (history next : List Inverse) (old new : List ℕ) (s : State) (stand : StandFor Possible keeping t history s) where
  undo_stands : UndoLeaves {E = AllocError} (Ok tt) keeping t u history next old new → (new ≡ old ++ text (undone s.tree s.bases).0) × StandFor Possible keeping u next (undone s.tree s.bases).1
  undo_stands (inl leaves) =
      let none = stands_undone_none keeping t s (subst (λ (h : List Inverse). StandFor Possible keeping t h s) leaves.0 stand) in (
        leaves.3 ∙ ap (λ reply. old ++ text reply) (sym none.0),
        subst (λ (h : List Inverse). StandFor Possible keeping u h (undone s.tree s.bases).1) (sym leaves.1) (subst (λ (v : Tree). StandFor Possible keeping v [] (undone s.tree s.bases).1) (sym leaves.2) none.1),
      )
  undo_stands (inr leaves) =
      let inverse = leaves.0 in
      let is_made = leaves.1 in
      let done = stands_undone keeping t u next inverse s (subst (λ (h : List Inverse). StandFor Possible keeping t h s) leaves.2 stand) AllocError is_made leaves.3 in
      (leaves.4 ∙ ap (λ reply. old ++ text reply) (sym done.0), done.1)

pub histories_stand : HistoriesStand
histories_stand how keeping limit t u history next old new (get path) s kept may leaves stand = read_stands how keeping t u history next old new s stand (λ v. reply_of (at v path)) leaves
histories_stand how keeping limit t u history next old new (contains path k) s kept may leaves stand = read_stands how keeping t u history next old new s stand (λ v. contains_reply v path k) leaves
histories_stand how keeping limit t u history next old new (type_of path) s kept may leaves stand = read_stands how keeping t u history next old new s stand (λ v. type_reply v path) leaves
histories_stand how keeping limit t u history next old new (len path) s kept may leaves stand = read_stands how keeping t u history next old new s stand (λ v. len_reply v path) leaves
histories_stand how keeping limit t u history next old new (keys path) s kept may leaves stand = read_stands how keeping t u history next old new s stand (λ v. keys_reply v path) leaves
histories_stand how keeping limit t u history next old new (insert path k v) s kept may leaves stand =
    write_stands how keeping t u history next old new s stand path _ _ (insert_undone path k v (fits_below path v limit)) (insertion_kept (fits_below path v limit) k v kept) (insertion_back k) (λ part found e. refl) leaves
histories_stand how keeping limit t u history next old new (remove path k) s kept may leaves stand =
    write_stands how keeping t u history next old new s stand path _ _ (remove_undone path k) (removal_kept k) (removal_back (place_at (base t keeping) path k) k)
    (λ part found e. ap (λ o. removal_back (unwrap_or (option_map (λ p. place_in p k) o) 0) k found) e) leaves
histories_stand how keeping limit t u history next old new (push path v) s kept may leaves stand =
    write_stands how keeping t u history next old new s stand path _ _ (push_undone path v (fits_below path v limit)) (pushing_kept (fits_below path v limit) v kept) (λ found. drop_item) (λ part found e. refl) leaves
histories_stand how keeping limit t u history next old new (pop path) s kept may leaves stand =
    write_stands how keeping t u history next old new s stand path _ _ (pop_undone path) popping_kept popping_back (λ part found e. refl) leaves
histories_stand how keeping limit t u history next old new (set_at path v) s kept may leaves stand =
    write_stands how keeping t u history next old new s stand path _ _ (set_undone path v (fits path v limit)) (setting_kept (fits path v limit) v kept) setting_back (λ part found e. refl) leaves
histories_stand Possible keeping limit t u history next old new undo s kept may leaves stand = undo_stands keeping t u history next old new s stand leaves
histories_stand Impossible keeping limit t u history next old new undo s kept may leaves stand = absurd cc
histories_stand how keeping limit t u history next old new reload s kept may leaves stand = read_stands how keeping t u history next old new s stand (λ v. reload_reply (text v)) leaves
histories_stand how keeping limit t u history next old new reload_pp s kept may leaves stand = read_stands how keeping t u history next old new s stand (λ v. reload_reply (pretty v)) leaves

-- the value of a command repeats no key
pub writes_kept : (c : Command) → WritesKept (command_view c)
writes_kept (Insert path k v) = kept-found (owned_tree v.value) v.repeats_no_key
writes_kept (Push path v) = kept-found (owned_tree v.value) v.repeats_no_key
writes_kept (SetAt path v) = kept-found (owned_tree v.value) v.repeats_no_key
writes_kept (Get path) = tt
writes_kept (Contains path k) = tt
writes_kept (TypeOf path) = tt
writes_kept (Len path) = tt
writes_kept (Keys path) = tt
writes_kept (Remove path k) = tt
writes_kept (Pop path) = tt
writes_kept UndoNewest = tt
writes_kept Reload = tt
writes_kept ReloadPp = tt

-- ---- `undo`

module _ {E : Type 0} (keeping : Keeping) (t u : Tree) (history next : List Inverse) (old new : List ℕ) (inverse : Inverse) (is : history ≡ next ++ inverse ∷ []) where
  pub undo_done : (r : Result Unit E) (is_made : Bool) → TakesBack {E = E} (Ok is_made) keeping t u (path_view inverse.path.items) (change_view inverse.change) → AppendsOrLeaves r old new (text (boolean is_made))
      → UndoLeaves r keeping t u history next old new
  undo_done (Ok done) is_made takes appended = inr (inverse, is_made, is, takes, appended)
  undo_done (Err e) is_made takes appended = (appended, inr (inverse, next, is, inr (inr takes.1)))

  pub undo_refused : (r : Result Unit E) → IsErr r → (e : E) → TakesBack (Err e) keeping t u (path_view inverse.path.items) (change_view inverse.change) → UndoLeaves r keeping t u history next old old
  undo_refused (Ok done) failed e takes = absurd cc
  undo_refused (Err f) failed e takes = (refl, inr (inverse, next, is, takes))

pub undo_none : {E : Type 0} (keeping : Keeping) (t : Tree) (history next : List Inverse) (old new : List ℕ) → history ≡ [] → next ≡ [] → (r : Result Unit E) → AppendsOrLeaves r old new (text (boolean false))
    → UndoLeaves r keeping t t history next old new
undo_none keeping t history next old new none left (Ok done) appended = inl (none, left, refl, appended)
undo_none keeping t history next old new none left (Err e) appended = (appended, inl refl)

-- ---- a line's first state

started : (keeping : Keeping) (t : Tree) → start (start t keeping) keeping ≡ start t keeping
started from_start t = keeps_once t
started from_write t = refl

brings_nothing : (how : Undo) (t : Tree) → BringsBack how [] t []
brings_nothing Possible t = refl
brings_nothing Impossible t = tt

pub begun_stands : (how : Undo) (job : Job) (t : Tree) (history : List Inverse) → history ≡ [] → StandFor how job.keeping (start t job.keeping) history (begun job t)
begun_stands how job t history none =
    subst (λ (h : List Inverse). StandFor how job.keeping (start t job.keeping) h (begun job t)) (sym none) (refl, started job.keeping t, tt, brings_nothing how (start t job.keeping))

-- ---- commands that may take a write back

-- those behind others
pub allowed_behind : (how : Undo) (cs before behind : List Step) → cs ≡ before ++ behind → list_all (may_run how) cs ≡ true → list_all (may_run how) behind ≡ true
allowed_behind how cs before behind is all = rest before (subst (λ (ds : List Step). list_all (may_run how) ds ≡ true) is all)
  where
    rest : (ds : List Step) → list_all (may_run how) (ds ++ behind) ≡ true → list_all (may_run how) behind ≡ true
    rest [] h = h
    rest (d ∷ ds) h = rest ds (and_parts (may_run how d) (list_all (may_run how) (ds ++ behind)) h).1

-- a command among others
pub allowed_at : (how : Undo) (cs before behind : List Step) (c : Step) → cs ≡ before ++ c ∷ behind → list_all (may_run how) cs ≡ true → may_run how c ≡ true
allowed_at how cs before behind c is all = (and_parts (may_run how c) (list_all (may_run how) behind) (allowed_behind how cs before (c ∷ behind) is all)).0

all_allowed : (cs : List Step) → list_all (may_run Possible) cs ≡ true
all_allowed [] = refl
all_allowed (c ∷ cs) = all_allowed cs

none_is_undo : (cs : List Step) → list_any is_undo cs ≡ false → list_all (may_run Impossible) cs ≡ true
none_is_undo [] none = refl
none_is_undo (c ∷ cs) none = at (is_undo c) none (none_is_undo cs)
  where
    at : (b : Bool) → (b || list_any is_undo cs) ≡ false → (list_any is_undo cs ≡ false → list_all (may_run Impossible) cs ≡ true)
        → (not b && list_all (may_run Impossible) cs) ≡ true
    at false none rest = rest none
    at true none rest = absurd cc

pub needed_allows : (cs : List Step) → list_all (may_run (undo_for cs)) cs ≡ true
needed_allows cs = by_case (list_any is_undo cs) refl
  where
    by_case : (b : Bool) → list_any is_undo cs ≡ b → list_all (may_run (if b then Possible else Impossible)) cs ≡ true
    by_case true some = all_allowed cs
    by_case false none = none_is_undo cs none
