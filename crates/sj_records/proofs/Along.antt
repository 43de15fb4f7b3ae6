-- What holds along a script: the depth limit.
use Rattle.std.proofs.Common.{◌≡◌, ℕ, ◌+◌, ◌≤◌, List, [], ◌∷◌, length, take, Result, Ok, Err, refl, ap, arith}
use Rattle.std.specs.List.{AllByRecursion}
use Rattle.std.proofs.lemmas.Bool.{leb-true}
use Rattle.sj_base.specs.Tree.{Tree, depth}
use Rattle.sj_base.specs.Path.{Part}
use Rattle.sj_base.proofs.Depths.{depth_when_kept, depth_of_part, depth_when_put, depth_with_member, depth_when_dropped, depth_when_pushed, depth_when_popped}
use Rattle.sj_scripts.specs.Command.{Step, get, contains, type_of, len, keys, insert, remove, push, pop, set_at, undo, reload, reload_pp}
use Rattle.sj_documents.specs.Step.{Job, Keeping, from_start, from_write, State, Word, Rewrite, start, begun, base, fits, fits_below, insertion, removal, pushing, popping, setting, write_at, settled, undone, rewritten, step, after}
use Rattle.sj_documents.proofs.Changes.{inserted, removed, pushed, popped, within, write_done}
use Rattle.sj_records.specs.Laws.{HoldsInState, DepthStays}

-- A new part stays within the limit where the old one did.
abbrev StaysWithin : ℕ → List Part → Rewrite → Type 0
StaysWithin limit path change = (part : Tree) (n : Tree × Tree) → change part ≡ Ok n → length path + depth part ≤ limit → length path + depth n.1 ≤ limit

insertion_within : (limit : ℕ) (path : List Part) (k : List ℕ) (v : Tree) → StaysWithin limit path (insertion (fits_below path v limit) k v)
insertion_within limit path k v part n e h =
    let i = inserted (fits_below path v limit) k v part n e in
    let low : length path + 1 + depth v ≤ limit = leb-true (length path + 1 + depth v) limit i.2 in
    let new = depth_with_member i.0 k v in
    let was = ap depth i.1 in
    let is = ap (λ (w : Tree × Tree). depth w.1) i.3 in
    omega arith

removal_within : (limit : ℕ) (path : List Part) (k : List ℕ) → StaysWithin limit path (removal k)
removal_within limit path k part n e h =
    let i = removed k part n e in
    let new = depth_when_dropped i.0 k in
    let was = ap depth i.1 in
    let is = ap (λ (w : Tree × Tree). depth w.1) i.2 in
    omega arith

pushing_within : (limit : ℕ) (path : List Part) (v : Tree) → StaysWithin limit path (pushing (fits_below path v limit) v)
pushing_within limit path v part n e h =
    let i = pushed (fits_below path v limit) v part n e in
    let low : length path + 1 + depth v ≤ limit = leb-true (length path + 1 + depth v) limit i.2 in
    let new = depth_when_pushed i.0 v in
    let was = ap depth i.1 in
    let is = ap (λ (w : Tree × Tree). depth w.1) i.3 in
    omega arith

popping_within : (limit : ℕ) (path : List Part) → StaysWithin limit path popping
popping_within limit path part n e h =
    let i = popped part n e in
    let new = depth_when_popped i.0 in
    let was = ap depth i.1 in
    let is = ap (λ (w : Tree × Tree). depth w.1) i.2 in
    omega arith

setting_within : (limit : ℕ) (path : List Part) (v : Tree) → StaysWithin limit path (setting (fits path v limit) v)
setting_within limit path v part n e h =
    let i = within (fits path v limit) _ n e in
    let low : length path + depth v ≤ limit = leb-true (length path + depth v) limit i.0 in
    let is = ap (λ (w : Tree × Tree). depth w.1) i.1 in
    omega arith

base_within : (limit : ℕ) (t : Tree) (keeping : Keeping) → depth t ≤ limit → depth (base t keeping) ≤ limit
base_within limit t from_start h = h
base_within limit t from_write h = let kept = depth_when_kept t in omega arith

pub start_within : (limit : ℕ) (t : Tree) (keeping : Keeping) → depth t ≤ limit → depth (start t keeping) ≤ limit
start_within limit t from_start h = let kept = depth_when_kept t in omega arith
start_within limit t from_write h = h

abbrev pub Within : ℕ → State → Type 0
Within limit s = HoldsInState (λ u. depth u ≤ limit) s

settled_within : (limit : ℕ) (t : Tree) (bases : List Tree) (path : List Part) (change : Rewrite) (r : Result (Tree × Tree) Word) → write_at t path change ≡ r → StaysWithin limit path change
    → depth t ≤ limit → AllByRecursion (λ u. depth u ≤ limit) bases → Within limit (settled t bases r).1
settled_within limit t bases path change (Err word) e fine h hs = (h, hs)
settled_within limit t bases path change (Ok w) e fine h hs =
    let d = write_done t path change w e in
    let part = depth_of_part t path d.0 d.1 in
    let new = fine d.0 d.2 d.3 (omega arith) in
    let whole = depth_when_put t path d.2.1 in
    let is = ap (λ (w : Tree × Tree). depth w.1) d.4 in
    (omega arith, (h, hs))

rewritten_within : (job : Job) (s : State) (path : List Part) (change : Rewrite) → StaysWithin job.limit path change → Within job.limit s → Within job.limit (rewritten job s path change).1
rewritten_within job s path change fine h =
    settled_within job.limit (base s.tree job.keeping) s.bases path change (write_at (base s.tree job.keeping) path change) refl fine (base_within job.limit s.tree job.keeping h.0) h.1

undone_within : (limit : ℕ) (t : Tree) (bases : List Tree) → depth t ≤ limit → AllByRecursion (λ u. depth u ≤ limit) bases → Within limit (undone t bases).1
undone_within limit t [] h hs = (h, tt)
undone_within limit t (b ∷ bs) h hs = hs

step_within : (job : Job) (s : State) (c : Step) → Within job.limit s → Within job.limit (step job s c).1
step_within job s (get path) h = h
step_within job s (contains path k) h = h
step_within job s (type_of path) h = h
step_within job s (len path) h = h
step_within job s (keys path) h = h
step_within job s undo h = undone_within job.limit s.tree s.bases h.0 h.1
step_within job s reload h = h
step_within job s reload_pp h = h
step_within job s (insert path k v) h = rewritten_within job s path _ (insertion_within job.limit path k v) h
step_within job s (remove path k) h = rewritten_within job s path _ (removal_within job.limit path k) h
step_within job s (push path v) h = rewritten_within job s path _ (pushing_within job.limit path v) h
step_within job s (pop path) h = rewritten_within job s path _ (popping_within job.limit path) h
step_within job s (set_at path v) h = rewritten_within job s path _ (setting_within job.limit path v) h

pub after_within : (job : Job) (s : State) (cs : List Step) → Within job.limit s → Within job.limit (after job s cs)
after_within job s [] h = h
after_within job s (c ∷ cs) h = after_within job (step job s c).1 cs (step_within job s c h)

pub depth_stays : DepthStays
depth_stays job t n h = after_within job (begun job t) (take n job.script) (start_within job.limit t job.keeping h, tt)
