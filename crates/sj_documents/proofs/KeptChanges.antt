-- Writes on trees without repeated keys.
use Rattle.std.proofs.Common.{◌≡◌, ℕ, Bool, List, Result, Ok, Err, subst}
use Rattle.std.specs.List.{AllByRecursion}
use Rattle.sj_base.specs.Tree.{Tree}
use Rattle.sj_base.specs.Keep.{IsKept}
use Rattle.sj_base.specs.Path.{Part}
use Rattle.sj_base.proofs.Kept.{kept_part, kept_put, kept_with_member, kept_pushed, kept_dropped, kept_popped}
use Rattle.sj_documents.specs.Step.{State, Word, Rewrite, insertion, removal, pushing, popping, setting, write_at, settled}
use Rattle.sj_documents.proofs.Changes.{inserted, removed, pushed, popped, within, write_done}

-- ---- a change of a kept part

abbrev pub StaysKept : Rewrite → Type 0
StaysKept change = (part : Tree) (n : Tree × Tree) → change part ≡ Ok n → IsKept part → IsKept n.1

second : (m n : Tree × Tree) → m ≡ n → IsKept m.1 → IsKept n.1
second m n is h = subst (λ (p : Tree × Tree). IsKept p.1) is h

pub insertion_kept : (test : Bool) (k : List ℕ) (v : Tree) → IsKept v → StaysKept (insertion test k v)
insertion_kept test k v good part n e h =
    let i = inserted test k v part n e in
    second _ n i.3 (kept_with_member i.0 k v (subst IsKept i.1 h) good)

pub removal_kept : (k : List ℕ) → StaysKept (removal k)
removal_kept k part n e h = let i = removed k part n e in second _ n i.2 (kept_dropped i.0 k (subst IsKept i.1 h))

pub pushing_kept : (test : Bool) (v : Tree) → IsKept v → StaysKept (pushing test v)
pushing_kept test v good part n e h = let i = pushed test v part n e in second _ n i.3 (kept_pushed i.0 v (subst IsKept i.1 h) good)

pub popping_kept : StaysKept popping
popping_kept part n e h = let i = popped part n e in second _ n i.2 (kept_popped i.0 (subst IsKept i.1 h))

pub setting_kept : (test : Bool) (v : Tree) → IsKept v → StaysKept (setting test v)
setting_kept test v good part n e h = let i = within test _ n e in second _ n i.1 good

-- ---- a write on a kept base

abbrev pub BothKept : State → Type 0
BothKept s = IsKept s.tree × AllByRecursion IsKept s.bases

pub settled_kept : (t : Tree) (bases : List Tree) (path : List Part) (change : Rewrite) (r : Result (Tree × Tree) Word) → write_at t path change ≡ r → StaysKept change → IsKept t → AllByRecursion IsKept bases
    → BothKept (settled t bases r).1
settled_kept t bases path change (Err word) e fine h hs = (h, hs)
settled_kept t bases path change (Ok w) e fine h hs =
    let d = write_done t path change w e in
    (second _ w d.4 (kept_put t path d.2.1 h (fine d.0 d.2 d.3 (kept_part t path d.0 h d.1))), (h, hs))
