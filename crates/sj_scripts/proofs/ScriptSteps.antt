-- Reading the parts of a path and the commands of a script one after the other, as loops do.
use Rattle.std.proofs.Common.{◌≡◌, ℕ, suc, List, [], ◌∷◌, ◌++◌, length, Result, Ok, Err, refl, sym, ap, ◌∙◌, append_assoc}
use Rattle.sj_base.specs.Tree.{Tree}
use Rattle.sj_base.specs.Path.{Part}
use Rattle.sj_scripts.specs.declared.script.CommandFault.{CommandFault}
use Rattle.sj_scripts.specs.declared.script.CommandFault.TheVariants.{WrongCount}
use Rattle.sj_scripts.specs.declared.memory_or.MemoryOr.{MemoryOr}
use Rattle.sj_scripts.specs.declared.memory_or.MemoryOr.TheVariants as errors
use Rattle.sj_scripts.specs.Command.{Step, Refusal, ◌>>=◌, as_path, as_key, path_alone, path_and_key, path_and_value, path_key_value, nullary, command_of, commands_from}
use Rattle.sj_scripts.specs.inside.ReadErrors.{IsFaultOf}
use Rattle.sj_scripts.specs.declared.script.Command.{Command}
use Rattle.sj_scripts.specs.Script.{command_view, commands_view}
use Rattle.sj_scripts.specs.Values.{OwnedValue, owned_tree}
use Rattle.sj_scripts.specs.inside.Views.{items_view}

-- what is read behind a front
abbrev pub read_after : {A F : Type 0} → List A → Result (List A) F → Result (List A) F
read_after front r = r >>= λ xs. Ok (front ++ xs)

regroup : {A F : Type 0} (front : List A) (x : A) (r : Result (List A) F) → read_after front (r >>= λ xs. Ok (x ∷ xs)) ≡ read_after (front ++ x ∷ []) r
regroup front x (Ok xs) = ap (λ ys. Ok ys) (sym (append_assoc front (x ∷ []) xs))
regroup front x (Err f) = refl

-- results side by side
abbrev with_key : Result (List Part) CommandFault → Result (List ℕ) CommandFault → Result (List Part × List ℕ) CommandFault
with_key path k = path >>= λ p. k >>= λ s. Ok (p, s)

abbrev pub with_value : Result (List Part × List ℕ) CommandFault → Tree → Result (List Part × List ℕ × Tree) CommandFault
with_value a v = a >>= λ a. Ok (a.0, a.1, v)

abbrev with_both : Result (List Part) CommandFault → Result (List ℕ) CommandFault → Tree → Result (List Part × List ℕ × Tree) CommandFault
with_both path k v = path >>= λ p. k >>= λ s. Ok (p, s, v)

-- ---- the commands of a script

pub commands-more : (n m : ℕ) (d : OwnedValue) (all left : List OwnedValue) (front : List Step) (step : Step) (total : Result (List Step) Refusal) → all ≡ d ∷ left → m ≡ suc n → command_of (owned_tree d) ≡ Ok step
    → read_after front (commands_from n (items_view all)) ≡ total → read_after (front ++ step ∷ []) (commands_from m (items_view left)) ≡ total
commands-more n m d all left front step total is next found so_far =
    let one : read_after front (commands_from n (items_view all)) ≡ read_after (front ++ step ∷ []) (commands_from (suc n) (items_view left)) = rw (is, found) (regroup front step (commands_from (suc n) (items_view left))) in
    ap (λ n. read_after (front ++ step ∷ []) (commands_from n (items_view left))) next ∙ sym one ∙ so_far

-- ---- another number of arguments

pub nullary-other : (c : Step) (vs : List OwnedValue) → (vs ≡ [] → ⊥) → nullary c (items_view vs) ≡ Err WrongCount
nullary-other c [] h = absurd (h refl)
nullary-other c (v ∷ vs) h = refl

pub alone-other : (ds : List OwnedValue) → (length ds ≡ 1 → ⊥) → path_alone (items_view ds) ≡ Err WrongCount
alone-other [] other = refl
alone-other (a ∷ []) other = absurd (other refl)
alone-other (a ∷ b ∷ ds) other = refl

-- ---- a key behind other arguments

pub key_behind : (ds : List OwnedValue) (d : OwnedValue) → path_and_key (items_view (ds ++ d ∷ [])) ≡ with_key (path_alone (items_view ds)) (as_key (owned_tree d))
key_behind [] d = refl
key_behind (a ∷ []) d = refl
key_behind (a ∷ b ∷ []) d = refl
key_behind (a ∷ b ∷ e ∷ ds) d = refl

-- ---- a value behind other arguments

pub value_behind : (ds : List OwnedValue) (d : OwnedValue) → path_and_value (items_view (ds ++ d ∷ [])) ≡ (path_alone (items_view ds) >>= λ path. Ok (path, owned_tree d))
value_behind [] d = refl
value_behind (a ∷ []) d = refl
value_behind (a ∷ b ∷ []) d = refl
value_behind (a ∷ b ∷ e ∷ ds) d = refl

regroup_key : (path : Result (List Part) CommandFault) (k : Result (List ℕ) CommandFault) (v : Tree) → with_both path k v ≡ with_value (with_key path k) v
regroup_key (Err f) k v = refl
regroup_key (Ok p) (Err f) v = refl
regroup_key (Ok p) (Ok s) v = refl

pub value_behind_key : (ds : List OwnedValue) (d : OwnedValue) → path_key_value (items_view (ds ++ d ∷ [])) ≡ with_value (path_and_key (items_view ds)) (owned_tree d)
value_behind_key [] d = refl
value_behind_key (a ∷ []) d = refl
value_behind_key (a ∷ b ∷ []) d = regroup_key (as_path (owned_tree a)) (as_key (owned_tree b)) (owned_tree d)
value_behind_key (a ∷ b ∷ e ∷ []) d = refl
value_behind_key (a ∷ b ∷ e ∷ f ∷ ds) d = refl

module _ (whole ds : List OwnedValue) (d : OwnedValue) (is : whole ≡ ds ++ d ∷ []) where
  pub value_fault : (e : MemoryOr CommandFault) → IsFaultOf e (path_alone (items_view ds)) → IsFaultOf e (path_and_value (items_view whole))
  value_fault errors.Memory fault = tt
  value_fault (errors.Refused f) fault = rw (is, value_behind ds d, fault) refl

  pub value_read : (path : List Part) (v : OwnedValue) → path_alone (items_view ds) ≡ Ok path → v ≡ d → path_and_value (items_view whole) ≡ Ok (path, owned_tree v)
  value_read path v found same = rw (is, value_behind ds d, found, same) refl

  pub key_value_fault : (e : MemoryOr CommandFault) → IsFaultOf e (path_and_key (items_view ds)) → IsFaultOf e (path_key_value (items_view whole))
  key_value_fault errors.Memory fault = tt
  key_value_fault (errors.Refused f) fault = rw (is, value_behind_key ds d, fault) refl

  pub key_value_read : (path : List Part) (k : List ℕ) (v : OwnedValue) → path_and_key (items_view ds) ≡ Ok (path, k) → v ≡ d → path_key_value (items_view whole) ≡ Ok (path, k, owned_tree v)
  key_value_read path k v found same = rw (is, value_behind_key ds d, found, same) refl

module _ (whole ds : List OwnedValue) (d : OwnedValue) (is : whole ≡ ds ++ d ∷ []) where
  pub key_path_fault : (e : MemoryOr CommandFault) → IsFaultOf e (path_alone (items_view ds)) → IsFaultOf e (path_and_key (items_view whole))
  key_path_fault errors.Memory fault = tt
  key_path_fault (errors.Refused f) fault = rw (is, key_behind ds d, fault) refl

  pub key_fault : (e : MemoryOr CommandFault) (path : List Part) → path_alone (items_view ds) ≡ Ok path → IsFaultOf e (as_key (owned_tree d)) → IsFaultOf e (path_and_key (items_view whole))
  key_fault errors.Memory path found fault = tt
  key_fault (errors.Refused f) path found fault = rw (is, key_behind ds d, found, fault) refl

  pub key_read : (path : List Part) (k : List ℕ) → path_alone (items_view ds) ≡ Ok path → as_key (owned_tree d) ≡ Ok k → path_and_key (items_view whole) ≡ Ok (path, k)
  key_read path k found known = rw (is, key_behind ds d, found, known) refl

-- ---- one more command

pub view-more : (cs : List Command) (c : Command) → commands_view (cs ++ c ∷ []) ≡ commands_view cs ++ command_view c ∷ []
view-more [] c = refl
view-more (b ∷ cs) c = ap (λ ss. command_view b ∷ ss) (view-more cs c)
