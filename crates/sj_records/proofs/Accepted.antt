-- What an accepted script writes: keys in UTF-8, and valid trees without repeated keys.
use Rattle.std.proofs.Common.{◌≡◌, ℕ, suc, List, [], ◌∷◌, Result, Ok, Err, refl, sym, ap, subst, inl, inr}
use Rattle.std.specs.Prelude.{bytes_eq, codes, IsUtf8, ⊤}
use Rattle.std.specs.List.{AllByRecursion}
use Rattle.std.proofs.lemmas.Bool.{cond_both}
use Rattle.sj_base.specs.Tree.{Tree, null, boolean, integer, decimal, string, list, object, Items, no_items, item, IsValidTree}
use Rattle.sj_base.specs.Keep.{keep, keep_items, IsKept}
use Rattle.sj_base.specs.Path.{Part}
use Rattle.sj_base.proofs.Keeping.{keeps_once}
use Rattle.sj_base.proofs.Kept.{list_parts, item_parts}
use Rattle.sj_base.proofs.Trees.{only_trees}
use Rattle.sj_base.proofs.Valid.{valid_when_kept}
use Rattle.sj_scripts.specs.declared.script.CommandFault.{CommandFault}
use Rattle.sj_scripts.specs.Command.{Step, get, contains, type_of, len, keys, insert, remove, push, pop, set_at, undo, reload, reload_pp, ◌>>=◌, as_path, as_key, path_alone, path_and_key, path_and_value, path_key_value, nullary, named, command_of, with_index, commands_from, commands_in}
use Rattle.sj_scripts.specs.Script.{IsAccepted}
use Rattle.sj_documents.proofs.Changes.{bind_ok, same_ok}

-- valid, and without repeated keys
abbrev pub Good : Tree → Type 0
Good t = IsKept t × IsValidTree t

-- the key and the value that a command writes
abbrev pub Sound : Step → Type 0
Sound (insert path k v) = IsUtf8 k × Good v
Sound (push path v) = Good v
Sound (set_at path v) = Good v
Sound (get path) = ⊤
Sound (contains path k) = ⊤
Sound (type_of path) = ⊤
Sound (len path) = ⊤
Sound (keys path) = ⊤
Sound (remove path k) = ⊤
Sound (pop path) = ⊤
Sound undo = ⊤
Sound reload = ⊤
Sound reload_pp = ⊤

good_item : (t : Tree) (ts : Items) → Good (list (item t ts)) → Good t × Good (list ts)
good_item t ts h =
    let parts = item_parts (keep t) t (keep_items ts) ts (list_parts (item (keep t) (keep_items ts)) (item t ts) h.0) in
    ((parts.0, h.1.0), (ap list parts.1, h.1.1))

abbrev OkSound : {F : Type 0} → Result Step F → Type 0
OkSound (Ok c) = Sound c
OkSound (Err f) = ⊤

bind_sound : {A F : Type 0} (r : Result A F) (f : A → Step) → ((a : A) → r ≡ Ok a → Sound (f a)) → OkSound (r >>= λ a. Ok (f a))
bind_sound (Ok a) f h = h a refl
bind_sound (Err w) f h = tt

nullary_sound : (c : Step) (ts : Items) → Sound c → OkSound (nullary c ts)
nullary_sound c no_items h = h
nullary_sound c (item t ts) h = tt

key_utf8 : (u : Tree) (k : List ℕ) → as_key u ≡ Ok k → IsValidTree u → IsUtf8 k
key_utf8 (string s) k e h = subst IsUtf8 (same_ok s k _ _ refl refl e) h
key_utf8 null k e h = absurd cc
key_utf8 (boolean b) k e h = absurd cc
key_utf8 (integer n) k e h = absurd cc
key_utf8 (decimal literal) k e h = absurd cc
key_utf8 (list ts) k e h = absurd cc
key_utf8 (object ms) k e h = absurd cc

good_value : (ts : Items) (a : List Part × Tree) → path_and_value ts ≡ Ok a → Good (list ts) → Good a.1
good_value no_items a e h = absurd cc
good_value (item t no_items) a e h = absurd cc
good_value (item t (item u no_items)) a e h =
    let path = bind_ok (as_path t) _ a e in
    let same : (path.0, u) ≡ a = same_ok _ a _ _ refl refl path.2 in
    subst (λ (a : List Part × Tree). Good a.1) same (good_item u no_items (good_item t (item u no_items) h).1).0
good_value (item t (item u (item v ts))) a e h = absurd cc

good_key_value : (ts : Items) (a : List Part × List ℕ × Tree) → path_key_value ts ≡ Ok a → Good (list ts) → IsUtf8 a.1 × Good a.2
good_key_value no_items a e h = absurd cc
good_key_value (item t no_items) a e h = absurd cc
good_key_value (item t (item u no_items)) a e h = absurd cc
good_key_value (item t (item u (item v no_items))) a e h =
    let path = bind_ok (as_path t) _ a e in
    let key = bind_ok (as_key u) _ a path.2 in
    let same : (path.0, key.0, v) ≡ a = same_ok _ a _ _ refl refl key.2 in
    let behind = good_item u (item v no_items) (good_item t (item u (item v no_items)) h).1 in
    subst (λ (a : List Part × List ℕ × Tree). IsUtf8 a.1 × Good a.2) same (key_utf8 u key.0 key.1 behind.0.1, (good_item v no_items behind.1).0)
good_key_value (item t (item u (item v (item w ts)))) a e h = absurd cc

named_sound : (name : List ℕ) (ts : Items) → Good (list ts) → OkSound (named name ts)
named_sound name ts h =
    let P : Result Step CommandFault → Type 0 = λ r. OkSound r in
    cond_both (bytes_eq name (codes "get")) _ _ P (λ _. bind_sound (path_alone ts) (λ path. get path) (λ a e. tt)) (λ _.
    cond_both (bytes_eq name (codes "contains")) _ _ P (λ _. bind_sound (path_and_key ts) (λ a. contains a.0 a.1) (λ a e. tt)) (λ _.
    cond_both (bytes_eq name (codes "type")) _ _ P (λ _. bind_sound (path_alone ts) (λ path. type_of path) (λ a e. tt)) (λ _.
    cond_both (bytes_eq name (codes "len")) _ _ P (λ _. bind_sound (path_alone ts) (λ path. len path) (λ a e. tt)) (λ _.
    cond_both (bytes_eq name (codes "keys")) _ _ P (λ _. bind_sound (path_alone ts) (λ path. keys path) (λ a e. tt)) (λ _.
    cond_both (bytes_eq name (codes "insert")) _ _ P (λ _. bind_sound (path_key_value ts) (λ a. insert a.0 a.1 a.2) (λ a e. good_key_value ts a e h)) (λ _.
    cond_both (bytes_eq name (codes "remove")) _ _ P (λ _. bind_sound (path_and_key ts) (λ a. remove a.0 a.1) (λ a e. tt)) (λ _.
    cond_both (bytes_eq name (codes "push")) _ _ P (λ _. bind_sound (path_and_value ts) (λ a. push a.0 a.1) (λ a e. good_value ts a e h)) (λ _.
    cond_both (bytes_eq name (codes "pop")) _ _ P (λ _. bind_sound (path_alone ts) (λ path. pop path) (λ a e. tt)) (λ _.
    cond_both (bytes_eq name (codes "set")) _ _ P (λ _. bind_sound (path_and_value ts) (λ a. set_at a.0 a.1) (λ a e. good_value ts a e h)) (λ _.
    cond_both (bytes_eq name (codes "undo")) _ _ P (λ _. nullary_sound undo ts tt) (λ _.
    cond_both (bytes_eq name (codes "reload")) _ _ P (λ _. nullary_sound reload ts tt) (λ _.
    cond_both (bytes_eq name (codes "reload_pp")) _ _ P (λ _. nullary_sound reload_pp ts tt) (λ _. tt)))))))))))))

command_sound : (t : Tree) → Good t → OkSound (command_of t)
command_sound (list (item (string name) ts)) h = named_sound name ts (good_item (string name) ts h).1
command_sound (list no_items) h = tt
command_sound (list (item null ts)) h = tt
command_sound (list (item (boolean b) ts)) h = tt
command_sound (list (item (integer n) ts)) h = tt
command_sound (list (item (decimal literal) ts)) h = tt
command_sound (list (item (list us) ts)) h = tt
command_sound (list (item (object ms) ts)) h = tt
command_sound null h = tt
command_sound (boolean b) h = tt
command_sound (integer n) h = tt
command_sound (decimal literal) h = tt
command_sound (string s) h = tt
command_sound (object ms) h = tt

with_index_sound : (n : ℕ) (r : Result Step CommandFault) (c : Step) → OkSound r → with_index n r ≡ Ok c → Sound c
with_index_sound n (Ok d) c h e = subst Sound (same_ok d c _ _ refl refl e) h
with_index_sound n (Err f) c h e = absurd cc

commands_sound : (n : ℕ) (ts : Items) (cs : List Step) → Good (list ts) → commands_from n ts ≡ Ok cs → AllByRecursion Sound cs
commands_sound n no_items cs h e = subst (λ (ds : List Step). AllByRecursion Sound ds) (same_ok [] cs _ _ refl refl e) tt
commands_sound n (item t ts) cs h e =
    let both = good_item t ts h in
    let first = bind_ok (with_index n (command_of t)) _ cs e in
    let rest = bind_ok (commands_from (suc n) ts) _ cs first.2 in
    let same : first.0 ∷ rest.0 ≡ cs = same_ok _ cs _ _ refl refl rest.2 in
    subst (λ (ds : List Step). AllByRecursion Sound ds) same (with_index_sound n (command_of t) first.0 (command_sound t both.0) first.1, commands_sound (suc n) ts rest.0 both.1 rest.1)

script_sound : (t : Tree) (cs : List Step) → Good t → commands_in t ≡ Ok cs → AllByRecursion Sound cs
script_sound (list ts) cs h e = commands_sound 0 ts cs h e
script_sound null cs h e = absurd cc
script_sound (boolean b) cs h e = absurd cc
script_sound (integer n) cs h e = absurd cc
script_sound (decimal literal) cs h e = absurd cc
script_sound (string s) cs h e = absurd cc
script_sound (object ms) cs h e = absurd cc

pub accepted_sound : (script : List Step) → IsAccepted script → AllByRecursion Sound script
accepted_sound script (bytes, inl (t, document, is)) = script_sound (keep t) script (keeps_once t, valid_when_kept t (only_trees bytes t document.spells)) (sym is)
accepted_sound script (bytes, inr (e, fault, is)) = absurd cc
