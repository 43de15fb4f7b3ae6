-- The search for a repeated key.
use Rattle.std.proofs.Common.{◌≡◌, ℕ, ◌+◌, Bool, true, false, cond, ◌||◌, List, [], ◌∷◌, ◌++◌, Option, None, map, bytes_eq, add-one, refl, sym, ap, ◌∙◌}
use Rattle.std.specs.List.{list_any}
use Rattle.std.specs.Prelude.{reverse}
use Rattle.std.proofs.lemmas.List.{map-append, reverse-append}
use Rattle.sj_base.specs.Tree.{Tree, Items, item, Members, member}
use Rattle.sj_tape.specs.Repeats.{Repetition, is_among, repeated, repeated_in_items, repeated_in_members}

-- ---- one key more

or_last : (a b : Bool) → cond b true a ≡ (a || (b || false))
or_last true true = refl
or_last true false = refl
or_last false true = refl
or_last false false = refl

or_cond : (a b c : Bool) → cond b true (a || c) ≡ (a || cond b true c)
or_cond true true c = refl
or_cond true false c = refl
or_cond false true c = refl
or_cond false false c = refl

pub among_last : (names : List (List ℕ)) (name k : List ℕ) → cond (bytes_eq name k) true (is_among k names) ≡ is_among k (names ++ name ∷ [])
among_last [] name k = or_last false (bytes_eq name k)
among_last (n ∷ names) name k = or_cond (bytes_eq n k) (bytes_eq name k) (is_among k names) ∙ ap (λ b. bytes_eq n k || b) (among_last names name k)

-- what holds of some f x, of all x in a list
pub any_map : {A B : Type 0} (f : A → B) (test : B → Bool) (xs : List A) → list_any (λ x. test (f x)) xs ≡ list_any test (map f xs)
any_map f test [] = refl
any_map f test (x ∷ xs) = ap (λ b. test (f x) || b) (any_map f test xs)

-- ---- one child more, in which nothing is found

pub next_item : (n : ℕ) (all : Option Repetition) (us : Items) (t : Tree) (ts : Items) → all ≡ repeated_in_items n us → us ≡ item t ts → repeated t ≡ None → all ≡ repeated_in_items (n + 1) ts
next_item n all us t ts e is none =
    let past : repeated_in_items n (item t ts) ≡ repeated_in_items (n + 1) ts = rw (none, add-one) refl in
    e ∙ ap (λ (vs : Items). repeated_in_items n vs) is ∙ past

pub next_member : (earlier later : List (List ℕ)) (all : Option Repetition) (us : Members) (k : List ℕ) (t : Tree) (ms : Members) → all ≡ repeated_in_members earlier us → us ≡ member k t ms → is_among k earlier ≡ false → repeated t ≡ None → later ≡ earlier ++ k ∷ [] → all ≡ repeated_in_members later ms
next_member earlier later all us k t ms e is new none last =
    let past : repeated_in_members earlier (member k t ms) ≡ repeated_in_members (earlier ++ k ∷ []) ms = rw (new, none) refl in
    e ∙ ap (λ (vs : Members). repeated_in_members earlier vs) is ∙ past ∙ ap (λ (ks : List (List ℕ)). repeated_in_members ks ms) (sym last)

-- ---- paths

pub map_reverse : {A B : Type 0} (f : A → B) (xs : List A) → map f (reverse xs) ≡ reverse (map f xs)
map_reverse f [] = refl
map_reverse f (x ∷ xs) =
    ap (map f) (reverse-append (x ∷ []) xs) ∙ map-append f (reverse xs) (x ∷ []) ∙ ap (λ ys. ys ++ f x ∷ []) (map_reverse f xs) ∙ sym (reverse-append (f x ∷ []) (map f xs))
