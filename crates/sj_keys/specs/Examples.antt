-- Worked values of writes by a known key. Keys are their texts, and values are numbers.
use Rattle.std.specs.Prelude.{◌≡◌, refl, ℕ, List, [], ◌∷◌, Option, Some, None, codes}
use Rattle.sj_base.specs.declared.static_node.ValueType.TheVariants as types
use Rattle.sj_object.specs.declared.entry.Entry.{Entry}
use Rattle.sj_keys.specs.Writes.{Puts, PutsInside, refusal, type_met}
use Rattle.sj_keys.specs.declared.error.KnownKeyError.TheVariants.{NotAnObject, Memory}

abbrev text : List ℕ → List ℕ
text s = s

abbrev pair : List ℕ → ℕ → Entry (List ℕ) ℕ
pair k v = record { key = k; value = v }

abbrev Pairs : Type 0
Pairs = List (Entry (List ℕ) ℕ)

in_its_place : Puts text (pair (codes "a") 1 ∷ pair (codes "b") 2 ∷ []) (codes "a") 3 (pair (codes "a") 3 ∷ pair (codes "b") 2 ∷ [])
in_its_place = (codes "a", refl, refl)

at_the_end : Puts text (pair (codes "key") 1 ∷ []) (codes "cake") 3 (pair (codes "key") 1 ∷ pair (codes "cake") 3 ∷ [])
at_the_end = (codes "cake", refl, refl)

-- Here a target is the pairs of an object, or null.
abbrev as_target : Pairs → Option Pairs
as_target ps = Some ps

inside_a_target : PutsInside {V = ℕ} (λ t. t) as_target (Puts text) (Some []) (codes "a") 1 (Some (pair (codes "a") 1 ∷ []))
inside_a_target = ([], pair (codes "a") 1 ∷ [], refl, (codes "a", refl, refl), refl)

no_memory : refusal None ≡ Memory
no_memory = refl

no_object : refusal (type_met {O = Pairs} (λ ps. None) types.Null None) ≡ NotAnObject types.Null
no_object = refl

type_of_object : type_met {O = Pairs} (λ ps. None) types.Null (Some []) ≡ None
type_of_object = refl
