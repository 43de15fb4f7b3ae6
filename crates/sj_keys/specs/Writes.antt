-- Targets after a write by a known key.
use Rattle.std.specs.Prelude.{◌≡◌, ℕ, List, Option, Some, None}
use Rattle.sj_base.specs.declared.static_node.ValueType.{ValueType}
use Rattle.sj_object.specs.Pairs.{put_key}
use Rattle.sj_object.specs.declared.entry.Entry.{Entry}
use Rattle.sj_keys.specs.declared.error.KnownKeyError.{KnownKeyError}
use Rattle.sj_keys.specs.declared.error.KnownKeyError.TheVariants.{NotAnObject, Memory}

-- the pairs fs are the pairs es after the value v was put at a key with the text k
abbrev pub Puts : {K V : Type 0} → (K → List ℕ) → List (Entry K V) → List ℕ → V → List (Entry K V) → Type 0
Puts {K} text es k v fs = (key : K) × (text key ≡ k) × (fs ≡ put_key text es key v)

-- why a write was refused: the target has another type, or there was no memory
abbrev pub refusal : Option ValueType → KnownKeyError
refusal (Some t) = NotAnObject t
refusal None = Memory

-- whether u is the target t after the value v was put at the key k of the object that t is
abbrev pub PutsInside : {T O V : Type 0} → (T → Option O) → (O → T) → (O → List ℕ → V → O → Type 0) → T → List ℕ → V → T → Type 0
PutsInside {T} {O} object of_object puts t k v u = (o p : O) × (object t ≡ Some o) × puts o k v p × (u ≡ of_object p)

-- the type of a target that isn't an object
abbrev pub type_met : {O : Type 0} → (O → Option ValueType) → ValueType → Option O → Option ValueType
type_met of_object kind (Some o) = of_object o
type_met of_object kind None = Some kind
