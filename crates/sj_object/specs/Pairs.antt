-- Lists of pairs of a key and a value, in which a key is found by its text: what an object is to its contracts.
use Rattle.std.specs.Prelude.{◌≡◌, ℕ, suc, Bool, false, ◌||◌, if◌then◌else◌, List, [], ◌∷◌, ◌++◌, take, drop, Option, Some, None, option_map, bytes_eq}
use mathlib.Core.Bool.{Bool-set}
use mathlib.Core.HLevel.{×_prop, Unit-prop}
use Rattle.sj_object.specs.declared.entry.Entry.{Entry}

module _ {K V : Type 0} (text : K → List ℕ) where
  -- the texts of the keys
  abbrev pub keys_of : List (Entry K V) → List (List ℕ)
  keys_of [] = []
  keys_of (e ∷ es) = text e.key ∷ keys_of es

  -- the value of the first pair with the key k
  abbrev pub value_at : List (Entry K V) → List ℕ → Option V
  value_at [] k = None
  value_at (e ∷ es) k = if bytes_eq (text e.key) k then Some e.value else value_at es k

  -- the place of the first pair with the key k, counted from 0
  abbrev pub place_of : List (Entry K V) → List ℕ → Option ℕ
  place_of [] k = None
  place_of (e ∷ es) k = if bytes_eq (text e.key) k then Some 0 else option_map (λ i. suc i) (place_of es k)

  -- the pairs with v in the place of the value of the key k. They stay as they are where none has that key
  abbrev pub set_value : List (Entry K V) → List ℕ → V → List (Entry K V)
  set_value [] k v = []
  set_value (e ∷ es) k v = if bytes_eq (text e.key) k then record e { value = v } ∷ es else e ∷ set_value es k v

  -- the same, and the pair of k and v goes last where none has that key
  abbrev pub put_key : List (Entry K V) → K → V → List (Entry K V)
  put_key [] k v = record { key = k; value = v } ∷ []
  put_key (e ∷ es) k v = if bytes_eq (text e.key) (text k) then record e { value = v } ∷ es else e ∷ put_key es k v

  -- the pairs without the first one with the key k
  abbrev pub drop_key : List (Entry K V) → List ℕ → List (Entry K V)
  drop_key [] k = []
  drop_key (e ∷ es) k = if bytes_eq (text e.key) k then es else e ∷ drop_key es k

-- the pairs with the pair of k and v at place i, counted from 0, and those from there on behind it
abbrev pub put_at : {K V : Type 0} → List (Entry K V) → ℕ → K → V → List (Entry K V)
put_at es i k v = take i es ++ record { key = k; value = v } ∷ drop i es

-- whether the text k is in the list
abbrev pub has_text : List (List ℕ) → List ℕ → Bool
has_text [] k = false
has_text (x ∷ xs) k = bytes_eq x k || has_text xs k

-- no text is in the list twice
abbrev pub AreDistinct : List (List ℕ) → Type 0
AreDistinct [] = Unit {0}
AreDistinct (k ∷ ks) = (has_text ks k ≡ false) × AreDistinct ks

pub AreDistinct-prop : (ks : List (List ℕ)) → IsProp (AreDistinct ks)
AreDistinct-prop [] = Unit-prop
AreDistinct-prop (k ∷ ks) = ×_prop (Bool-set _ _) (AreDistinct-prop ks)
