-- What the place of a key says of look-ups and edits.
use Rattle.std.proofs.Common.{◌≡◌, ltb, ℕ, zero, suc, ◌<◌, map, slice_get, ◌+◌, true, false, List, [], ◌∷◌, ◌++◌, Option, Some, None, is_some, length, get_or, set, take, drop, refl, sym, subst, ap, ◌∙◌, inl, inr, arith, cond}
use Rattle.std.specs.Prelude.{bytes_eq, option_map}
use Rattle.std.specs.List.{position, position_or_len}
use Rattle.std.proofs.lemmas.Bool.{cases_Bool, or_from}
use Rattle.std.proofs.lemmas.Bool.Decides.{nat_tests}
use Rattle.sj_object.specs.declared.entry.Entry.{Entry}
use Rattle.sj_object.specs.Pairs.{keys_of, value_at, place_of, set_value, put_key, drop_key, has_text}
use Rattle.sj_object.specs.inside.Places.{set_place}

pub some_same : {X : Type 0} (a b : X) → Some a ≡ Some b → a ≡ b
some_same a b h = cc

pub none_some : {X : Type 0} (a : X) → None ≡ Some a → ⊥
none_some a h = cc

pub suc_none : (o : Option ℕ) → option_map (λ i. suc i) o ≡ None → o ≡ None
suc_none None h = refl
suc_none (Some j) h = cc

pub suc_some : (o : Option ℕ) (i : ℕ) → option_map (λ i. suc i) o ≡ Some i → (j : ℕ) × (o ≡ Some j) × (i ≡ suc j)
suc_some None i h = absurd (none_some i h)
suc_some (Some j) i h = (j, refl, sym (some_same (suc j) i h))

is_some-suc : (o : Option ℕ) → is_some (option_map (λ i. suc i) o) ≡ is_some o
is_some-suc None = refl
is_some-suc (Some i) = refl

pub zero_counted : (m n : ℕ) → m ≡ 0 → Some m ≡ cond (ltb m (suc n)) (Some m) None
zero_counted m n h = grind (arith, nat_tests)

pub suc_counted : (m n : ℕ) → option_map (λ i. suc i) (cond (ltb m n) (Some m) None) ≡ cond (ltb (1 + m) (suc n)) (Some (1 + m)) None
suc_counted m n = grind (arith, nat_tests, cases_Bool (ltb m n))

module _ {K V : Type 0} (text : K → List ℕ) (k : List ℕ) where
  -- std's word for the place
  pub place_of-position : (es : List (Entry K V)) → place_of text es k ≡ position (λ e. bytes_eq (text e.key) k) es
  place_of-position [] = refl
  place_of-position (e ∷ es) =
      elim (cases_Bool (bytes_eq (text e.key) k)) [
        | inl t ↦ rw t (zero_counted 0 (length es) refl)
        | inr f ↦ rw (f, place_of-position es) (suc_counted (position_or_len (λ e. bytes_eq (text e.key) k) es) (length es))
      ]

  -- what holds of a list that begins with the key, and stays true in front of other keys, holds at the key's place
  pub at_place : (P : List (Entry K V) → ℕ → Type 0)
      → ((e : Entry K V) (es : List (Entry K V)) → bytes_eq (text e.key) k ≡ true → P (e ∷ es) 0)
      → ((e : Entry K V) (es : List (Entry K V)) (i : ℕ) → bytes_eq (text e.key) k ≡ false → P es i → P (e ∷ es) (suc i))
      → (es : List (Entry K V)) (i : ℕ) → place_of text es k ≡ Some i → P es i
  at_place P here there [] i h = absurd (none_some i h)
  at_place P here there (e ∷ es) i h =
      elim (cases_Bool (bytes_eq (text e.key) k)) [
        | inl t ↦ subst (λ (n : ℕ). P (e ∷ es) n) (some_same 0 i (rw t at h)) (here e es t)
        | inr f ↦ let s = suc_some (place_of text es k) i (rw f at h) in
            subst (λ (n : ℕ). P (e ∷ es) n) (sym s.2) (there e es s.0 f (at_place P here there es s.0 s.1))
      ]

  -- the same of a list without the key
  pub at_no_place : (P : List (Entry K V) → Type 0) → P []
      → ((e : Entry K V) (es : List (Entry K V)) → bytes_eq (text e.key) k ≡ false → P es → P (e ∷ es))
      → (es : List (Entry K V)) → place_of text es k ≡ None → P es
  at_no_place P none more [] h = none
  at_no_place P none more (e ∷ es) h =
      elim (cases_Bool (bytes_eq (text e.key) k)) [
        | inl t ↦ absurd (none_some 0 (sym (rw t at h)))
        | inr f ↦ more e es f (at_no_place P none more es (suc_none (place_of text es k) (rw f at h)))
      ]

  pub place_within : (es : List (Entry K V)) (i : ℕ) → place_of text es k ≡ Some i → i < length es
  place_within = at_place (λ es i. i < length es) (λ e es t. omega arith) (λ e es i f p. omega arith)

  pub value_at_place : (d : Entry K V) (es : List (Entry K V)) (i : ℕ) → place_of text es k ≡ Some i → value_at text es k ≡ Some (get_or es i d).value
  value_at_place d = at_place (λ es i. value_at text es k ≡ Some (get_or es i d).value) (λ e es t. rw t) (λ e es i f p. rw f p)

  pub value_at_no_place : (es : List (Entry K V)) → place_of text es k ≡ None → value_at text es k ≡ None
  value_at_no_place = at_no_place (λ es. value_at text es k ≡ None) refl (λ e es f p. rw f p)

  pub no_place : (es : List (Entry K V)) → value_at text es k ≡ None → place_of text es k ≡ None
  no_place [] h = refl
  no_place (e ∷ es) h =
      elim (cases_Bool (bytes_eq (text e.key) k)) [
        | inl t ↦ absurd (none_some e.value (sym (rw t at h)))
        | inr f ↦ rw f (ap (option_map (λ i. suc i)) (no_place es (rw f at h)))
      ]

  -- a key has a place exactly if it has a value
  pub has_place : (es : List (Entry K V)) → is_some (place_of text es k) ≡ is_some (value_at text es k)
  has_place [] = refl
  has_place (e ∷ es) =
      elim (cases_Bool (bytes_eq (text e.key) k)) [
        | inl t ↦ rw t refl
        | inr f ↦ rw f (is_some-suc (place_of text es k) ∙ has_place es)
      ]

  pub drop_key_place : (es : List (Entry K V)) (i : ℕ) → place_of text es k ≡ Some i → drop_key text es k ≡ take i es ++ drop (suc i) es
  drop_key_place = at_place (λ es i. drop_key text es k ≡ take i es ++ drop (suc i) es) (λ e es t. rw t) (λ e es i f p. rw f (ap (λ l. e ∷ l) p))

  pub drop_key_no_place : (es : List (Entry K V)) → place_of text es k ≡ None → drop_key text es k ≡ es
  drop_key_no_place = at_no_place (λ es. drop_key text es k ≡ es) refl (λ e es f p. rw f (ap (λ l. e ∷ l) p))

  pub has_text_no_place : (es : List (Entry K V)) → place_of text es k ≡ None → has_text (keys_of text es) k ≡ false
  has_text_no_place = at_no_place (λ es. has_text (keys_of text es) k ≡ false) refl (λ e es f p. or_from _ _ f p)

  pub set_value-set_place : (v : V) (es : List (Entry K V)) (i : ℕ) → place_of text es k ≡ Some i → set_value text es k v ≡ set_place es i v
  set_value-set_place v = at_place (λ es i. set_value text es k v ≡ set_place es i v) (λ e es t. rw t) (λ e es i f p. rw f (ap (λ l. e ∷ l) p))

  pub value_at-values : (es : List (Entry K V)) (i : ℕ) → place_of text es k ≡ Some i → value_at text es k ≡ slice_get (map (λ e. e.value) es) i
  value_at-values = at_place (λ es i. value_at text es k ≡ slice_get (map (λ e. e.value) es) i) (λ e es t. rw t) (λ e es i f p. rw f p)

module _ {K V : Type 0} (text : K → List ℕ) (k : K) (v : V) where
  pub put_key-set_place : (es : List (Entry K V)) (i : ℕ) → place_of text es (text k) ≡ Some i → put_key text es k v ≡ set_place es i v
  put_key-set_place = at_place text (text k) (λ es i. put_key text es k v ≡ set_place es i v) (λ e es t. rw t) (λ e es i f p. rw f (ap (λ l. e ∷ l) p))

  pub put_key_no_place : (es : List (Entry K V)) → place_of text es (text k) ≡ None → put_key text es k v ≡ es ++ record { key = k; value = v } ∷ []
  put_key_no_place = at_no_place text (text k) (λ es. put_key text es k v ≡ es ++ record { key = k; value = v } ∷ []) refl (λ e es f p. rw f (ap (λ l. e ∷ l) p))

module _ {K V : Type 0} where
  pub set_place-set : (d : Entry K V) (v : V) (es : List (Entry K V)) (i : ℕ) → set_place es i v ≡ set es i (record { key = (get_or es i d).key; value = v })
  set_place-set d v [] i = refl
  set_place-set d v (e ∷ es) zero = refl
  set_place-set d v (e ∷ es) (suc i) = ap (λ l. e ∷ l) (set_place-set d v es i)

  pub values_at : (d : Entry K V) (es : List (Entry K V)) (i : ℕ) → i < length es → slice_get (map (λ e. e.value) es) i ≡ Some (get_or es i d).value
  values_at d [] i h = absurd (omega arith)
  values_at d (e ∷ es) zero h = refl
  values_at d (e ∷ es) (suc i) h = values_at d es i (omega arith)

  pub set_place-last : (v : V) (es : List (Entry K V)) (e : Entry K V) (i : ℕ) → i ≡ length es → set_place (es ++ e ∷ []) i v ≡ es ++ record e { value = v } ∷ []
  set_place-last v [] e i h = rw h
  set_place-last v (x ∷ es) e i h = rw h (ap (λ l. x ∷ l) (set_place-last v es e (length es) refl))

  pub values_last : (es : List (Entry K V)) (e : Entry K V) (i : ℕ) → i ≡ length es → slice_get (map (λ x. x.value) (es ++ e ∷ [])) i ≡ Some e.value
  values_last [] e i h = rw h
  values_last (x ∷ es) e i h = rw h (values_last es e (length es) refl)
