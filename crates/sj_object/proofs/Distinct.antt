-- The keys stay distinct.
use Rattle.std.proofs.Common.{◌≡◌, ℕ, zero, suc, false, List, [], ◌∷◌, ◌++◌, get_or, set, length, refl, ap, ◌∙◌, inl, inr}
use Rattle.std.specs.Prelude.{bytes_eq}
use Rattle.std.specs.List.{insert, remove}
use Rattle.std.proofs.lemmas.List.Edits.{insert_end}
use Rattle.std.specs.Cmp.Lexicographic.{nat_list_eq_equiv}
use Rattle.std.proofs.lemmas.Bool.{cases_Bool, or_parts, or_from}
use Rattle.sj_object.specs.declared.entry.Entry.{Entry}
use Rattle.sj_object.specs.Pairs.{keys_of, drop_key, has_text, AreDistinct}

has_text-insert : (ks : List (List ℕ)) (i : ℕ) (x k : List ℕ) → has_text ks x ≡ false → bytes_eq k x ≡ false → has_text (insert ks i k) x ≡ false
has_text-insert [] zero x k h n = or_from _ _ n refl
has_text-insert [] (suc i) x k h n = or_from _ _ n refl
has_text-insert (y ∷ ks) zero x k h n = or_from _ _ n h
has_text-insert (y ∷ ks) (suc i) x k h n =
    let s = or_parts (bytes_eq y x) (has_text ks x) h in or_from _ _ s.0 (has_text-insert ks i x k s.1 n)

AreDistinct-insert : (ks : List (List ℕ)) (i : ℕ) (k : List ℕ) → AreDistinct ks → has_text ks k ≡ false → AreDistinct (insert ks i k)
AreDistinct-insert [] zero k d h = (refl, tt)
AreDistinct-insert [] (suc i) k d h = (refl, tt)
AreDistinct-insert (x ∷ ks) zero k d h = (h, d)
AreDistinct-insert (x ∷ ks) (suc i) k d h =
    let s = or_parts (bytes_eq x k) (has_text ks k) h in
    (has_text-insert ks i x k d.0 (nat_list_eq_equiv.symm k x ∙ s.0), AreDistinct-insert ks i k d.1 s.1)

module _ {K V : Type 0} (text : K → List ℕ) where
  -- a new value in the place of a pair leaves the keys
  pub keys_of-set : (d : Entry K V) (v : V) (es : List (Entry K V)) (i : ℕ) → keys_of text (set es i (record { key = (get_or es i d).key; value = v })) ≡ keys_of text es
  keys_of-set d v [] i = refl
  keys_of-set d v (e ∷ es) zero = refl
  keys_of-set d v (e ∷ es) (suc i) = ap (λ l. text e.key ∷ l) (keys_of-set d v es i)

  pub keys_of-insert : (es : List (Entry K V)) (i : ℕ) (e : Entry K V) → keys_of text (insert es i e) ≡ insert (keys_of text es) i (text e.key)
  keys_of-insert [] zero e = refl
  keys_of-insert [] (suc i) e = refl
  keys_of-insert (x ∷ es) zero e = refl
  keys_of-insert (x ∷ es) (suc i) e = ap (λ l. text x.key ∷ l) (keys_of-insert es i e)

  pub keys_of-remove : (es : List (Entry K V)) (i : ℕ) → keys_of text (remove es i) ≡ remove (keys_of text es) i
  keys_of-remove [] zero = refl
  keys_of-remove [] (suc i) = refl
  keys_of-remove (x ∷ es) zero = refl
  keys_of-remove (x ∷ es) (suc i) = ap (λ l. text x.key ∷ l) (keys_of-remove es i)

  -- a pair with a new key may stand anywhere
  pub distinct_insert : (es : List (Entry K V)) (i : ℕ) (e : Entry K V) → AreDistinct (keys_of text es) → has_text (keys_of text es) (text e.key) ≡ false → AreDistinct (keys_of text (insert es i e))
  distinct_insert es i e d h = rw (keys_of-insert es i e) (AreDistinct-insert (keys_of text es) i (text e.key) d h)

  pub distinct_push : (es : List (Entry K V)) (e : Entry K V) → AreDistinct (keys_of text es) → has_text (keys_of text es) (text e.key) ≡ false → AreDistinct (keys_of text (es ++ e ∷ []))
  distinct_push es e d h = rw (← (insert_end es e)) (distinct_insert es (length es) e d h)

  has_text-drop : (es : List (Entry K V)) (k x : List ℕ) → has_text (keys_of text es) x ≡ false → has_text (keys_of text (drop_key text es k)) x ≡ false
  has_text-drop [] k x h = refl
  has_text-drop (e ∷ es) k x h =
      let s = or_parts (bytes_eq (text e.key) x) (has_text (keys_of text es) x) h in
      elim (cases_Bool (bytes_eq (text e.key) k)) [
        | inl t ↦ rw t s.1
        | inr f ↦ rw f (or_from _ _ s.0 (has_text-drop es k x s.1))
      ]

  pub distinct_drop : (es : List (Entry K V)) (k : List ℕ) → AreDistinct (keys_of text es) → AreDistinct (keys_of text (drop_key text es k))
  distinct_drop [] k d = tt
  distinct_drop (e ∷ es) k d =
      elim (cases_Bool (bytes_eq (text e.key) k)) [
        | inl t ↦ rw t d.1
        | inr f ↦ rw f (has_text-drop es k (text e.key) d.0, distinct_drop es k d.1)
      ]

  pub keys_of-push : (es : List (Entry K V)) (e : Entry K V) → keys_of text (es ++ e ∷ []) ≡ keys_of text es ++ text e.key ∷ []
  keys_of-push [] e = refl
  keys_of-push (x ∷ es) e = ap (λ l. text x.key ∷ l) (keys_of-push es e)
