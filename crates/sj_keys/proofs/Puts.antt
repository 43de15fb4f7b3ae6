-- Values put at a key that is there.
use Rattle.std.proofs.Common.{◌≡◌, ℕ, List, [], ◌∷◌, true, false, Some, bytes_eq, refl, sym, ap, subst, inl, inr, rules}
use Rattle.std.proofs.lemmas.Bool.{cases_Bool}
use Rattle.std.proofs.lemmas.Slice.Eq.{bytes_eq-Decides}
use Rattle.sj_object.specs.Pairs.{value_at, set_value}
use Rattle.sj_object.specs.declared.entry.Entry.{Entry}
use Rattle.sj_keys.specs.Writes.{Puts}

module _ {K V : Type 0} (text : K → List ℕ) where
  put_later : (e : Entry K V) (es : List (Entry K V)) (k : List ℕ) (v : V) → bytes_eq (text e.key) k ≡ false → Puts text es k v (set_value text es k v) → Puts text (e ∷ es) k v (set_value text (e ∷ es) k v)
  put_later e es k v other p =
      let far : bytes_eq (text e.key) (text p.0) ≡ false = subst (λ (l : List ℕ). bytes_eq (text e.key) l ≡ false) (sym p.1) other in
      (p.0, p.1, rw (other, far) (ap (λ l. e ∷ l) p.2))

  put_here : (e : Entry K V) (es : List (Entry K V)) (k : List ℕ) (v : V) → bytes_eq (text e.key) k ≡ true → Puts text (e ∷ es) k v (set_value text (e ∷ es) k v)
  put_here e es k v here =
      let same : text e.key ≡ k = (bytes_eq-Decides (text e.key) k).0 here in
      let near : bytes_eq (text e.key) (text e.key) ≡ true = subst (λ (l : List ℕ). bytes_eq (text e.key) l ≡ true) (sym same) here in
      (e.key, same, rw (here, near) refl)

  -- another value in the place of the value of a key that is there is put at it
  pub set_puts : (es : List (Entry K V)) (k : List ℕ) (v old : V) → Some old ≡ value_at text es k → Puts text es k v (set_value text es k v)
  set_puts [] k v old found = absurd (search rules)
  set_puts (e ∷ es) k v old found =
      elim (cases_Bool (bytes_eq (text e.key) k)) [
        | inl y ↦ put_here e es k v y
        | inr n ↦ put_later e es k v n (set_puts es k v old (rw n at found))
      ]
