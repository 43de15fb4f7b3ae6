-- Pairs go into chains, and look-ups find them there.
use Rattle.std.proofs.Common.{◌≡◌, ◌≢◌, ℕ, zero, suc, ◌-◌, ◌<◌, ◌≤◌, ◌⊎◌, Bool, true, false, List, [], ◌∷◌, ◌++◌, ◌+◌, length, map, set, take, drop, replicate, get_or, slice_get, Option, Some, None, refl, sym, subst, ap, ap₂, ◌∙◌, inl, inr, arith, length-append}
use Rattle.std.specs.Borrow.{Bor}
use Rattle.std.specs.List.{insert, remove}
use Rattle.std.specs.Slice.{IsGetResult}
use Rattle.std.specs.Option.{option_copied}
use Rattle.std.specs.Prelude.{◌*◌, ◌^◌, bytes_eq, eqb, ◌&&◌, ◌||◌, ltb}
use native.Mathlib.Nat as nat
use Rattle.std.proofs.lemmas.Nat.{mod_below, div_below}
use Rattle.std.proofs.lemmas.List.{length-set, length-map, length-take-le, get_or-map, map-append, append-nil, take_all, drop_all, take-map, drop-map, take_more, take_more_set}
use Rattle.std.proofs.lemmas.Bool.{ltb-true, lt-ltb, cases_Bool, or_left, or_right, and_from, and_parts, false≢true}
use Rattle.std.proofs.lemmas.Bool.Decides.{eqb_tells}
use Rattle.std.proofs.lemmas.Slice.Eq.{bytes_eq-Decides}
use Rattle.std.proofs.Math.Seq.{get_or-set_same, get_or-set_other}
use Rattle.sj_object.specs.Hash.{text_hash}
use Rattle.sj_object.specs.Pairs.{keys_of, place_of, has_text, AreDistinct}
use Rattle.sj_object.specs.declared.entry.Entry.{Entry}
use Rattle.sj_object.specs.declared.table.Link.{Link}
use Rattle.sj_object.specs.declared.table.Table.{Table}
use Rattle.sj_object.specs.inside.Chains.{mixed, home, head_of, has_hash, next_of, reaches, stands, belongs, AreChained, HaveHashes, IsTable, has_key, sought}
use Rattle.sj_object.proofs.Places.{at_place, some_same, none_some}

-- The chain of a hash is one of the chains.
pub home_below : (n h : ℕ) → 0 < n → home n h < n
home_below n h some =
    let small : mixed h < 2 ^ 64 = mod_below (h * 0x9e3779b97f4a7c15) (2 ^ 64) (omega arith) in
    div_below (mixed h * n) (2 ^ 64) n (omega arith) (subst (λ m. mixed h * n < m) (nat.mul_comm (2 ^ 64) n) (nat.mul-lt-mul_of_pos_right {k = n} small some))

-- ---- one link more

module _ {X : Type 0} where
  get-more : (xs : List X) (x : X) (i : ℕ) (y : X) → slice_get xs i ≡ Some y → slice_get (xs ++ x ∷ []) i ≡ Some y
  get-more [] x i y e = absurd (none_some y e)
  get-more (z ∷ xs) x zero y e = e
  get-more (z ∷ xs) x (suc i) y e = get-more xs x i y e

  get-last : (xs : List X) (x : X) → slice_get (xs ++ x ∷ []) (length xs) ≡ Some x
  get-last [] x = refl
  get-last (z ∷ xs) x = get-last xs x

  -- an item is one of the others, or the last
  get-cases : (xs : List X) (x : X) (i : ℕ) (y : X) → slice_get (xs ++ x ∷ []) i ≡ Some y → (slice_get xs i ≡ Some y) ⊎ ((i ≡ length xs) × (x ≡ y))
  get-cases [] x zero y e = inr (refl, some_same x y e)
  get-cases [] x (suc i) y e = absurd (none_some y e)
  get-cases (z ∷ xs) x zero y e = inl e
  get-cases (z ∷ xs) x (suc i) y e = elim (get-cases xs x i y e) [
    | inl h ↦ inl h
    | inr h ↦ inr (ap (λ n. suc n) h.0, h.1)
  ]

same_eqb : (n : ℕ) → eqb n n ≡ true
same_eqb n = elim (eqb_tells n n) [ inl t ↦ t.0 | inr f ↦ absurd (f.1 refl) ]

same_of_eqb : (a b : ℕ) → eqb a b ≡ true → a ≡ b
same_of_eqb a b e = elim (eqb_tells a b) [ inl t ↦ t.1 | inr f ↦ absurd (false≢true (sym f.0 ∙ e)) ]

or_second : (a b c : Bool) → (b ≡ true → c ≡ true) → a || b ≡ true → a || c ≡ true
or_second true b c f h = refl
or_second false b c f h = f h

reaches-none : (n : ℕ) (ls : List Link) (p : ℕ) → reaches n ls None p ≡ true → ⊥
reaches-none zero ls p r = false≢true r
reaches-none (suc n) ls p r = false≢true r

-- one comes to a place as well with a step more
reaches-suc : (n : ℕ) (ls : List Link) (at : Option ℕ) (p : ℕ) → reaches n ls at p ≡ true → reaches (suc n) ls at p ≡ true
reaches-suc zero ls at p r = absurd (false≢true r)
reaches-suc (suc n) ls None p r = absurd (false≢true r)
reaches-suc (suc n) ls (Some i) p r = or_second (eqb i p) (reaches n ls (next_of (slice_get ls i)) p) (reaches (suc n) ls (next_of (slice_get ls i)) p) (reaches-suc n ls (next_of (slice_get ls i)) p) r

module _ (ls : List Link) (x : Link) where
  next-more : (n i p : ℕ) → ((at : Option ℕ) → reaches n ls at p ≡ true → reaches n (ls ++ x ∷ []) at p ≡ true) → (o : Option Link) → slice_get ls i ≡ o
      → reaches n ls (next_of (slice_get ls i)) p ≡ true → reaches n (ls ++ x ∷ []) (next_of (slice_get (ls ++ x ∷ []) i)) p ≡ true
  next-more n i p rest None e r = absurd (reaches-none n ls p (rw e at r))
  next-more n i p rest (Some l) e r = rw (get-more ls x i l e) (rest l.next (rw e at r))

  -- and with a link more
  reaches-more : (n : ℕ) (at : Option ℕ) (p : ℕ) → reaches n ls at p ≡ true → reaches n (ls ++ x ∷ []) at p ≡ true
  reaches-more zero at p r = absurd (false≢true r)
  reaches-more (suc n) None p r = absurd (false≢true r)
  reaches-more (suc n) (Some i) p r =
      or_second (eqb i p) (reaches n ls (next_of (slice_get ls i)) p) (reaches n (ls ++ x ∷ []) (next_of (slice_get (ls ++ x ∷ []) i)) p) (next-more n i p (λ at. reaches-more n at p) (slice_get ls i) refl) r

  -- what is true of the link at a place stays true of it
  holds-more : (f : Option Link → Bool) → f None ≡ false → (p : ℕ) → f (slice_get ls p) ≡ true → f (slice_get (ls ++ x ∷ []) p) ≡ true
  holds-more f none p t = by_link (slice_get ls p) refl
    where
      by_link : (o : Option Link) → slice_get ls p ≡ o → f (slice_get (ls ++ x ∷ []) p) ≡ true
      by_link None e = absurd (false≢true (sym none ∙ (rw e at t)))
      by_link (Some l) e = rw (get-more ls x p l e) (rw e at t)

  has_hash-more : (h p : ℕ) → has_hash (slice_get ls p) h ≡ true → has_hash (slice_get (ls ++ x ∷ []) p) h ≡ true
  has_hash-more h p t = holds-more (λ o. has_hash o h) refl p t

  belongs-more : (n p h : ℕ) → belongs n (slice_get ls p) h ≡ true → belongs n (slice_get (ls ++ x ∷ []) p) h ≡ true
  belongs-more n p h t = holds-more (λ o. belongs n o h) refl p t

-- what belongs to a chain is a link
belongs-within : (n : ℕ) (ls : List Link) (i h : ℕ) → belongs n (slice_get ls i) h ≡ true → i < length ls
belongs-within n [] i h t = absurd (false≢true t)
belongs-within n (l ∷ ls) zero h t = omega arith
belongs-within n (l ∷ ls) (suc i) h t = omega (arith, belongs-within n ls i h t)

belongs-same : (n : ℕ) (o : Option Link) (g h : ℕ) → home n g ≡ home n h → belongs n o h ≡ true → belongs n o g ≡ true
belongs-same n None g h e t = absurd (false≢true t)
belongs-same n (Some l) g h e t = rw e t

-- ---- a pair more

module _ (heads : List (Option ℕ)) (ls : List Link) (h : ℕ) (some : home (length heads) h < length heads) (size : length (set heads (home (length heads) h) (Some (length ls))) ≡ length heads) where
  abbrev new_heads : List (Option ℕ)
  new_heads = set heads (home (length heads) h) (Some (length ls))

  abbrev new_links : List Link
  new_links = ls ++ (record { hash = h; next = head_of heads h }) ∷ []

  one_more : length new_links ≡ suc (length ls)
  one_more = omega (arith, length-append ls ((record { hash = h; next = head_of heads h }) ∷ []))

  head-same : (g : ℕ) → home (length heads) g ≡ home (length heads) h → head_of new_heads g ≡ Some (length ls)
  head-same g e = ap (λ n. get_or new_heads (home n g) None) size ∙ ap (λ i. get_or new_heads i None) e ∙ get_or-set_same heads (home (length heads) h) (Some (length ls)) None some

  head-other : (g : ℕ) → home (length heads) g ≢ home (length heads) h → head_of new_heads g ≡ head_of heads g
  head-other g n = ap (λ n. get_or new_heads (home n g) None) size ∙ get_or-set_other heads (home (length heads) h) (home (length heads) g) (Some (length ls)) None n

  -- the chain of the new link's hash goes on from there as it was
  chain : (g p : ℕ) → reaches (length ls) ls (head_of heads g) p ≡ true → reaches (suc (length ls)) new_links (head_of new_heads g) p ≡ true
  chain g p r = elim (eqb_tells (home (length heads) g) (home (length heads) h)) [
    | inl t ↦
        let old : head_of heads g ≡ head_of heads h = ap (λ i. get_or heads i None) t.1 in
        rw (head-same g t.1) (or_right (eqb (length ls) p) (reaches (length ls) new_links (next_of (slice_get new_links (length ls))) p)
        (rw (get-last ls (record { hash = h; next = head_of heads h })) (reaches-more ls (record { hash = h; next = head_of heads h }) (length ls) (head_of heads h) p (rw old at r))))
    | inr f ↦ rw (head-other g f.1) (reaches-suc (length ls) new_links (head_of heads g) p (reaches-more ls (record { hash = h; next = head_of heads h }) (length ls) (head_of heads g) p r))
  ]

  stands-more : (g p : ℕ) → stands heads ls g p ≡ true → stands new_heads new_links g p ≡ true
  stands-more g p s =
      let parts = and_parts (has_hash (slice_get ls p) g) (reaches (length ls) ls (head_of heads g) p) s in
      and_from (has_hash (slice_get new_links p) g) (reaches (length new_links) new_links (head_of new_heads g) p)
      (has_hash-more ls (record { hash = h; next = head_of heads h }) g p parts.0)
      (rw one_more (chain g p parts.1))

  stands-last : stands new_heads new_links h (length ls) ≡ true
  stands-last =
      let last = get-last ls (record { hash = h; next = head_of heads h }) in
      and_from (has_hash (slice_get new_links (length ls)) h) (reaches (length new_links) new_links (head_of new_heads h) (length ls))
      (rw last (same_eqb h))
      (rw (one_more, head-same h refl) (or_left (eqb (length ls) (length ls)) (reaches (length ls) new_links (next_of (slice_get new_links (length ls))) (length ls)) (same_eqb (length ls))))

  module _ (begins : (g i : ℕ) → head_of heads g ≡ Some i → belongs (length heads) (slice_get ls i) g ≡ true) where
    begins-more : (g i : ℕ) → head_of new_heads g ≡ Some i → belongs (length heads) (slice_get new_links i) g ≡ true
    begins-more g i e = elim (eqb_tells (home (length heads) g) (home (length heads) h)) [
      | inl t ↦
          let place : length ls ≡ i = some_same (length ls) i (sym (head-same g t.1) ∙ e) in
          rw (← place, get-last ls (record { hash = h; next = head_of heads h }), t.1, same_eqb (home (length heads) h)) refl
      | inr f ↦ belongs-more ls (record { hash = h; next = head_of heads h }) (length heads) i g (begins g i (sym (head-other g f.1) ∙ e))
    ]

    leads-more : ((p i : ℕ) (l : Link) → slice_get ls p ≡ Some l → l.next ≡ Some i → (ltb i p && belongs (length heads) (slice_get ls i) l.hash) ≡ true)
        → (p i : ℕ) (l : Link) → slice_get new_links p ≡ Some l → l.next ≡ Some i → (ltb i p && belongs (length heads) (slice_get new_links i) l.hash) ≡ true
    leads-more leads p i l e f = elim (get-cases ls (record { hash = h; next = head_of heads h }) p l e) [
      | inl old ↦
          let parts = and_parts (ltb i p) (belongs (length heads) (slice_get ls i) l.hash) (leads p i l old f) in
          and_from (ltb i p) (belongs (length heads) (slice_get new_links i) l.hash) parts.0 (belongs-more ls (record { hash = h; next = head_of heads h }) (length heads) i l.hash parts.1)
      | inr new ↦
          let first = begins h i (ap (λ (x : Link). x.next) new.1 ∙ f) in
          let own : h ≡ l.hash = ap (λ (x : Link). x.hash) new.1 in
          and_from (ltb i p) (belongs (length heads) (slice_get new_links i) l.hash)
          (lt-ltb i p (omega (arith, new.0, belongs-within (length heads) ls i h first)))
          (subst (λ k. belongs (length heads) (slice_get new_links i) k ≡ true) own (belongs-more ls (record { hash = h; next = head_of heads h }) (length heads) i h first))
    ]

-- A link that is put to the head of its hash's chain is one of a key more.
pub chained_put : (heads : List (Option ℕ)) (ls : List Link) (ks : List (List ℕ)) (k : List ℕ) (h : ℕ) → h ≡ text_hash k → AreChained heads ls ks
    → AreChained (set heads (home (length heads) h) (Some (length ls))) (ls ++ (record { hash = h; next = head_of heads h }) ∷ []) (ks ++ k ∷ [])
chained_put heads ls ks k h own is =
    let some = home_below (length heads) h (ltb-true 0 (length heads) is.0) in
    let size = length-set heads (home (length heads) h) (Some (length ls)) in (
      rw size is.0,
      omega (arith, length-append ls ((record { hash = h; next = head_of heads h }) ∷ []), is.1, length-append ks (k ∷ [])),
      λ p name e. elim (get-cases ks k p name e) [
        | inl old ↦ stands-more heads ls h some size (text_hash name) p (is.2 p name old)
        | inr new ↦
            let place : p ≡ length ls = omega (arith, new.0, is.1) in
            rw (place, ← new.1, ← own) (stands-last heads ls h some size)
      ],
      λ g i e. rw size (begins-more heads ls h some size is.3 g i e),
      λ p i l e f. rw size (leads-more heads ls h some size is.3 is.4 p i l e f),
    )

-- A table has a key more where its hash was put into the table.
pub table_put : (t u : Table) (ks : List (List ℕ)) (k : List ℕ) (h : ℕ) → h ≡ text_hash k
    → u.heads.items ≡ set t.heads.items (home (length t.heads.items) h) (Some (length t.links.items))
    → u.links.items ≡ t.links.items ++ (record { hash = h; next = head_of t.heads.items h }) ∷ []
    → IsTable t ks → IsTable u (ks ++ k ∷ [])
table_put t u ks k h own heads links is = rw (heads, links) (chained_put t.heads.items t.links.items ks k h own is)

-- ---- no pairs

no_head : (n i : ℕ) → get_or {A = Option ℕ} (replicate n None) i None ≡ None
no_head zero i = refl
no_head (suc n) zero = refl
no_head (suc n) (suc i) = no_head n i

-- No chain begins anywhere.
pub chained_none : (n : ℕ) (heads : List (Option ℕ)) → 0 < length heads → heads ≡ replicate n None → AreChained heads [] []
chained_none n heads some empty = (
  lt-ltb 0 (length heads) some,
  refl,
  λ p k e. absurd (none_some k e),
  λ h i e. absurd (none_some i (sym (ap (λ l. get_or l (home (length heads) h) None) empty ∙ no_head n (home (length heads) h)) ∙ e)),
  λ p i l e f. absurd (none_some l e),
)

-- ---- a pair less

module _ {X : Type 0} where
  get-take : (m : ℕ) (xs : List X) (i : ℕ) → i < m → slice_get (take m xs) i ≡ slice_get xs i
  get-take zero xs i w = absurd (omega arith)
  get-take (suc m) [] i w = refl
  get-take (suc m) (x ∷ xs) zero w = refl
  get-take (suc m) (x ∷ xs) (suc i) w = get-take m xs i (omega arith)

  pub get_within : (xs : List X) (i : ℕ) (d : X) → i < length xs → Some (get_or xs i d) ≡ slice_get xs i
  get_within [] i d within = absurd (omega arith)
  get_within (x ∷ xs) zero d within = refl
  get_within (x ∷ xs) (suc i) d within = get_within xs i d (omega arith)

  -- what is got of the front stands in it
  got-within : (m : ℕ) (xs : List X) (i : ℕ) (y : X) → slice_get (take m xs) i ≡ Some y → i < m
  got-within zero xs i y e = absurd (none_some y e)
  got-within (suc m) [] i y e = absurd (none_some y e)
  got-within (suc m) (x ∷ xs) zero y e = omega arith
  got-within (suc m) (x ∷ xs) (suc i) y e = omega (arith, got-within m xs i y e)

module _ (ls : List Link) (back : (p i : ℕ) (l : Link) → slice_get ls p ≡ Some l → l.next ≡ Some i → i < p) where
  next-back : (i j : ℕ) → next_of (slice_get ls i) ≡ Some j → j < i
  next-back i j e = by_link (slice_get ls i) refl
    where
      by_link : (o : Option Link) → slice_get ls i ≡ o → j < i
      by_link None none = absurd (none_some j (rw none at e))
      by_link (Some l) some = back i j l some (rw some at e)

  -- a chain goes down
  reaches-down : (n i p : ℕ) → reaches n ls (Some i) p ≡ true → p ≤ i
  reaches-down zero i p r = absurd (false≢true r)
  reaches-down (suc n) i p r = elim (eqb_tells i p) [
    | inl t ↦ omega (arith, t.1)
    | inr f ↦ by_next (next_of (slice_get ls i)) refl (λ j. reaches-down n j p) (rw f.0 at r)
  ]
    where
      by_next : (o : Option ℕ) → next_of (slice_get ls i) ≡ o → ((j : ℕ) → reaches n ls (Some j) p ≡ true → p ≤ j) → reaches n ls (next_of (slice_get ls i)) p ≡ true → p ≤ i
      by_next None e rest s = absurd (reaches-none n ls p (rw e at s))
      by_next (Some j) e rest s = omega (arith, rest j (rw e at s), next-back i j e)

  -- so from place i on it takes at most i steps and one
  reaches-steps : (n k i p : ℕ) → i < k → reaches n ls (Some i) p ≡ true → reaches k ls (Some i) p ≡ true
  reaches-steps zero k i p w r = absurd (false≢true r)
  reaches-steps (suc n) zero i p w r = absurd (omega arith)
  reaches-steps (suc n) (suc k) i p w r =
      or_second (eqb i p) (reaches n ls (next_of (slice_get ls i)) p) (reaches k ls (next_of (slice_get ls i)) p) (by_next (next_of (slice_get ls i)) refl (λ j. reaches-steps n k j p)) r
    where
      by_next : (o : Option ℕ) → next_of (slice_get ls i) ≡ o → ((j : ℕ) → j < k → reaches n ls (Some j) p ≡ true → reaches k ls (Some j) p ≡ true)
          → reaches n ls (next_of (slice_get ls i)) p ≡ true → reaches k ls (next_of (slice_get ls i)) p ≡ true
      by_next None e rest s = absurd (reaches-none n ls p (rw e at s))
      by_next (Some j) e rest s = rw e (rest j (omega (arith, w, next-back i j e)) (rw e at s))

  -- and meets none of the links above
  reaches-front : (m n i p : ℕ) → i < m → reaches n ls (Some i) p ≡ true → reaches n (take m ls) (Some i) p ≡ true
  reaches-front m zero i p w r = absurd (false≢true r)
  reaches-front m (suc n) i p w r =
      or_second (eqb i p) (reaches n ls (next_of (slice_get ls i)) p) (reaches n (take m ls) (next_of (slice_get (take m ls) i)) p) (λ s. rw (get-take m ls i w) (by_next (next_of (slice_get ls i)) refl (λ j. reaches-front m n j p) s)) r
    where
      by_next : (o : Option ℕ) → next_of (slice_get ls i) ≡ o → ((j : ℕ) → j < m → reaches n ls (Some j) p ≡ true → reaches n (take m ls) (Some j) p ≡ true)
          → reaches n ls (next_of (slice_get ls i)) p ≡ true → reaches n (take m ls) (next_of (slice_get ls i)) p ≡ true
      by_next None e rest s = absurd (reaches-none n ls p (rw e at s))
      by_next (Some j) e rest s = rw e (rest j (omega (arith, w, next-back i j e)) (rw e at s))

module _ (heads : List (Option ℕ)) (ls : List Link) (ks : List (List ℕ)) (is : AreChained heads ls ks) (m : ℕ) (count : length ls ≡ suc m) (l : Link) (last : slice_get ls m ≡ Some l) where
  abbrev less_heads : List (Option ℕ)
  less_heads = set heads (home (length heads) l.hash) l.next

  less_size : length less_heads ≡ length heads
  less_size = length-set heads (home (length heads) l.hash) l.next

  leads_back : (p i : ℕ) (x : Link) → slice_get ls p ≡ Some x → x.next ≡ Some i → i < p
  leads_back p i x e f = ltb-true i p (and_parts (ltb i p) (belongs (length heads) (slice_get ls i) x.hash) (is.4 p i x e f)).0

  less-same : (g : ℕ) → home (length heads) g ≡ home (length heads) l.hash → head_of less_heads g ≡ l.next
  less-same g e = ap (λ n. get_or less_heads (home n g) None) less_size ∙ ap (λ i. get_or less_heads i None) e
      ∙ get_or-set_same heads (home (length heads) l.hash) l.next None (home_below (length heads) l.hash (ltb-true 0 (length heads) is.0))

  less-other : (g : ℕ) → home (length heads) g ≢ home (length heads) l.hash → head_of less_heads g ≡ head_of heads g
  less-other g n = ap (λ n. get_or less_heads (home n g) None) less_size ∙ get_or-set_other heads (home (length heads) l.hash) (home (length heads) g) l.next None n

  -- another chain begins below the last link
  begins-below : (g i : ℕ) → home (length heads) g ≢ home (length heads) l.hash → head_of heads g ≡ Some i → i < m
  begins-below g i other e =
      let own = is.3 g i e in
      elim (eqb_tells i m) [
        | inl t ↦ absurd (other (sym (same_of_eqb (home (length heads) l.hash) (home (length heads) g) (rw (t.1, last) at own))))
        | inr f ↦ omega (arith, belongs-within (length heads) ls i g own, count, f.1)
      ]

  -- the last link is the first of its chain
  begins-last : (k : List ℕ) → slice_get ks m ≡ Some k → head_of heads l.hash ≡ Some m
  begins-last k e =
      let parts = and_parts (has_hash (slice_get ls m) (text_hash k)) (reaches (length ls) ls (head_of heads (text_hash k)) m) (is.2 m k e) in
      let own : l.hash ≡ text_hash k = same_of_eqb l.hash (text_hash k) (rw last at parts.0) in
      by_head (head_of heads l.hash) refl (subst (λ h. reaches (length ls) ls (head_of heads h) m ≡ true) (sym own) parts.1)
    where
      by_head : (o : Option ℕ) → head_of heads l.hash ≡ o → reaches (length ls) ls (head_of heads l.hash) m ≡ true → head_of heads l.hash ≡ Some m
      by_head None e r = absurd (reaches-none (length ls) ls m (rw e at r))
      by_head (Some i) e r =
          let low = reaches-down ls leads_back (length ls) i m (rw e at r) in
          let high = belongs-within (length heads) ls i l.hash (is.3 l.hash i e) in
          e ∙ ap (λ j. Some j) (omega (arith, low, high, count))

  -- what stands below the last link stands there without it
  stands-less : (k : List ℕ) → slice_get ks m ≡ Some k → (g p : ℕ) → p < m → stands heads ls g p ≡ true → stands less_heads (take m ls) g p ≡ true
  stands-less k key g p below s =
      let parts = and_parts (has_hash (slice_get ls p) g) (reaches (length ls) ls (head_of heads g) p) s in
      let there = reaches-below g p below (subst (λ n. reaches n ls (head_of heads g) p ≡ true) count parts.1) in
      and_from (has_hash (slice_get (take m ls) p) g) (reaches (length (take m ls)) (take m ls) (head_of less_heads g) p)
      (rw (get-take m ls p below) parts.0)
      (rw (length-take-le m ls (omega (arith, count))) there)
    where
      reaches-below : (g p : ℕ) → p < m → reaches (suc m) ls (head_of heads g) p ≡ true → reaches m (take m ls) (head_of less_heads g) p ≡ true
      reaches-below g p below r = elim (eqb_tells (home (length heads) g) (home (length heads) l.hash)) [
        | inl t ↦
            let first : head_of heads g ≡ Some m = ap (λ i. get_or heads i None) t.1 ∙ begins-last k key in
            let behind : reaches m ls (next_of (slice_get ls m)) p ≡ true = elim (eqb_tells m p) [
              | inl same ↦ absurd (omega (arith, same.1, below))
              | inr other ↦ rw other.0 at (rw first at r)
            ] in
            rw (less-same g t.1) (from_next l.next refl (rw last at behind))
        | inr f ↦ rw (less-other g f.1) (from_head (head_of heads g) refl f.1 r)
      ]
        where
          from_next : (o : Option ℕ) → l.next ≡ o → reaches m ls l.next p ≡ true → reaches m (take m ls) l.next p ≡ true
          from_next None e s = absurd (reaches-none m ls p (rw e at s))
          from_next (Some j) e s = rw e (reaches-front ls leads_back m m j p (leads_back m j l last e) (rw e at s))

          from_head : (o : Option ℕ) → head_of heads g ≡ o → home (length heads) g ≢ home (length heads) l.hash → reaches (suc m) ls (head_of heads g) p ≡ true → reaches m (take m ls) (head_of heads g) p ≡ true
          from_head None e other s = absurd (reaches-none (suc m) ls p (rw e at s))
          from_head (Some i) e other s =
              let low = begins-below g i other e in
              rw e (reaches-front ls leads_back m m i p low (reaches-steps ls leads_back (suc m) m i p low (rw e at s)))

  begins-less : (g i : ℕ) → head_of less_heads g ≡ Some i → belongs (length heads) (slice_get (take m ls) i) g ≡ true
  begins-less g i e = elim (eqb_tells (home (length heads) g) (home (length heads) l.hash)) [
    | inl t ↦
        let next : l.next ≡ Some i = sym (less-same g t.1) ∙ e in
        let own = and_parts (ltb i m) (belongs (length heads) (slice_get ls i) l.hash) (is.4 m i l last next) in
        rw (get-take m ls i (ltb-true i m own.0)) (belongs-same (length heads) (slice_get ls i) g l.hash t.1 own.1)
    | inr f ↦
        let old : head_of heads g ≡ Some i = sym (less-other g f.1) ∙ e in
        rw (get-take m ls i (begins-below g i f.1 old)) (is.3 g i old)
  ]

  leads-less : (p i : ℕ) (x : Link) → slice_get (take m ls) p ≡ Some x → x.next ≡ Some i → (ltb i p && belongs (length heads) (slice_get (take m ls) i) x.hash) ≡ true
  leads-less p i x e f =
      let below = got-within m ls p x e in
      let old : slice_get ls p ≡ Some x = sym (get-take m ls p below) ∙ e in
      rw (get-take m ls i (omega (arith, below, leads_back p i x old f))) (is.4 p i x old f)

  -- Without the last link, to which its chain's head led, the links are those of a key less.
  pub chained_pop : AreChained less_heads (take m ls) (take m ks)
  chained_pop =
      let keys : m < length ks = omega (arith, count, is.1) in
      let key = sym (get_within ks m [] keys) in (
        rw less_size is.0,
        length-take-le m ls (omega (arith, count)) ∙ sym (length-take-le m ks (omega (arith, keys))),
        λ p k e.
            let below = got-within m ks p k e in
            stands-less (get_or ks m []) key (text_hash k) p below (is.2 p k (sym (get-take m ks p below) ∙ e)),
        λ g i e. rw less_size (begins-less g i e),
        λ p i x e f. rw less_size (leads-less p i x e f),
      )

-- ---- the hashes that the links keep

have_all : (ls : List Link) (ks : List (List ℕ)) → length ls ≡ length ks
    → ((p : ℕ) (k : List ℕ) → slice_get ks p ≡ Some k → has_hash (slice_get ls p) (text_hash k) ≡ true) → HaveHashes ls ks
have_all [] [] same each = refl
have_all [] (k ∷ ks) same each = absurd (false≢true (each 0 k refl))
have_all (l ∷ ls) [] same each = absurd (omega (arith, same))
have_all (l ∷ ls) (k ∷ ks) same each = ap₂ (λ x xs. x ∷ xs) (same_of_eqb l.hash (text_hash k) (each 0 k refl)) (have_all ls ks (omega (arith, same)) (λ p. each (suc p)))

-- Chained links have the hashes of their keys.
pub have_hashes : (heads : List (Option ℕ)) (ls : List Link) (ks : List (List ℕ)) → AreChained heads ls ks → HaveHashes ls ks
have_hashes heads ls ks is = have_all ls ks is.1 (λ p k e. (and_parts (has_hash (slice_get ls p) (text_hash k)) (reaches (length ls) ls (head_of heads (text_hash k)) p) (is.2 p k e)).0)

-- A key that is put at the end stands last, and one that is taken out there leaves the others.
module _ {X : Type 0} where
  pub inserted_last : (xs : List X) (i : ℕ) (x : X) → i ≡ length xs → insert xs i x ≡ xs ++ x ∷ []
  inserted_last xs i x e = ap₂ (λ a b. a ++ x ∷ b) (take_all i xs (omega (arith, e))) (drop_all i xs (omega (arith, e)))

  pub removed_last : (xs : List X) (i : ℕ) → length xs ≡ suc i → remove xs i ≡ take i xs
  removed_last xs i e = ap (λ b. take i xs ++ b) (drop_all (suc i) xs (omega (arith, e))) ∙ append-nil (take i xs)

module _ {A B : Type 0} (f : A → B) where
  pub map-remove : (xs : List A) (i : ℕ) → map f (remove xs i) ≡ remove (map f xs) i
  map-remove xs i = map-append f (take i xs) (drop (suc i) xs) ∙ ap₂ (λ a b. a ++ b) (sym (take-map f i xs)) (sym (drop-map f (suc i) xs))

  pub map-insert : (xs : List A) (i : ℕ) (x : A) → map f (insert xs i x) ≡ insert (map f xs) i (f x)
  map-insert xs i x = map-append f (take i xs) (x ∷ drop i xs) ∙ ap₂ (λ a b. a ++ f x ∷ b) (sym (take-map f i xs)) (sym (drop-map f i xs))

pub same_length : (ls : List Link) (ks : List (List ℕ)) → HaveHashes ls ks → length ls ≡ length ks
same_length ls ks have = sym (length-map ls (λ (l : Link). l.hash)) ∙ ap length have ∙ length-map ks text_hash

-- The next link goes to the head of its hash's chain.
pub chained_next : (heads : List (Option ℕ)) (ls : List Link) (ks : List (List ℕ)) (i : ℕ) (d : Link) → i < length ls → HaveHashes ls ks
    → AreChained heads (take i ls) (take i ks)
    → AreChained (set heads (home (length heads) (get_or ls i d).hash) (Some i))
    (take (i + 1) (set ls i (record { hash = (get_or ls i d).hash; next = head_of heads (get_or ls i d).hash }))) (take (i + 1) ks)
chained_next heads ls ks i d within have is =
    let in_keys : i < length ks = omega (arith, within, same_length ls ks have) in
    let hash = (get_or ls i d).hash in
    let own : hash ≡ text_hash (get_or ks i []) =
    sym (get_or-map (λ (l : Link). l.hash) ls i d 0 within) ∙ ap (λ hs. get_or hs i 0) have ∙ get_or-map text_hash ks i [] 0 in_keys in
    rw (take_more_set ls i (record { hash = hash; next = head_of heads hash }) within, take_more ks i [] in_keys)
    (subst (λ n. AreChained (set heads (home (length heads) hash) (Some n)) (take i ls ++ (record { hash = hash; next = head_of heads hash }) ∷ []) (take i ks ++ get_or ks i [] ∷ []))
    (length-take-le i ls (omega (arith, within)))
    (chained_put heads (take i ls) (take i ks) (get_or ks i []) hash own is))

-- ---- look-ups

module _ {K V : Type 0} (text : K → List ℕ) (es : List (Entry K V)) (h : ℕ) (k : List ℕ) where
  pub sought-none : (n : ℕ) (ls : List Link) → sought text es h k n ls None ≡ None
  sought-none zero ls = refl
  sought-none (suc n) ls = refl

  -- what is found has the key
  sought-has : (n : ℕ) (ls : List Link) (at : Option ℕ) (q : ℕ) → sought text es h k n ls at ≡ Some q → has_key text es q k ≡ true
  sought-has zero ls at q e = absurd (none_some q e)
  sought-has (suc n) ls None q e = absurd (none_some q e)
  sought-has (suc n) ls (Some i) q e =
      elim (cases_Bool (has_hash (slice_get ls i) h && has_key text es i k)) [
        | inl t ↦ subst (λ j. has_key text es j k ≡ true) (some_same i q (rw t at e)) (and_parts (has_hash (slice_get ls i) h) (has_key text es i k) t).1
        | inr f ↦ sought-has n ls (next_of (slice_get ls i)) q (rw f at e)
      ]

  -- a look-up ends where there is no link, or has found the place, or goes on
  pub sought-ends : (n : ℕ) (ls : List Link) (i : ℕ) → slice_get ls i ≡ None → sought text es h k n ls (Some i) ≡ None
  sought-ends zero ls i e = refl
  sought-ends (suc n) ls i e = rw e (sought-none n ls)

  pub sought-here : (n : ℕ) (ls : List Link) (i : ℕ) (l : Link) → 0 < n → slice_get ls i ≡ Some l → l.hash ≡ h → has_key text es i k ≡ true → sought text es h k n ls (Some i) ≡ Some i
  sought-here zero ls i l some e own has = absurd (omega arith)
  sought-here (suc n) ls i l some e own has = rw (e, own, same_eqb h, has) refl

  pub sought-on : (n : ℕ) (ls : List Link) (i : ℕ) (l : Link) → 0 < n → slice_get ls i ≡ Some l → (eqb l.hash h && has_key text es i k) ≡ false → sought text es h k n ls (Some i) ≡ sought text es h k (n - 1) ls l.next
  sought-on zero ls i l some e other = absurd (omega arith)
  sought-on (suc n) ls i l some e other = let left : n ≡ suc n - 1 = omega arith in rw (e, other, ← left) refl

  -- where one comes to a pair with the key, a pair is found
  sought-finds : (n : ℕ) (ls : List Link) (at : Option ℕ) (p : ℕ) → reaches n ls at p ≡ true → has_hash (slice_get ls p) h ≡ true → has_key text es p k ≡ true → (q : ℕ) × (sought text es h k n ls at ≡ Some q)
  sought-finds zero ls at p r own has = absurd (false≢true r)
  sought-finds (suc n) ls None p r own has = absurd (false≢true r)
  sought-finds (suc n) ls (Some i) p r own has =
      elim (cases_Bool (has_hash (slice_get ls i) h && has_key text es i k)) [
        | inl t ↦ (i, rw t refl)
        | inr f ↦ elim (eqb_tells i p) [
          | inl same ↦ absurd (false≢true (sym f ∙ subst (λ j. has_hash (slice_get ls j) h && has_key text es j k ≡ true) (sym same.1) (and_from (has_hash (slice_get ls p) h) (has_key text es p k) own has)))
          | inr other ↦
              let rest = sought-finds n ls (next_of (slice_get ls i)) p (rw other.0 at r) own has in
              (rest.0, rw f rest.1)
        ]
      ]

module _ {K V : Type 0} (text : K → List ℕ) (k : List ℕ) where
  place_of-has_key : (es : List (Entry K V)) (i : ℕ) → place_of text es k ≡ Some i → has_key text es i k ≡ true
  place_of-has_key = at_place text k (λ es i. has_key text es i k ≡ true) (λ e es t. t) (λ e es i f p. p)

  place_of-has_text : (es : List (Entry K V)) (i : ℕ) → place_of text es k ≡ Some i → has_text (keys_of text es) k ≡ true
  place_of-has_text = at_place text k (λ es i. has_text (keys_of text es) k ≡ true) (λ e es t. rw t refl) (λ e es i f p. rw f p)

  place_of-key : (es : List (Entry K V)) (i : ℕ) → place_of text es k ≡ Some i → slice_get (keys_of text es) i ≡ Some k
  place_of-key = at_place text k (λ es i. slice_get (keys_of text es) i ≡ Some k) (λ e es t. ap (λ x. Some x) ((bytes_eq-Decides (text e.key) k).0 t)) (λ e es i f p. p)

  has_key-place_of : (es : List (Entry K V)) (q : ℕ) → AreDistinct (keys_of text es) → has_key text es q k ≡ true → place_of text es k ≡ Some q
  has_key-place_of [] q d h = absurd (false≢true h)
  has_key-place_of (e ∷ es) zero d h = rw h refl
  has_key-place_of (e ∷ es) (suc q) d h =
      let later = has_key-place_of es q d.1 h in
      elim (cases_Bool (bytes_eq (text e.key) k)) [
        | inl t ↦ absurd (false≢true (sym d.0 ∙ subst (λ x. has_text (keys_of text es) x ≡ true) (sym ((bytes_eq-Decides (text e.key) k).0 t)) (place_of-has_text es q later)))
        | inr f ↦ rw (f, later) refl
      ]

  -- A look-up in the chain of the key's hash answers the place of the key.
  pub look_up : (t : Table) (es : List (Entry K V)) (h : ℕ) → h ≡ text_hash k → IsTable t (keys_of text es) → AreDistinct (keys_of text es)
      → sought text es h k (length t.links.items) t.links.items (head_of t.heads.items h) ≡ place_of text es k
  look_up t es h own is distinct = by_found found refl
    where
      found : Option ℕ
      found = sought text es h k (length t.links.items) t.links.items (head_of t.heads.items h)

      none_of : (o : Option ℕ) → place_of text es k ≡ o → found ≡ None → found ≡ place_of text es k
      none_of None e none = none ∙ sym e
      none_of (Some i) e none =
          let there = subst (λ g. stands t.heads.items t.links.items g i ≡ true) (sym own) (is.2 i k (place_of-key es i e)) in
          let parts = and_parts (has_hash (slice_get t.links.items i) h) (reaches (length t.links.items) t.links.items (head_of t.heads.items h) i) there in
          let some = sought-finds text es h k (length t.links.items) t.links.items (head_of t.heads.items h) i parts.1 parts.0 (place_of-has_key es i e) in
          absurd (none_some some.0 (sym none ∙ some.1))

      by_found : (o : Option ℕ) → found ≡ o → found ≡ place_of text es k
      by_found None e = none_of (place_of text es k) refl e
      by_found (Some q) e = e ∙ sym (has_key-place_of es q distinct (sought-has text es h k (length t.links.items) t.links.items (head_of t.heads.items h) q e))

pub length-keys_of : {K V : Type 0} (text : K → List ℕ) (es : List (Entry K V)) → length (keys_of text es) ≡ length es
length-keys_of text [] = refl
length-keys_of text (e ∷ es) = ap (λ n. suc n) (length-keys_of text es)

pub keys_of-take_more : {K V : Type 0} (text : K → List ℕ) (d : Entry K V) (es : List (Entry K V)) (i : ℕ) → i < length es → keys_of text (take (suc i) es) ≡ keys_of text (take i es) ++ text (get_or es i d).key ∷ []
keys_of-take_more text d [] i within = absurd (omega arith)
keys_of-take_more text d (e ∷ es) zero within = refl
keys_of-take_more text d (e ∷ es) (suc i) within = ap (λ l. text e.key ∷ l) (keys_of-take_more text d es i (omega arith))

module _ {X : Type 0} where
  get_past : (xs : List X) (i : ℕ) → length xs ≤ i → None ≡ slice_get xs i
  get_past [] i past = refl
  get_past (x ∷ xs) zero past = absurd (omega arith)
  get_past (x ∷ xs) (suc i) past = get_past xs i (omega arith)

  pub get_found : (xs : List X) (i : ℕ) (r : Option (Bor X)) → IsGetResult xs i i r → option_copied r ≡ slice_get xs i
  get_found xs i None h = get_past xs i h.3
  get_found xs i (Some x) h = ap (λ y. Some y) h.1 ∙ get_within xs i x.now h.3.0

pub other_hash : (a b : ℕ) (x : Bool) → a ≢ b → (eqb a b && x) ≡ false
other_hash a b x other = elim (eqb_tells a b) [ inl t ↦ absurd (other t.1) | inr f ↦ rw f.0 refl ]
