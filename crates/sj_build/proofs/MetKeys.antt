-- A member that is added has its key met, and no other key.
use Rattle.std.proofs.Common.{◌≡◌, Bool, true, false, cond, ◌||◌, ◌<◌, ℕ, zero, suc, List, [], ◌∷◌, length, get_or, set, bytes_eq, Option, Some, None, IfSome, refl, sym, ap, ◌∙◌}
use Rattle.std.proofs.lemmas.Bool.{false≢true}
use Rattle.std.proofs.lemmas.List.{get_or-set_same, length-set}
use Rattle.std.proofs.lemmas.Slice.Eq.{bytes_eq-Decides}
use Rattle.sj_base.specs.Tree.{Tree, Members}
use Rattle.sj_build.specs.inside.Kept.{Knows, has_key, with_last, add_member, mark_of}
use Rattle.sj_build.specs.declared.build.MetKeys.{MetKeys}
use Rattle.sj_build.proofs.Kept.{has_key-with_last}

or-cond : (a b : Bool) → (a || b) ≡ cond b true a
or-cond true true = refl
or-cond true false = refl
or-cond false true = refl
or-cond false false = refl

module _ (ms : Members) (k : List ℕ) (t : Tree) (q : List ℕ) where
  had : has_key ms k ≡ true → (b : Bool) → bytes_eq k q ≡ b → has_key ms q ≡ cond b true (has_key ms q)
  had there true same = ap (has_key ms) (sym ((bytes_eq-Decides k q).0 same)) ∙ there
  had there false other = refl

  added_at : (b : Bool) → has_key ms k ≡ b → has_key (cond b ms (with_last ms k t)) q ≡ cond (bytes_eq k q) true (has_key ms q)
  added_at true there = had there (bytes_eq k q) refl
  added_at false new = has_key-with_last ms k t q ∙ or-cond (has_key ms q) (bytes_eq k q)

  -- the members have one key more
  pub has_key-add_member : has_key (add_member ms k t) q ≡ cond (bytes_eq k q) true (has_key ms q)
  has_key-add_member = added_at (has_key ms k) refl

-- A key is new if no key has its mark.
pub not_met : (met mark : Bool) → (met ≡ true → mark ≡ true) → mark ≡ false → false ≡ met
not_met true mark has none = absurd (false≢true (sym none ∙ has refl))
not_met false mark has none = refl

stays_marked : (marks : List Bool) (i j : ℕ) → get_or marks j false ≡ true → get_or (set marks i true) j false ≡ true
stays_marked [] i j e = e
stays_marked (m ∷ marks) zero zero e = refl
stays_marked (m ∷ marks) zero (suc j) e = e
stays_marked (m ∷ marks) (suc i) zero e = e
stays_marked (m ∷ marks) (suc i) (suc j) e = stays_marked marks i j e

module _ (marks : List Bool) (ms : Members) (k : List ℕ) (t : Tree) (within : mark_of k < length marks) (old : (q : List ℕ) → has_key ms q ≡ true → get_or marks (mark_of q) false ≡ true) (q : List ℕ) where
  marked_at : (b : Bool) → bytes_eq k q ≡ b → cond b true (has_key ms q) ≡ true → get_or (set marks (mark_of k) true) (mark_of q) false ≡ true
  marked_at true same has = ap (λ p. get_or (set marks (mark_of k) true) (mark_of p) false) (sym ((bytes_eq-Decides k q).0 same)) ∙ get_or-set_same marks (mark_of k) true false within
  marked_at false other has = stays_marked marks (mark_of k) (mark_of q) (old q has)

  -- with its mark, the added key is marked as those before it are
  marked : has_key (add_member ms k t) q ≡ true → get_or (set marks (mark_of k) true) (mark_of q) false ≡ true
  marked has = marked_at (bytes_eq k q) refl (sym (has_key-add_member ms k t q) ∙ has)

-- nothing is said of keys that are not listed
unlisted : {A : Type 0} (P : A → Type 0) (o : Option A) → o ≡ None → IfSome o P
unlisted P None none = tt
unlisted P (Some x) none = absurd cc

-- where no set lists the keys, the mark of the added key is all that changes
pub marked_knows : (met : MetKeys) (ms : Members) (k : List ℕ) (t : Tree) (i : ℕ) → met.listed ≡ None → Knows met ms → i ≡ mark_of k → i < length met.marks → Knows (record met { marks = set met.marks i true }) (add_member ms k t)
marked_knows met ms k t i none knows is within = (
  unlisted _ met.listed none,
  length-set met.marks i true ∙ knows.1,
  λ same q has. rw is (marked met.marks ms k t (rw is at within) (knows.2 none) q has),
)
