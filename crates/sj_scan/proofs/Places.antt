-- From one place of a text to the next.
use Rattle.std.proofs.Common.{◌≡◌, ℕ, zero, suc, ◌+◌, ◌<◌, Bool, true, false, ◌||◌, List, [], ◌∷◌, ◌++◌, length, get_or, take, refl, sym, ap, ◌∙◌, arith, reverse, add-one, append-nil}
use Rattle.std.proofs.Math.Seq.{take-suc, take-length}
use Rattle.std.proofs.lemmas.List.{reverse-append}
use Rattle.std.proofs.lemmas.List.Elements.{filter-append}
use Rattle.std.proofs.lemmas.List.Folds.{list_any-append}
use Rattle.std.specs.Prelude.{slice_index, filter}
use Rattle.std.specs.List.{range_with_len, list_any}
use Rattle.sj_scan.specs.Positions.{before}

-- one more number
range_with_len-suc : (a n : ℕ) → range_with_len a (suc n) ≡ range_with_len a n ++ (a + n) ∷ []
range_with_len-suc a zero = ap (λ (k : ℕ). k ∷ []) (omega arith)
range_with_len-suc a (suc n) =
    let same : (a + 1) + n ≡ a + suc n = omega arith in
    ap (λ (ks : List ℕ). a ∷ ks) (range_with_len-suc (a + 1) n ∙ ap (λ (k : ℕ). range_with_len (a + 1) n ++ k ∷ []) same)

pub range_with_len-more : (n : ℕ) → range_with_len 0 (n + 1) ≡ range_with_len 0 n ++ n ∷ []
range_with_len-more n = let same : 0 + n ≡ n = omega arith in rw add-one (range_with_len-suc 0 n ∙ ap (λ (k : ℕ). range_with_len 0 n ++ k ∷ []) same)

-- one more place that passes the test, or that fails it
pub filter-passes : (p : ℕ → Bool) (n : ℕ) (found : List ℕ) → found ≡ filter p (range_with_len 0 n) → p n ≡ true → found ++ n ∷ [] ≡ filter p (range_with_len 0 (n + 1))
filter-passes p n found so_far passes =
    rw (range_with_len-more n, filter-append p, passes, so_far) refl

pub filter-fails : (p : ℕ → Bool) (n : ℕ) (found : List ℕ) → found ≡ filter p (range_with_len 0 n) → p n ≡ false → found ≡ filter p (range_with_len 0 (n + 1))
filter-fails p n found so_far fails =
    rw (range_with_len-more n, filter-append p, fails) (so_far ∙ sym (append-nil (filter p (range_with_len 0 n))))

or-false : (b : Bool) → (b || false) ≡ b
or-false true = refl
or-false false = refl

-- whether one of the places passes the test
pub list_any-more : (p : ℕ → Bool) (n : ℕ) (found now : Bool) → found ≡ list_any p (range_with_len 0 n) → now ≡ p n → (found || now) ≡ list_any p (range_with_len 0 (n + 1))
list_any-more p n found now so_far is =
    rw (range_with_len-more n, list_any-append p, so_far, is) (ap (λ (b : Bool). list_any p (range_with_len 0 n) || b) (sym (or-false (p n))))

-- the byte at the place comes to the front
pub before-more : (bytes : List ℕ) (place : ℕ) → place < length bytes → before bytes (place + 1) ≡ slice_index bytes place ∷ before bytes place
before-more bytes place h = rw add-one (ap reverse (take-suc bytes place 0 h) ∙ reverse-append (take place bytes) (get_or bytes place 0 ∷ []))

-- all bytes stand before the end
pub before-all : (bytes : List ℕ) → before bytes (length bytes) ≡ reverse bytes
before-all bytes = ap reverse (take-length bytes)
