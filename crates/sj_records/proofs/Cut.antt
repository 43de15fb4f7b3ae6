-- Lines of a stream that comes in pieces.
use Rattle.std.proofs.Common.{◌≡◌, ℕ, Bool, true, false, cond, eqb, List, [], ◌∷◌, ◌++◌, ◌≢◌, refl, ap, ap₂, ◌∙◌, arith}
use Rattle.std.proofs.lemmas.Bool.{eqb-false}
use Rattle.sj_records.specs.Lines.{ended, unended, if_any, onto_first, onto_last}
use Rattle.sj_records.specs.inside.Progress.{HasNoLineFeed}

-- a test that fails
not_line_feed : (b : ℕ) → (b ≡ 0x0a → ⊥) → eqb b 0x0a ≡ false
not_line_feed b h = grind arith

pub ended-none : (bs : List ℕ) → HasNoLineFeed bs → ended bs ≡ []
ended-none [] h = refl
ended-none (b ∷ bs) h = rw (not_line_feed b h.0, ended-none bs h.1) refl

pub unended-none : (bs : List ℕ) → HasNoLineFeed bs → unended bs ≡ bs
unended-none [] h = refl
unended-none (b ∷ bs) h = rw (not_line_feed b h.0, ended-none bs h.1, unended-none bs h.1) refl

HasNoLineFeed-onto_last : (b : ℕ) (t : Bool) (ls : List (List ℕ)) (rest : List ℕ) → eqb b 0x0a ≡ t → HasNoLineFeed rest → HasNoLineFeed (cond t rest (onto_last b ls rest))
HasNoLineFeed-onto_last b true ls rest e h = h
HasNoLineFeed-onto_last b false [] rest e h = (eqb-false b 0x0a e, h)
HasNoLineFeed-onto_last b false (l ∷ ls) rest e h = h

-- no line feed stands in what none ends
pub unended-HasNoLineFeed : (bs : List ℕ) → HasNoLineFeed (unended bs)
unended-HasNoLineFeed [] = tt
unended-HasNoLineFeed (b ∷ bs) = HasNoLineFeed-onto_last b (eqb b 0x0a) (ended bs) (unended bs) refl (unended-HasNoLineFeed bs)

-- joined pieces have none where neither has one
pub HasNoLineFeed-append : (xs ys : List ℕ) → HasNoLineFeed xs → HasNoLineFeed ys → HasNoLineFeed (xs ++ ys)
HasNoLineFeed-append [] ys h k = k
HasNoLineFeed-append (x ∷ xs) ys h k = (h.0, HasNoLineFeed-append xs ys h.1 k)

-- a line, its line feed, and more
pub ended-cut : (line more : List ℕ) → HasNoLineFeed line → ended (line ++ 0x0a ∷ more) ≡ line ∷ ended more
ended-cut [] more h = refl
ended-cut (b ∷ line) more h = rw (not_line_feed b h.0, ended-cut line more h.1) refl

pub unended-cut : (line more : List ℕ) → HasNoLineFeed line → unended (line ++ 0x0a ∷ more) ≡ unended more
unended-cut [] more h = refl
unended-cut (b ∷ line) more h = rw (not_line_feed b h.0, ended-cut line more h.1, unended-cut line more h.1) refl

-- one more byte in front of what was cut so far
ended_step : (b : ℕ) (t : Bool) (e r : List (List ℕ)) (u ys : List ℕ) → eqb b 0x0a ≡ t → r ≡ e ++ ended (u ++ ys)
    → cond t ([] ∷ r) (onto_first b r) ≡ cond t ([] ∷ e) (onto_first b e) ++ ended (cond t u (onto_last b e u) ++ ys)
ended_step b true e r u ys is so_far = ap (λ ls. [] ∷ ls) so_far
ended_step b false [] r u ys is so_far = rw is (ap (onto_first b) so_far)
ended_step b false (l ∷ ls) r u ys is so_far = ap (onto_first b) so_far

unended_step : (b : ℕ) (t : Bool) (e r : List (List ℕ)) (u v ys : List ℕ) → eqb b 0x0a ≡ t → r ≡ e ++ ended (u ++ ys) → v ≡ unended (u ++ ys)
    → cond t v (onto_last b r v) ≡ unended (cond t u (onto_last b e u) ++ ys)
unended_step b true e r u v ys is so_far rest = rest
unended_step b false [] r u v ys is so_far rest = rw is (ap₂ (onto_last b) so_far rest)
unended_step b false (l ∷ ls) r u v ys is so_far rest = ap (λ x. onto_last b x v) so_far ∙ rest

-- a piece goes on where the one before it stopped
pub ended-append : (xs ys : List ℕ) → ended (xs ++ ys) ≡ ended xs ++ ended (unended xs ++ ys)
ended-append [] ys = refl
ended-append (b ∷ xs) ys = ended_step b (eqb b 0x0a) (ended xs) (ended (xs ++ ys)) (unended xs) ys refl (ended-append xs ys)

pub unended-append : (xs ys : List ℕ) → unended (xs ++ ys) ≡ unended (unended xs ++ ys)
unended-append [] ys = refl
unended-append (b ∷ xs) ys = unended_step b (eqb b 0x0a) (ended xs) (ended (xs ++ ys)) (unended xs) (unended (xs ++ ys)) ys refl (ended-append xs ys) (unended-append xs ys)

-- A part that is not empty is a line.
pub if_any-some : (bs : List ℕ) → bs ≢ [] → if_any bs ≡ bs ∷ []
if_any-some [] some = absurd (some refl)
if_any-some (b ∷ bs) some = refl
