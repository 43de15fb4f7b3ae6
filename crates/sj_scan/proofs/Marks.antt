-- Masks, through each operation on words: which places they mark.
use Rattle.std.proofs.Common.{◌≡◌, ℕ, zero, suc, ◌-◌, ◌*◌, ◌%◌, ◌^◌, ◌<◌, Bool, true, false, not, ◌&&◌, ◌||◌, refl, sym, ap, ap₂, ◌∙◌, arith, pow_pos, mod-lt, bit_and, bit_or, bit_xor}
use lib.Bits.{and_le_l, or_lt, xor_lt}
use Rattle.sj_scan.specs.inside.Masks.{is_set, Marks, differ, first_if, all_if}
use Rattle.sj_scan.proofs.Words.{is_set-and, is_set-or, is_set-xor, is_set-not, is_set-shl_suc, is_set-shl_zero, first_if-zero, first_if-suc, first_if-fits, is_set-all_if, all_if-fits}

pub Marks-itself : (a : ℕ) → a < 2 ^ 64 → Marks a (is_set a)
Marks-itself a fits = record { fits = fits; bits = λ place within. refl }

pub Marks-agree : {a : ℕ} (p q : ℕ → Bool) → ((place : ℕ) → place < 64 → p place ≡ q place) → Marks a p → Marks a q
Marks-agree p q same m = record { fits = m.fits; bits = λ place within. m.bits place within ∙ same place within }

pub Marks-and : {a b : ℕ} {p q : ℕ → Bool} → Marks a p → Marks b q → Marks (bit_and a b) (λ place. p place && q place)
Marks-and {a} {b} {p} {q} m n = record {
  fits = let less = and_le_l a b in let fits = m.fits in omega arith;
  bits = λ place within. is_set-and a b place ∙ ap₂ (λ x y. x && y) (m.bits place within) (n.bits place within);
}

pub Marks-or : {a b : ℕ} {p q : ℕ → Bool} → Marks a p → Marks b q → Marks (bit_or a b) (λ place. p place || q place)
Marks-or {a} {b} {p} {q} m n = record {
  fits = or_lt 64 a b m.fits n.fits;
  bits = λ place within. is_set-or a b place ∙ ap₂ (λ x y. x || y) (m.bits place within) (n.bits place within);
}

pub Marks-xor : {a b : ℕ} {p q : ℕ → Bool} → Marks a p → Marks b q → Marks (bit_xor a b) (λ place. differ (p place) (q place))
Marks-xor {a} {b} {p} {q} m n = record {
  fits = xor_lt 64 a b m.fits n.fits;
  bits = λ place within. is_set-xor a b place ∙ ap₂ differ (m.bits place within) (n.bits place within);
}

pub Marks-not : {a : ℕ} {p : ℕ → Bool} → Marks a p → Marks (2 ^ 64 - 1 - a) (λ place. not (p place))
Marks-not {a} {p} m = record {
  fits = omega arith;
  bits = λ place within. is_set-not a place m.fits within ∙ ap not (m.bits place within);
}

pub Marks-first_if : (b : Bool) (p : ℕ → Bool) → b ≡ p 0 → ((place : ℕ) → place < 63 → p (suc place) ≡ false) → Marks (first_if b) p
Marks-first_if b p first others = record { fits = first_if-fits b; bits = go }
  where
    go : (place : ℕ) → place < 64 → is_set (first_if b) place ≡ p place
    go zero within = first_if-zero b ∙ first
    go (suc place) within = first_if-suc b place ∙ sym (others place (omega arith))

pub Marks-all_if : (b : Bool) → Marks (all_if b) (λ place. b)
Marks-all_if b = record { fits = all_if-fits b; bits = is_set-all_if b }

-- moved by one place, with a carry at the first
pub Marks-shifted : {a : ℕ} (b : Bool) (p : ℕ → Bool) → b ≡ p 0 → Marks a (λ place. p (suc place)) → Marks (bit_or (a * 2 % 2 ^ 64) (first_if b)) p
Marks-shifted {a} b p first m = record { fits = or_lt 64 (a * 2 % 2 ^ 64) (first_if b) (mod-lt (a * 2) (pow_pos 64)) (first_if-fits b); bits = go }
  where
    or-false : (x : Bool) → (x || false) ≡ x
    or-false true = refl
    or-false false = refl

    go : (place : ℕ) → place < 64 → is_set (bit_or (a * 2 % 2 ^ 64) (first_if b)) place ≡ p place
    go zero within = is_set-or (a * 2 % 2 ^ 64) (first_if b) 0 ∙ ap₂ (λ x y. x || y) (is_set-shl_zero a) (first_if-zero b) ∙ first
    go (suc place) within =
        is_set-or (a * 2 % 2 ^ 64) (first_if b) (suc place) ∙ ap₂ (λ x y. x || y) (is_set-shl_suc a place within) (first_if-suc b place)
        ∙ or-false (is_set a place) ∙ m.bits place (omega arith)
