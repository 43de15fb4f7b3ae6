-- The places of bytes that are below or above another, from lanes that are compared.
use Rattle.std.specs.Prelude.{◌≡◌, ◌↔◌, ℕ, zero, suc, ◌<◌, ◌%◌, ◌^◌, nat_lt, Bool, true, false, cond, List, [], ◌∷◌, length, slice_index, map}
use Rattle.std.proofs.Common.{get_or, replicate, refl, sym, ap, ◌∙◌, subst, arith, inl, inr}
use Rattle.std.proofs.lemmas.List.{length-map}
use Rattle.std.proofs.lemmas.Bool.{cases_Bool}
use Rattle.std.proofs.lemmas.Simd.{length-zip2, get_or-zip2, get_or-replicate, length-replicate, bit_mask_l, mask_l-mod}
use lib.Lanes.{zip2, mask_l, top}
use Rattle.sj_parse.specs.inside.Blocks.{Places}

abbrev bit : Bool → ℕ
bit b = cond b 1 0

-- a lane that passes a test, and its bit
lane : (test : ℕ → Bool) (lanes : List ℕ) (k : ℕ) → (bit (get_or (map test lanes) k false) ≡ 1) ↔ ((k < length lanes) × (test (get_or lanes k 0) ≡ true))
lane test [] k = (λ e. absurd (omega (arith, e)), λ p. absurd (omega (arith, p.0)))
lane test (x ∷ xs) zero = elim (cases_Bool (test x)) [
  | inl e ↦ rw e (λ same. (omega arith, refl), λ p. refl)
  | inr e ↦ rw e (λ same. absurd (omega (arith, same)), λ p. absurd cc)
]
lane test (x ∷ xs) (suc k) =
    let p = lane test xs k in
    (λ e. let q = p.0 e in (omega (arith, q.0), q.1), λ q. p.1 (omega (arith, q.0), q.1))

-- The highest bit of each lane tells whether its byte passes the test.
places-lanes : (test : ℕ → Bool) (block lanes : List ℕ) → length lanes ≡ 32 → ((k : ℕ) → k < 32 → top 7 (get_or lanes k 0) ≡ test (slice_index block k)) → Places test block (mask_l (map (top 7) lanes) % 2 ^ 64)
places-lanes test block lanes long same = subst (λ m. Places test block m) (sym (mask_l-mod (map (top 7) lanes) 64 (omega (arith, long, length-map lanes (top 7))))) (record {
  bits = λ k.
      let bits = bit_mask_l (map (top 7) lanes) k in
      let p = lane (top 7) lanes k in (
        λ e. let q = p.0 (sym bits ∙ e) in let within : k < 32 = omega (arith, q.0, long) in (within, sym (same k within) ∙ q.1),
        λ q. bits ∙ p.1 (omega (arith, q.0, long), same k q.0 ∙ q.1),
      );
})

-- A comparison whose lanes tell which number is less.
pub places-below : (op : ℕ → ℕ → ℕ) → ((a b : ℕ) → top 7 (op a b) ≡ nat_lt a b) → (byte : ℕ) (block : List ℕ) → length block ≡ 32 → Places (λ b. nat_lt b byte) block (mask_l (map (top 7) (zip2 op block (replicate 32 byte))) % 2 ^ 64)
places-below op less byte block long =
    let size = length-replicate 32 byte in
    places-lanes (λ b. nat_lt b byte) block (zip2 op block (replicate 32 byte)) (length-zip2 op block (replicate 32 byte) (long ∙ sym size) ∙ long)
    (λ k h. ap (top 7) (get_or-zip2 op block (replicate 32 byte) k 0 0 0 (omega (arith, long, h)) (omega (arith, size, h)) ∙ ap (op (slice_index block k)) (get_or-replicate 32 k byte 0 h)) ∙ less (slice_index block k) byte)

pub places-above : (op : ℕ → ℕ → ℕ) → ((a b : ℕ) → top 7 (op a b) ≡ nat_lt a b) → (byte : ℕ) (block : List ℕ) → length block ≡ 32 → Places (λ b. nat_lt byte b) block (mask_l (map (top 7) (zip2 op (replicate 32 byte) block)) % 2 ^ 64)
places-above op less byte block long =
    let size = length-replicate 32 byte in
    places-lanes (λ b. nat_lt byte b) block (zip2 op (replicate 32 byte) block) (length-zip2 op (replicate 32 byte) block (size ∙ sym long) ∙ size)
    (λ k h. ap (top 7) (get_or-zip2 op (replicate 32 byte) block k 0 0 0 (omega (arith, size, h)) (omega (arith, long, h)) ∙ ap (λ n. op n (slice_index block k)) (get_or-replicate 32 k byte 0 h)) ∙ less byte (slice_index block k))

pub top-cond : (b : Bool) → top 7 (cond b 255 0) ≡ b
top-cond true = refl
top-cond false = refl
