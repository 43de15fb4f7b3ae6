use Rattle.std.specs.Prelude.{◌≡◌, ◌↔◌, ℕ, zero, suc, ◌<◌, Bool, false, cond, List, [], ◌∷◌, length, slice_index, map}
use Rattle.std.specs.Int.{bit_at}
use Rattle.std.proofs.Common.{eqb, get_or, refl, sym, ap, ◌∙◌, arith, w8, inl, inr}
use Rattle.std.proofs.lemmas.Bool.{cases_Bool, eq-eqb, eqb-true, eqb-false}
use Rattle.std.proofs.lemmas.Simd.{bitmask_splat, bit_mask_l}
use Rattle.sj_parse.proofs.search.equal_to.Goals as goal

abbrev bit : Bool → ℕ
bit b = cond b 1 0

-- a place of the byte in a list
IsPlace : ℕ → List ℕ → ℕ → Type 0
IsPlace byte xs k = (k < length xs) × (slice_index xs k ≡ byte)

place : (byte : ℕ) (xs : List ℕ) (k : ℕ) → (bit (get_or (map (λ x. eqb x byte) xs) k false) ≡ 1) ↔ IsPlace byte xs k
unfolding IsPlace
place byte [] k = (λ e. absurd (omega (arith, e)), λ p. absurd (omega (arith, p.0)))
place byte (x ∷ xs) zero = elim (cases_Bool (eqb x byte)) [
  | inl e ↦ rw e (λ same. (omega arith, eqb-true x byte e), λ p. refl)
  | inr e ↦ rw e (λ same. absurd (omega (arith, same)), λ p. absurd (eqb-false x byte e p.1))
]
place byte (x ∷ xs) (suc k) =
    let p = place byte xs k in
    (λ e. let q = p.0 e in (omega (arith, q.0), q.1), λ q. p.1 (omega (arith, q.0), q.1))

pub returns : goal.returns
unfolding IsPlace
returns c = record {
  bits = λ k.
      let block = c.args.block in
      let bits = ap (λ n. bit_at n k) (bitmask_splat w8 eqb block 32 c.args.byte c.fits-block.0 (omega arith)) ∙ bit_mask_l (map (λ x. eqb x c.args.byte) block) k in
      let p = place c.args.byte block k in
      (λ e. let q = p.0 (sym bits ∙ e) in (omega (arith, q.0, c.fits-block.0), eq-eqb (slice_index block k) c.args.byte q.1), λ q. bits ∙ p.1 (omega (arith, q.0, c.fits-block.0), eqb-true (slice_index block k) c.args.byte q.1));
}
