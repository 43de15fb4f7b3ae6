-- Vectors that are computed lane by lane from a block, and the masks made of them.
use Rattle.std.proofs.Common.{◌≡◌, ℕ, ◌%◌, ◌^◌, ◌<◌, Bool, true, false, cond, ◌==◌, List, map, length, get_or, replicate, slice_index, refl, sym, ap, ap₂, ◌∙◌, arith, w8, Fits, pow_pos, mod-lt}
use Rattle.std.proofs.lemmas.Simd.{length-zip2, get_or-zip2, get_or-replicate, length-replicate, bit_mask_l, Each1-get_or}
use Rattle.std.proofs.lemmas.List.{get_or-map}
use Rattle.std.proofs.lemmas.Bool.{agree_below, agree_below_at}
use lib.Lanes.{zip2, mask_l, top, Each1}
use Rattle.sj_scan.specs.inside.Lanes.{Computes}
use Rattle.sj_scan.specs.inside.Masks.{is_set, Marks}
use Rattle.sj_scan.proofs.Words.{is_set-mod}

pub block_itself : (block : List ℕ) → length block ≡ 64 → Computes block block (λ byte. byte)
block_itself block long = record { long = long; at = λ place within. refl }

pub splat : (block : List ℕ) (n : ℕ) → Computes block (replicate 64 n) (λ byte. n)
splat block n = record { long = length-replicate 64 n; at = λ place within. get_or-replicate 64 place n 0 within }

pub lanewise : (op : ℕ → ℕ → ℕ) {block a b : List ℕ} {f g : ℕ → ℕ} → Computes block a f → Computes block b g → Computes block (zip2 op a b) (λ byte. op (f byte) (g byte))
lanewise op {block} {a} {b} {f} {g} m n = record {
  long = length-zip2 op a b (m.long ∙ sym n.long) ∙ m.long;
  at = λ place within.
      let long_a = m.long in
      let long_b = n.long in
      get_or-zip2 op a b place 0 0 0 (omega arith) (omega arith) ∙ ap₂ op (m.at place within) (n.at place within);
}

-- what a comparison gives at a lane
abbrev pub equal : ℕ → ℕ → ℕ
equal a b = cond (a == b) 255 0

bit_of : (b : Bool) → (cond b 1 0 == 1) ≡ b
bit_of true = refl
bit_of false = refl

is_set-mask_l : (bits : List Bool) (place : ℕ) → is_set (mask_l bits) place ≡ get_or bits place false
unfolding is_set
is_set-mask_l bits place = ap (λ n. n == 1) (bit_mask_l bits place) ∙ bit_of (get_or bits place false)

-- The mask of the lanes whose highest bit is set, where for each byte this is the test.
pub Marks-lanes : {block lanes : List ℕ} {f : ℕ → ℕ} (p : ℕ → Bool) → Computes block lanes f → (length block ≡ 64) × Each1 (Fits w8) block → ((byte : ℕ) → byte < 256 → top 7 (f byte) ≡ p byte)
    → Marks (mask_l (map (top 7) lanes) % 2 ^ 64) (λ place. p (slice_index block place))
Marks-lanes {block} {lanes} {f} p computes bytes same = record {
  fits = mod-lt (mask_l (map (top 7) lanes)) (pow_pos 64);
  bits = λ place within.
      let long = computes.long in
      let long_block = bytes.0 in
      let byte : Fits w8 (get_or block place 0) = Each1-get_or (Fits w8) block place 0 (omega arith) bytes.1 in
      is_set-mod (mask_l (map (top 7) lanes)) place within ∙ is_set-mask_l (map (top 7) lanes) place ∙ get_or-map (top 7) lanes place 0 false (omega arith)
      ∙ ap (top 7) (computes.at place within) ∙ same (get_or block place 0) byte.fits;
}

-- The same by a look at each of the 256 bytes.
pub Marks-tabled : {block lanes : List ℕ} {f : ℕ → ℕ} (p : ℕ → Bool) → Computes block lanes f → (length block ≡ 64) × Each1 (Fits w8) block → agree_below (λ byte. top 7 (f byte)) p 256 ≡ true
    → Marks (mask_l (map (top 7) lanes) % 2 ^ 64) (λ place. p (slice_index block place))
Marks-tabled {block} {lanes} {f} p computes bytes table = Marks-lanes p computes bytes (λ byte within. agree_below_at (λ n. top 7 (f n)) p 256 byte table within)

pub top-cond : (b : Bool) → top 7 (cond b 255 0) ≡ b
top-cond true = refl
top-cond false = refl
