-- A look-up of each byte in a table of 16 entries that a vector holds four times.
use Rattle.std.proofs.Common.{◌≡◌, ℕ, ◌+◌, ◌*◌, ◌/◌, ◌%◌, ◌<◌, Bool, true, false, not, ◌||◌, cond, T, ltb, eqb, List, length, get_or, replicate, refl, sym, ap, subst, ◌∙◌, arith, w8, Fits, bit_and, eqb-true}
use Rattle.std.proofs.lemmas.Simd.{swz_l, SwzOk, SwzOk-from_Each1, length-swz_l, get_or-swz_l, Each1-from_get_or, Each1-get_or}
use Rattle.std.proofs.lemmas.Bool.{agree_below_at, ltb-true}
use lib.Lanes.{zip2, Each1}
use mir.Val.{zeroes}
use Rattle.sj_scan.specs.inside.Lanes.{Computes, IsFourfold, low_entry}
use Rattle.sj_scan.proofs.Lanes.{block_itself, splat, lanewise}

-- a byte without the bits that a look-up can't have
abbrev pub index : ℕ → ℕ
index byte = bit_and byte 0x8f

module _ (block : List ℕ) (bytes : (length block ≡ 64) × Each1 (Fits w8) block) where
  abbrev pub indices : List ℕ
  indices = zip2 bit_and block (replicate 64 0x8f)

  indices-are : Computes block indices index
  indices-are = lanewise bit_and (block_itself block bytes.0) (splat block 0x8f)

  byte_fits : (place : ℕ) → place < 64 → get_or block place 0 < 256
  byte_fits place within =
      let long = bytes.0 in
      let byte : Fits w8 (get_or block place 0) = Each1-get_or (Fits w8) block place 0 (omega arith) bytes.1 in
      byte.fits

  pub SwzOk-indices : SwzOk w8 16 64 0 indices
  SwzOk-indices =
      let long = indices-are.long in
      SwzOk-from_Each1 w8 16 4 64 0 indices refl (omega arith)
      (Each1-from_get_or (λ j. T (zeroes 16 w8 j || ltb j 16)) indices 0 (λ place within.
      let below : place < 64 = omega arith in
      subst (λ b. T b)
      (sym (ap (λ j. zeroes 16 w8 j || ltb j 16) (indices-are.at place below) ∙ agree_below_at (λ byte. zeroes 16 w8 (index byte) || ltb (index byte) 16) (λ byte. true) 256 (get_or block place 0) refl (byte_fits place below))) tt))

  module _ (table : List ℕ) (fourfold : IsFourfold table) where
    entry : (place byte : ℕ) → place < 64 → byte < 256 → cond (zeroes 16 w8 (index byte)) 0 (get_or table (16 * ((0 + place) / 16) + index byte) 0) ≡ low_entry table byte
    entry place byte within fits =
        ap (λ b. cond b 0 (get_or table (16 * ((0 + place) / 16) + index byte) 0)) (agree_below_at (λ n. zeroes 16 w8 (index n)) (λ n. not (ltb n 128)) 256 byte refl fits)
        ∙ go (ltb byte 128) refl
      where
        go : (b : Bool) → ltb byte 128 ≡ b → cond (not b) 0 (get_or table (16 * ((0 + place) / 16) + index byte) 0) ≡ cond b (get_or table (byte % 16) 0) 0
        go false is = refl
        go true is =
            let low : index byte ≡ byte % 16 = eqb-true (index byte) (byte % 16) (agree_below_at (λ n. eqb (index n) (n % 16)) (λ n. true) 128 byte refl (ltb-true byte 128 is)) in
            let lane = 16 * ((0 + place) / 16) + byte % 16 in
            let same : lane % 16 ≡ byte % 16 = omega arith in
            ap (λ j. get_or table (16 * ((0 + place) / 16) + j) 0) low ∙ fourfold lane (omega arith) ∙ ap (λ j. get_or table j 0) same

    pub Computes-low_entry : Computes block (swz_l w8 16 table 0 indices) (low_entry table)
    Computes-low_entry = record {
      long = length-swz_l w8 16 table 0 indices ∙ indices-are.long;
      at = λ place within.
          let long = indices-are.long in
          get_or-swz_l w8 16 table 0 indices place (omega arith)
          ∙ ap (λ j. cond (zeroes 16 w8 j) 0 (get_or table (16 * ((0 + place) / 16) + j) 0)) (indices-are.at place within)
          ∙ entry place (get_or block place 0) within (byte_fits place within);
    }
