-- The bytes of a text from a place on, in the last block of the text.
use Rattle.std.proofs.Common.{◌≡◌, ℕ, ◌+◌, ◌-◌, ◌<◌, ◌≤◌, ◌⊎◌, inl, inr, List, ◌++◌, length, take, drop, replicate, slice_index, sym, ap, ap₂, ◌∙◌, arith, length-drop, get_or-drop, take_all, drop-drop, take-append-drop, append_assoc}
use Rattle.std.specs.Str.{IsAscii}
use Rattle.std.proofs.lemmas.Bool.{cases_lt}
use Rattle.std.proofs.lemmas.List.{get_or_past}
use Rattle.std.proofs.lemmas.Simd.{get_or-chunk}
use lib.Lanes.{chunk}
use Rattle.sj_scan.specs.inside.Blocks.{filled_up}
use Rattle.sj_scan.proofs.Skips.{skipped}

module _ (bytes : List ℕ) (at : ℕ) (within : at ≤ length bytes) where
  -- the rest, as a slice of it is computed
  pub rest-is : take (length bytes - at) (drop at bytes) ≡ drop at bytes
  rest-is = let long = length-drop at bytes in take_all (length bytes - at) (drop at bytes) (omega arith)

  pub read-is : take at bytes ++ filled_up (drop at bytes) ≡ bytes ++ replicate (64 - length (drop at bytes)) 0x20
  read-is =
      let blanks = replicate (64 - length (drop at bytes)) 0x20 in
      sym (append_assoc (take at bytes) (drop at bytes) blanks) ∙ ap (λ xs. xs ++ blanks) (take-append-drop at bytes)

  module _ (long : 64 ≤ length bytes) (last : length bytes ≤ at + 64) where
    abbrev end : List ℕ
    end = chunk (length bytes - 64) 64 bytes

    end-is : end ≡ drop (length bytes - 64) bytes
    end-is = let rest = length-drop (length bytes - 64) bytes in take_all 64 (drop (length bytes - 64) bytes) (omega arith)

    pub length-end : length end ≡ 64
    length-end = let rest = length-drop (length bytes - 64) bytes in let same = ap length end-is in omega arith

    pub skipped-is : (count : ℕ) → count ≡ 64 - length (drop at bytes) → skipped count end ≡ filled_up (drop at bytes)
    skipped-is count is =
        let rest = length-drop at bytes in
        let place : length bytes - 64 + count ≡ at = omega arith in
        ap₂ (λ xs n. xs ++ replicate n 0x20) (ap (drop count) end-is ∙ drop-drop count (length bytes - 64) bytes ∙ ap (λ n. drop n bytes) place) is

    pub IsAscii-rest : IsAscii end → IsAscii (drop at bytes)
    IsAscii-rest ascii i = go (cases_lt (at + i) (length bytes))
      where
        go : (at + i < length bytes) ⊎ (length bytes ≤ at + i) → slice_index (drop at bytes) i < 128
        go (inl inside) =
            let k = at + i - (length bytes - 64) in
            let place : length bytes - 64 + k ≡ at + i = omega arith in
            let read = get_or-drop at bytes i 0 in
            let same = get_or-chunk (length bytes - 64) 64 bytes k 0 (omega arith) ∙ ap (slice_index bytes) place in
            let small = ascii k in
            omega arith
        go (inr past) =
            let read = get_or-drop at bytes i 0 in
            let none = get_or_past bytes (at + i) 0 past in
            omega arith
