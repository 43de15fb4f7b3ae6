use Rattle.std.specs.Prelude.{◌≡◌, ◌==◌, ◌||◌, ◌-◌, ◌+◌, ◌<◌, ℕ, List, true, length, drop, slice_index}
use Rattle.std.proofs.Common.{arith, subst, ap, ◌∙◌, inl, inr, length-drop}
use Rattle.std.proofs.lemmas.Bool.{or_parts, eqb-false, cases_lt}
use Rattle.std.proofs.lemmas.List.{take_rest, get_or-drop}
use Rattle.std.proofs.lemmas.Nat.{or_lt}
use Rattle.sj_parse.specs.inside.Step.{IsPlain}
use Rattle.sj_parse.proofs.BlockPlaces.{either, lowest_place, no_place}
use Rattle.sj_parse.proofs.search.plain_len.Goals as goal

pub returns-then-ends-ne0-clause-within : goal.returns-then-ends-ne0-clause-within
returns-then-ends-ne0-clause-within c =
    let first = lowest_place _ c.args.bytes.now _ c.if-bytes-ge-BLOCK.true (or_lt 64 c.equal_to.result c.equal_to-then-bytes-ge-BLOCK.result c.equal_to.type_inv c.equal_to-then-bytes-ge-BLOCK.type_inv) c.if-ends-ne0.true (either c.equal_to.ensures c.equal_to-then-bytes-ge-BLOCK.ensures) in
    let within = first.within in omega (arith, within)

pub returns-then-ends-ne0-clause-plain : goal.returns-then-ends-ne0-clause-plain
returns-then-ends-ne0-clause-plain c =
    let first = lowest_place _ c.args.bytes.now _ c.if-bytes-ge-BLOCK.true (or_lt 64 c.equal_to.result c.equal_to-then-bytes-ge-BLOCK.result c.equal_to.type_inv c.equal_to-then-bytes-ge-BLOCK.type_inv) c.if-ends-ne0.true (either c.equal_to.ensures c.equal_to-then-bytes-ge-BLOCK.ensures) in
    λ k h.
    let byte = slice_index c.args.bytes.now k in
    let p = or_parts (byte == 0x22) (byte == 0x5c) (first.none k h) in
    (eqb-false byte 0x22 p.0, eqb-false byte 0x5c p.1)

pub returns-then-ends-ne0-clause-ends : goal.returns-then-ends-ne0-clause-ends
returns-then-ends-ne0-clause-ends c = λ h.
    let first = lowest_place _ c.args.bytes.now _ c.if-bytes-ge-BLOCK.true (or_lt 64 c.equal_to.result c.equal_to-then-bytes-ge-BLOCK.result c.equal_to.type_inv c.equal_to-then-bytes-ge-BLOCK.type_inv) c.if-ends-ne0.true (either c.equal_to.ensures c.equal_to-then-bytes-ge-BLOCK.ensures) in
    first.passes

pub returns-then-bytes-ge-BLOCK-clause-plain : goal.returns-then-bytes-ge-BLOCK-clause-plain
returns-then-bytes-ge-BLOCK-clause-plain c = λ k h.
    let bytes = c.args.bytes.now in
    let byte = slice_index bytes k in
    elim (cases_lt k 32) [
      | inl near ↦
          let none = no_place _ bytes _ c.if-ends-ne0.false (either c.equal_to.ensures c.equal_to-then-bytes-ge-BLOCK.ensures) in
          let p = or_parts (byte == 0x22) (byte == 0x5c) (none k near) in
          (eqb-false byte 0x22 p.0, eqb-false byte 0x5c p.1)
      | inr far ↦
          let rest = subst (λ (ys : List ℕ). (i : ℕ) → i < c.scan_plain.result → IsPlain (slice_index ys i)) (take_rest bytes 32) c.scan_plain.ensures.plain in
          let behind : 32 + (k - 32) ≡ k = omega (arith, far) in
          subst (λ (b : ℕ). IsPlain b) (get_or-drop 32 bytes (k - 32) 0 ∙ ap (slice_index bytes) behind) (rest (k - 32) (omega (arith, far, h)))
    ]

pub returns-then-bytes-ge-BLOCK-clause-ends : goal.returns-then-bytes-ge-BLOCK-clause-ends
returns-then-bytes-ge-BLOCK-clause-ends c = λ h.
    let bytes = c.args.bytes.now in
    let n = c.scan_plain.result in
    let size = length-drop 32 bytes in
    let inside : n < length (drop 32 bytes) = omega (arith, h, size) in
    let rest = subst (λ (ys : List ℕ). n < length ys → (slice_index ys n == 0x22 || slice_index ys n == 0x5c) ≡ true) (take_rest bytes 32) c.scan_plain.ensures.ends in
    subst (λ (b : ℕ). (b == 0x22 || b == 0x5c) ≡ true) (get_or-drop 32 bytes n 0) (rest inside)
