-- Behind the opening quote no backslash stands yet.
use Rattle.std.specs.Prelude.{◌==◌, ◌||◌, slice_index}
use Rattle.std.proofs.Common.{◌≡◌, ◌≢◌, ◌∙◌, ◌+◌, ◌-◌, ◌<◌, ◌≤◌, ◌++◌, ◌&&◌, ℕ, List, [], ◌∷◌, Bool, true, false, take, drop, length, sym, ap, subst, ne_eqb, arith, length-drop}
use Rattle.std.proofs.lemmas.Bool.{eqb-true}
use Rattle.std.proofs.lemmas.List.{take_rest, get_or-drop}
use Rattle.sj_parse.specs.inside.Step.{string_body, IsPlain}
use Rattle.sj_parse.proofs.Bodies.{body_from, body-body_from, body-run, body-skip, body-escaped, body-end, body-all}
use Rattle.sj_parse.proofs.scalars.body_len.Goals.{then-len-bytes-via-then-len-bytes, then-len-bytes-via-else-len-bytes+then-bytes-len-eq34}
use Rattle.sj_parse.proofs.scalars.body_len.Goals as goal

pub loop-len-init : goal.loop-len-init
loop-len-init c = (omega arith, body-body_from (0x22 ∷ []) c.args.bytes.now)

-- what is known behind n plain bytes
record Known (bytes : List ℕ) (at : ℕ) : Type 0 where
  within : at ≤ length bytes
  body : string_body bytes ≡ take at bytes ++ body_from false (drop at bytes)

known : (bytes : List ℕ) (i n : ℕ) → i ≤ length bytes → string_body bytes ≡ take i bytes ++ body_from false (drop i bytes) → n ≤ length (take (length bytes - i) (drop i bytes)) → ((k : ℕ) → k < n → IsPlain (slice_index (take (length bytes - i) (drop i bytes)) k)) → Known bytes (i + n)
known bytes i n h so_far within plain =
    let rest = take_rest bytes i in
    let inside : n ≤ length (drop i bytes) = subst (λ (ys : List ℕ). n ≤ length ys) rest within in
    let size = length-drop i bytes in
    record {
      within = omega arith;
      body = body-run bytes i n inside (subst (λ (ys : List ℕ). (k : ℕ) → k < n → IsPlain (slice_index ys k)) rest plain) so_far;
    }

-- a byte that is no quote is a backslash
backslash : (b : ℕ) → (b == 0x22 || b == 0x5c) ≡ true → b ≢ 0x22 → b ≡ 0x5c
backslash b either other = eqb-true b 0x5c (sym (ap (λ (t : Bool). t || b == 0x5c) (ne_eqb b 0x22 other)) ∙ either)

pub returns-then-len-bytes-clause-body : goal.returns-then-len-bytes-clause-body
returns-then-len-bytes-clause-body c =
    let bytes = c.args.bytes.now in
    let at = c.loop-len.len + c.plain_len-len.result in
    let k = known bytes c.loop-len.len c.plain_len-len.result c.loop-len.invariant.0 c.loop-len.invariant.1 c.plain_len-len.ensures.within c.plain_len-len.ensures.plain in
    elim c.then-len-bytes.branch [
      | then-len-bytes-via-then-len-bytes w ↦ body-all bytes at false (omega (arith, w.if-len-bytes.true)) k.body
      | then-len-bytes-via-else-len-bytes+then-bytes-len-eq34 w ↦
          let quote : slice_index bytes at ≡ 0x22 = omega (arith, w.if-bytes-len-eq34.true) in
          body-end bytes at false (omega (arith, k.within, w.if-len-bytes.false)) (ap (λ (b : ℕ). b == 0x22 && true) quote) k.body
    ]

-- where the plain bytes end in front of a byte that is no quote, a backslash stands
slash_behind : (bytes : List ℕ) (i n : ℕ) → i + n < length bytes → (n < length (take (length bytes - i) (drop i bytes)) → (slice_index (take (length bytes - i) (drop i bytes)) n == 0x22 || slice_index (take (length bytes - i) (drop i bytes)) n == 0x5c) ≡ true) → slice_index bytes (i + n) ≢ 0x22 → slice_index bytes (i + n) ≡ 0x5c
slash_behind bytes i n h ends other =
    let size = length-drop i bytes in
    let inside : n < length (drop i bytes) = omega arith in
    let either = subst (λ (ys : List ℕ). n < length ys → (slice_index ys n == 0x22 || slice_index ys n == 0x5c) ≡ true) (take_rest bytes i) ends inside in
    backslash (slice_index bytes (i + n)) (subst (λ (b : ℕ). (b == 0x22 || b == 0x5c) ≡ true) (get_or-drop i bytes n 0) either) other

pub returns-then-bytes-len-lt2-clause-body : goal.returns-then-bytes-len-lt2-clause-body
returns-then-bytes-len-lt2-clause-body c =
    let bytes = c.args.bytes.now in
    let at = c.loop-len.len + c.plain_len-len.result in
    let k = known bytes c.loop-len.len c.plain_len-len.result c.loop-len.invariant.0 c.loop-len.invariant.1 c.plain_len-len.ensures.within c.plain_len-len.ensures.plain in
    let within = k.within in
    let inside : at < length bytes = omega (arith, c.if-len-bytes.false, within) in
    let slash = slash_behind bytes c.loop-len.len c.plain_len-len.result inside c.plain_len-len.ensures.ends c.if-bytes-len-eq34.false in
    let last : at + 1 ≡ length bytes = omega (arith, c.if-bytes-len-lt2.true) in
    ap (λ (n : ℕ). take n bytes) (sym last) ∙ body-all bytes (at + 1) true last (body-escaped bytes at inside slash k.body)

pub loop-len-preserved : goal.loop-len-preserved
loop-len-preserved c =
    let bytes = c.args.bytes.now in
    let at = c.loop-len.len + c.plain_len-len.result in
    let k = known bytes c.loop-len.len c.plain_len-len.result c.loop-len.invariant.0 c.loop-len.invariant.1 c.plain_len-len.ensures.within c.plain_len-len.ensures.plain in
    let within = k.within in
    let inside : at < length bytes = omega (arith, c.if-len-bytes.false, within) in
    let slash = slash_behind bytes c.loop-len.len c.plain_len-len.result inside c.plain_len-len.ensures.ends c.if-bytes-len-eq34.false in
    (omega (arith, c.if-bytes-len-lt2.false), body-skip bytes at (omega (arith, c.if-bytes-len-lt2.false)) slash k.body)
