-- Blocks of bytes that are tested for bytes that need an escape.
use Rattle.std.proofs.Common.{◌≡◌, ℕ, suc, ◌+◌, ◌-◌, ◌%◌, ◌^◌, ◌≤◌, ◌<◌, Bool, true, false, cond, ◌==◌, ◌||◌, inl, inr, List, [], ◌∷◌, ◌++◌, take, drop, set, append_assoc, map, length, get_or, replicate, bit_or, Fits, w8, flat_map, refl, sym, ap, ap₂, ◌∙◌, arith, rules}
use Rattle.std.specs.Prelude.{nat_lt, slice_range}
use Rattle.std.proofs.lemmas.Bool.{agree_below, agree_below_at, cases_lt}
use Rattle.std.proofs.lemmas.Simd.{length-chunk, zip2_splat, zip2_of_maps, map-map, mask_l-mod, none_from_empty_mask}
use Rattle.std.proofs.lemmas.List.{length-map, take-append-drop, take-take, take-set-le, get_or-take, take_at, take_all, drop-take, length-take-le, length-append}
use Rattle.std.proofs.lemmas.List.Concat.{flat_map-append}
use lib.Lanes.{chunk, mask_l, zip2, top}
use Rattle.sj_base.specs.Text.{escaped}
use Rattle.sj_base.specs.inside.Plain.{IsPlain}

abbrev equal : ℕ → ℕ → ℕ
equal a b = cond (a == b) 255 0

abbrev below : ℕ → ℕ → ℕ
below a b = cond (nat_lt a b) 255 0

-- what the tests make of a byte
abbrev lane : ℕ → ℕ
lane b = bit_or (bit_or (equal b 0x22) (equal b 0x5c)) (below b 0x20)

abbrev is_stop : ℕ → Bool
is_stop b = top 7 (lane b)

needs_escape : ℕ → Bool
needs_escape b = (b == 0x22) || ((b == 0x5c) || nat_lt b 0x20)

stops_agree : agree_below is_stop needs_escape 256 ≡ true
unfolding needs_escape
stops_agree = refl

plain_byte : (b : ℕ) → needs_escape b ≡ false → escaped b ≡ b ∷ []
unfolding needs_escape
plain_byte b none = search rules

block_mask : (v : List ℕ) (n : ℕ) → length v ≡ n → n ≤ 64
    → mask_l (map (top 7) (zip2 bit_or (zip2 bit_or (zip2 equal v (replicate n 34)) (zip2 equal v (replicate n 92))) (zip2 below v (replicate n 32)))) % 2 ^ 64 ≡ mask_l (map is_stop v)
block_mask v n long few =
    let quotes = zip2_splat equal v n 34 long in
    let backslashes = zip2_splat equal v n 92 long in
    let controls = zip2_splat below v n 32 long in
    let either = zip2_of_maps bit_or (λ b. equal b 34) (λ b. equal b 92) v quotes backslashes in
    let lanes = zip2_of_maps bit_or (λ b. bit_or (equal b 34) (equal b 92)) (λ b. below b 32) v either controls in
    ap (λ l. mask_l (map (top 7) l) % 2 ^ 64) lanes
    ∙ ap (λ l. mask_l l % 2 ^ 64) (map-map (top 7) lane v)
    ∙ mask_l-mod (map is_stop v) 64 (omega (arith, length-map v is_stop, long))

pub plain_block : (text : List ℕ) (at n : ℕ) → at + n ≤ length text → n ≤ 64 → ((k : ℕ) → Fits w8 (get_or text k 0))
    → mask_l (map (top 7) (zip2 bit_or (zip2 bit_or (zip2 equal (chunk at n text) (replicate n 34)) (zip2 equal (chunk at n text) (replicate n 92))) (zip2 below (chunk at n text) (replicate n 32)))) % 2 ^ 64 ≡ 0
    → IsPlain text at (at + n)
plain_block text at n room few fits none k from to =
    let byte = get_or text k 0 in
    let stopped = none_from_empty_mask is_stop text at n 0 room (sym (block_mask (chunk at n text) n (length-chunk at n text room) few) ∙ none) k from to in
    plain_byte byte (sym (agree_below_at is_stop needs_escape 256 byte stops_agree (fits k).fits) ∙ stopped)

-- one more block of a text behind what was there
pub block_more : (old text out : List ℕ) (done n : ℕ) → out ≡ old ++ take done text → out ++ slice_range text done (done + n) ≡ old ++ take (done + n) text
block_more old text out done n shown =
    let more = take (done + n) text in
    let count : done + n - done ≡ n = omega arith in
    ap (λ (xs : List ℕ). xs ++ slice_range text done (done + n)) shown
    ∙ append_assoc old (take done text) (slice_range text done (done + n))
    ∙ ap (λ (k : ℕ). old ++ (take done text ++ take k (drop done text))) count
    ∙ ap (λ (xs : List ℕ). old ++ (take done text ++ xs)) (sym (drop-take done n text))
    ∙ ap (λ (xs : List ℕ). old ++ (xs ++ drop done more)) (sym (take-take done (done + n) text (omega arith)))
    ∙ ap (λ (xs : List ℕ). old ++ xs) (take-append-drop done more)

take_past : (old xs : List ℕ) (n : ℕ) → n ≤ length xs → take (length old + n) (old ++ xs) ≡ old ++ take n xs
take_past old xs n within =
    ap (λ (ys : List ℕ). take (length old + n) (old ++ ys)) (sym (take-append-drop n xs))
    ∙ ap (λ (ys : List ℕ). take (length old + n) ys) (sym (append_assoc old (take n xs) (drop n xs)))
    ∙ take_at (old ++ take n xs) (drop n xs) (length old + n) (length-append old (take n xs) ∙ ap (λ (k : ℕ). length old + k) (length-take-le n xs within))

-- the last block, in the place of what was there of it
pub last_block : (old text out : List ℕ) (start done last n : ℕ) → start ≡ length old → out ≡ old ++ take done text → last ≤ done → done ≤ length text → last + n ≡ length text → take (start + last) out ++ slice_range text last (last + n) ≡ old ++ text
last_block old text out start done last n long shown ordered within ends =
    let shorter : last ≤ length (take done text) = omega (arith, length-take-le done text within) in
    let cut : take (start + last) out ≡ old ++ take last text =
    ap (λ (k : ℕ). take (k + last) out) long
    ∙ ap (λ (xs : List ℕ). take (length old + last) xs) shown
    ∙ take_past old (take done text) last shorter
    ∙ ap (λ (xs : List ℕ). old ++ xs) (take-take last done text ordered) in
    block_more old text (take (start + last) out) last n cut
    ∙ ap (λ (k : ℕ). old ++ take k text) ends
    ∙ ap (λ (xs : List ℕ). old ++ xs) (take_all (length text) text (omega arith))

pub plain_whole : (text : List ℕ) → IsPlain text 0 (length text) → flat_map escaped text ≡ text
plain_whole [] h = refl
plain_whole (x ∷ xs) h = ap₂ (λ (a b : List ℕ). a ++ b) (h 0 (omega arith) (omega arith)) (plain_whole xs (λ k p q. h (suc k) (omega arith) (omega arith)))

-- one more block whose bytes need no escape
pub plain_more_block : (text : List ℕ) (done n : ℕ) → IsPlain text 0 done → IsPlain text done (done + n) → IsPlain text 0 (done + n)
plain_more_block text done n before after k from to = elim (cases_lt k done) [
  | inl low ↦ before k from low
  | inr high ↦ after k high to
]

-- the last block of a text of which `done` bytes stand behind the first `at` bytes of a buffer
pub last_placed : (old text buf placed : List ℕ) (at done last n : ℕ) → at ≤ length old → take (at + done) buf ≡ take at old ++ take done text → last ≤ done → done ≤ length text → last + n ≡ length text
    → take (at + last + n) placed ≡ take (at + last) buf ++ slice_range text last (last + n) → take (at + length text) placed ≡ take at old ++ text
last_placed old text buf placed at done last n room shown ordered within ends stored =
    let place : at + length text ≡ at + last + n = omega (arith, ends) in
    let front : at ≡ length (take at old) = sym (length-take-le at old room) in
    ap (λ (k : ℕ). take k placed) place
    ∙ stored
    ∙ ap (λ (xs : List ℕ). xs ++ slice_range text last (last + n)) (sym (take-take (at + last) (at + done) buf (omega arith)))
    ∙ last_block (take at old) text (take (at + done) buf) at done last n front shown ordered within ends

-- one more block of a text
pub more_placed : (old text buf placed : List ℕ) (at done n : ℕ) → take (at + done) buf ≡ take at old ++ take done text
    → take (at + done + n) placed ≡ take (at + done) buf ++ slice_range text done (done + n) → take (at + (done + n)) placed ≡ take at old ++ take (done + n) text
more_placed old text buf placed at done n shown stored =
    let place : at + (done + n) ≡ at + done + n = omega arith in
    ap (λ (k : ℕ). take k placed) place ∙ stored ∙ block_more (take at old) text (take (at + done) buf) done n shown

-- The bytes before a place stay where others are stored from there on.
pub kept_before : (old new xs : List ℕ) (at n : ℕ) → at ≤ length old → at ≤ n → take n new ≡ take at old ++ xs → take at new ≡ take at old
kept_before old new xs at n room ordered stored =
    sym (take-take at n new ordered)
    ∙ ap (λ (ys : List ℕ). take at ys) stored
    ∙ take_at (take at old) xs at (length-take-le at old room)

-- The text of a buffer stays where only its room is written: a quote, some bytes and a quote.
pub kept_front : (buf placed : List ℕ) (len end : ℕ) → len < end → take (len + 1) placed ≡ take (len + 1) (set buf len 0x22) → take len (set placed end 0x22) ≡ take len buf
kept_front buf placed len end behind kept =
    take-set-le len placed end 0x22 (omega arith)
    ∙ sym (take-take len (len + 1) placed (omega arith))
    ∙ ap (λ (xs : List ℕ). take len xs) kept
    ∙ take-take len (len + 1) (set buf len 0x22) (omega arith)
    ∙ take-set-le len buf len 0x22 (omega arith)

-- a run without escapes, and the bytes behind it
pub run_first : (text run behind : List ℕ) (n : ℕ) → n ≤ length text → IsPlain text 0 n → run ≡ take n text → behind ≡ drop n text → flat_map escaped text ≡ run ++ flat_map escaped behind
run_first text run behind n within plain is_run is_behind =
    let short = length-take-le n text within in
    let same : IsPlain (take n text) 0 (length (take n text)) = λ k p q.
    let low : k < n = omega (arith, q, short) in
    let byte = get_or-take n text k 0 low in
    ap escaped byte ∙ plain k p low ∙ ap (λ (b : ℕ). b ∷ []) (sym byte) in
    ap (λ (xs : List ℕ). flat_map escaped xs) (sym (take-append-drop n text))
    ∙ flat_map-append escaped (take n text) (drop n text)
    ∙ ap (λ (xs : List ℕ). xs ++ flat_map escaped (drop n text)) (plain_whole (take n text) same ∙ sym is_run)
    ∙ ap (λ (xs : List ℕ). run ++ flat_map escaped xs) (sym is_behind)

pub none_left : (xs : List ℕ) → length xs ≡ 0 → flat_map escaped xs ≡ []
none_left [] e = refl
none_left (x ∷ xs) e = absurd (omega arith)
