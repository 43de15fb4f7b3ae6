-- Numbers without an exponent that stand as whole words.
use Rattle.std.specs.Prelude.{◌≡◌, ℕ, ◌+◌, ◌-◌, ◌<◌, ◌≤◌, ◌||◌, ◌==◌, Bool, true, false, not, cond, List, [], ◌∷◌, ◌++◌, length, take, drop, if◌then◌else◌}
use Rattle.std.specs.List.{AllByRecursion}
use Rattle.std.specs.Char.{is_ascii_digit, IsAsciiDigit}
use Rattle.std.specs.Str.{all_ascii_digits}
use Rattle.std.specs.Str.Parse.{digits_value}
use Rattle.std.proofs.Common.{refl, sym, ap, ap₂, ◌∙◌, arith, inl, inr, take_at, take-append-drop, append_assoc, append-nil, length-append}
use Rattle.std.proofs.lemmas.Bool.{true≢false, agree_below_at, not-true, and_parts, cases_Bool, eqb-true}
use Rattle.std.proofs.lemmas.List.{length-take-le}
use Rattle.sj_base.specs.Number.{minus, IsDecimal}
use Rattle.sj_base.specs.NumberTests.{front_digits, is_negative, magnitude, is_whole, is_in_range, is_integer, is_decimal}
use Rattle.sj_base.proofs.Literals.{from_test, to_test, AllDigits-from_test, front_digits-all, IsWhole-from_is_whole, is_decimal-from_IsDecimal}
use Rattle.sj_scan.specs.Positions.{is_whitespace, is_operator}
use Rattle.sj_parse.specs.Atoms.{ends_word}
use Rattle.sj_parse.specs.Token.{word}
use Rattle.sj_parse.proofs.NumberLemmas.{whole-digits}

-- It ends no word.
IsInside : ℕ → Type 0
IsInside b = (is_whitespace b || is_operator b) ≡ false

inside-digit : (b : ℕ) → IsAsciiDigit b → IsInside b
unfolding IsInside
inside-digit b d =
    let high : b ≤ 57 = d.1 in
    let either = agree_below_at (λ c. not (is_ascii_digit c) || not (is_whitespace c || is_operator c)) (λ c. true) 128 b refl (omega arith) in
    not-true (is_whitespace b || is_operator b) (rw (to_test b d) at either)

inside-point : IsInside 0x2e
unfolding IsInside
inside-point = refl

inside-digits : (ds : List ℕ) → AllByRecursion IsAsciiDigit ds → AllByRecursion IsInside ds
inside-digits [] h = tt
inside-digits (d ∷ ds) h = (inside-digit d h.0, inside-digits ds h.1)

inside-append : (xs ys : List ℕ) → AllByRecursion IsInside xs → AllByRecursion IsInside ys → AllByRecursion IsInside (xs ++ ys)
inside-append [] ys h k = k
inside-append (x ∷ xs) ys h k = (h.0, inside-append xs ys h.1 k)

inside-signed : (negative : Bool) (xs : List ℕ) → AllByRecursion IsInside xs → AllByRecursion IsInside (minus negative ++ xs)
unfolding IsInside
inside-signed true xs h = (refl, h)
inside-signed false xs h = h

length-signed : (negative : Bool) (xs : List ℕ) → length (minus negative ++ xs) ≡ cond negative 1 0 + length xs
length-signed true xs = omega arith
length-signed false xs = omega arith

word-front : (xs rest : List ℕ) → AllByRecursion IsInside xs → ends_word rest ≡ true → word (xs ++ rest) ≡ xs
unfolding IsInside
word-front [] [] h ends = refl
word-front [] (b ∷ bs) h ends = ap (λ (stop : Bool). if stop then [] else b ∷ word bs) ends
word-front (x ∷ xs) rest h ends =
    ap (λ (stop : Bool). if stop then [] else x ∷ word (xs ++ rest)) h.0 ∙ ap (λ (ys : List ℕ). x ∷ ys) (word-front xs rest h.1 ends)

front_is_word : (bytes xs rest : List ℕ) (n : ℕ) → bytes ≡ xs ++ rest → n ≡ length xs → AllByRecursion IsInside xs → ends_word rest ≡ true → take n bytes ≡ word bytes
front_is_word bytes xs rest n parts size inside ends =
    ap₂ take size parts ∙ take_at xs rest (length xs) refl ∙ sym (ap word parts ∙ word-front xs rest inside ends)

front_all : (n : ℕ) (bs : List ℕ) → take n bs ≡ front_digits bs → AllByRecursion IsAsciiDigit (take n bs)
front_all n bs digits = AllDigits-from_test (take n bs) (ap all_ascii_digits digits ∙ front_digits-all bs)

-- ---- where a word is an integer

magnitude-word : (bs : List ℕ) → magnitude (word bs) ≡ word (magnitude bs)
magnitude-word [] = refl
magnitude-word (b ∷ bs) = elim (cases_Bool (b == 0x2d)) [
  | inl e ↦ rw (eqb-true b 0x2d e) refl
  | inr e ↦ elim (cases_Bool (is_whitespace b || is_operator b)) [
    | inl stop ↦ rw e (rw stop refl)
    | inr goes_on ↦ rw e (rw goes_on (rw e refl))
  ]
]

-- a word of digits: the digits in front, before the end of a word
digits_word : (m : List ℕ) → AllByRecursion IsAsciiDigit (word m) → (front_digits m ≡ word m) × (ends_word (drop (length (word m)) m) ≡ true)
unfolding IsInside
digits_word [] h = (refl, refl)
digits_word (b ∷ bs) h = elim (cases_Bool (is_whitespace b || is_operator b)) [
  | inl stop ↦ elim (cases_Bool (is_ascii_digit b)) [
    | inl digit ↦ absurd (true≢false (sym stop ∙ inside-digit b (from_test b digit)))
    | inr other ↦ rw stop (rw other (refl, stop))
  ]
  | inr goes_on ↦
      let k = rw goes_on at h in
      let more = digits_word bs k.1 in
      rw goes_on (rw (to_test b k.0) (ap (λ (xs : List ℕ). b ∷ xs) more.0, more.1))
]

-- a word that is an integer: a whole number, before the end of a word
pub integer_word : (bytes m : List ℕ) (n : ℕ) → m ≡ magnitude bytes → n ≤ length m → take n m ≡ front_digits m → is_integer (word bytes) ≡ true
    → (is_whole (take n m) ≡ true) × (ends_word (drop n m) ≡ true)
integer_word bytes m n parts within digits e =
    let p = and_parts (is_whole (magnitude (word bytes))) (is_in_range (is_negative (word bytes)) (digits_value 10 (magnitude (word bytes)))) e in
    let whole : is_whole (word m) ≡ true = ap (λ (xs : List ℕ). is_whole (word xs)) parts ∙ sym (ap is_whole (magnitude-word bytes)) ∙ p.0 in
    let found = digits_word m (AllDigits-from_test (word m) (whole-digits (word m) whole)) in
    let same : take n m ≡ word m = digits ∙ found.0 in
    let size : n ≡ length (word m) = sym (length-take-le n m within) ∙ ap length same in
    (ap is_whole same ∙ whole, ap (λ (k : ℕ). ends_word (drop k m)) size ∙ found.1)

-- and the other way round
pub whole_word : (bytes m : List ℕ) (n : ℕ) → m ≡ magnitude bytes → n ≤ length m → take n m ≡ front_digits m → is_whole (take n m) ≡ true → ends_word (drop n m) ≡ true
    → is_whole (magnitude (word bytes)) ≡ true
whole_word bytes m n parts within digits whole ends =
    let same : take n m ≡ word m = front_is_word m (take n m) (drop n m) n (sym (take-append-drop n m)) (sym (length-take-le n m within)) (inside-digits (take n m) (front_all n m digits)) ends in
    ap is_whole (magnitude-word bytes ∙ ap word (sym parts) ∙ sym same) ∙ whole

-- ---- plain numbers

-- a sign and digits, before the end of a word
pub plain_whole : (bytes : List ℕ) (negative : Bool) (m : List ℕ) (k n : ℕ) → bytes ≡ minus negative ++ m → k ≡ length bytes - length m → n ≤ length m → take n m ≡ front_digits m → ends_word (drop n m) ≡ true → take (k + n) bytes ≡ word bytes
plain_whole bytes negative m k n parts sign within digits ends =
    let ds = take n m in
    let whole : bytes ≡ (minus negative ++ ds) ++ drop n m =
    parts ∙ ap (λ (xs : List ℕ). minus negative ++ xs) (sym (take-append-drop n m)) ∙ sym (append_assoc (minus negative) ds (drop n m)) in
    let front = length-take-le n m within in
    let size : k + n ≡ length (minus negative ++ ds) = omega (arith, sign, front, ap length parts, length-signed negative m, length-signed negative ds) in
    front_is_word bytes (minus negative ++ ds) (drop n m) (k + n) whole size (inside-signed negative ds (inside-digits ds (front_all n m digits))) ends

-- and digits behind a point
pub plain_decimal : (bytes : List ℕ) (negative : Bool) (m : List ℕ) (k n p : ℕ) (f : List ℕ) → bytes ≡ minus negative ++ m → k ≡ length bytes - length m → n ≤ length m → take n m ≡ front_digits m → drop n m ≡ 0x2e ∷ f → p ≤ length f → take p f ≡ front_digits f → 0 < p → is_whole (take n m) ≡ true → ends_word (drop p f) ≡ true
    → (take (k + n + 1 + p) bytes ≡ word bytes) × (is_decimal (word bytes) ≡ true)
plain_decimal bytes negative m k n p f parts sign within digits point within_f digits_f some whole ends =
    let ds = take n m in
    let fs = take p f in
    let all = front_all n m digits in
    let all_f = front_all p f digits_f in
    let text = minus negative ++ (ds ++ 0x2e ∷ fs) in
    let split : bytes ≡ text ++ drop p f =
    parts ∙ ap (λ (xs : List ℕ). minus negative ++ xs)
    (sym (take-append-drop n m) ∙ ap (λ (xs : List ℕ). ds ++ xs) (point ∙ ap (λ (xs : List ℕ). 0x2e ∷ xs) (sym (take-append-drop p f))) ∙ sym (append_assoc ds (0x2e ∷ fs) (drop p f)))
    ∙ sym (append_assoc (minus negative) (ds ++ 0x2e ∷ fs) (drop p f)) in
    let front = length-take-le n m within in
    let behind = length-take-le p f within_f in
    let both = length-append ds (0x2e ∷ fs) in
    let size : k + n + 1 + p ≡ length text = omega (arith, sign, front, behind, both, ap length parts, length-signed negative m, length-signed negative (ds ++ 0x2e ∷ fs)) in
    let inside : AllByRecursion IsInside text =
    inside-signed negative (ds ++ 0x2e ∷ fs) (inside-append ds (0x2e ∷ fs) (inside-digits ds all) (inside-point, inside-digits fs all_f)) in
    let decimal : IsDecimal text = record {
      negative = negative;
      whole = ds;
      fraction = 0x2e ∷ fs;
      exponent = [];
      parts = ap (λ (xs : List ℕ). minus negative ++ (ds ++ xs)) (sym (append-nil (0x2e ∷ fs)));
      is_whole = IsWhole-from_is_whole ds whole;
      is_fraction = inr (fs, refl, (omega (arith, behind, some), all_f));
      is_exponent = inl refl;
      is_kept = λ range e. absurd cc;
    } in (
      front_is_word bytes text (drop p f) (k + n + 1 + p) split size inside ends,
      ap is_decimal (ap word split ∙ word-front text (drop p f) inside ends) ∙ is_decimal-from_IsDecimal text decimal,
    )
