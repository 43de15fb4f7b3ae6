-- The tests on the parts of a number hold exactly of what the grammar says.
use Rattle.std.specs.Prelude.{◌≡◌, ◌≢◌, ℕ, zero, suc, ◌<◌, ◌≤◌, ◌^◌, ◌⊎◌, Bool, true, false, not, ◌&&◌, ◌||◌, ◌==◌, nat_le, List, [], ◌∷◌, ◌++◌, length, drop, slice_index}
use Rattle.std.specs.List.{AllByRecursion}
use Rattle.std.specs.Char.{is_ascii_digit, IsAsciiDigit}
use Rattle.std.specs.Str.{all_ascii_digits}
use Rattle.std.specs.Str.Parse.{digits_value}
use Rattle.std.proofs.Math.Seq.{drop-cons}
use Rattle.std.proofs.Common.{refl, sym, ap, ap₂, ◌∙◌, inl, inr, arith}
use Rattle.std.proofs.Math.Bool.{Bool-set}
use Rattle.std.proofs.Math.Logic.{∥∥₁_elim}
use Rattle.std.proofs.lemmas.Bool.{leb-true, le-leb, le-ltb, lt-leb, ltb-true, lt-ltb, false_from_ne_true, cases_Bool, cases_eq, and_parts, and_from, or_cases, or_left, or_right, or_from, not-true, not_from_false, eqb-true, eqb-false, eq-eqb, ne_eqb}
use Rattle.sj_base.specs.Number.{minus, signed, IsInRange, IsDigits, IsWhole, IsFraction, IsExponent, IsDecimal}
use Rattle.sj_base.proofs.Fronts.{NotFirst}
use Rattle.sj_base.proofs.NumberBytes.{no_minus, whole_digits, fraction_start, exponent_start}
use Rattle.sj_base.specs.NumberTests.{is_empty, is_negative, magnitude, unsigned, front_digits, behind_digits, is_digits, is_whole, is_exponent, is_fraction_or_exponent, is_in_range, is_kept_by, is_decimal}

abbrev pub IsSign : List ℕ → Type 0
IsSign sign = (sign ≡ []) ⊎ ((sign ≡ 0x2b ∷ []) ⊎ (sign ≡ 0x2d ∷ []))

pub from_test : (b : ℕ) → is_ascii_digit b ≡ true → IsAsciiDigit b
from_test b e = let p = and_parts (nat_le 48 b) (nat_le b 57) e in (leb-true 48 b p.0, leb-true b 57 p.1)

pub to_test : (b : ℕ) → IsAsciiDigit b → is_ascii_digit b ≡ true
to_test b h = and_from (nat_le 48 b) (nat_le b 57) (le-leb 48 b h.0) (le-leb b 57 h.1)

pub one_of : (b x y : ℕ) → (b == x || b == y) ≡ true → (b ≡ x) ⊎ (b ≡ y)
one_of b x y e = elim (or_cases (b == x) (b == y) e) [ inl h ↦ inl (eqb-true b x h) | inr h ↦ inr (eqb-true b y h) ]

-- ---- digits

pub AllDigits-from_test : (ds : List ℕ) → all_ascii_digits ds ≡ true → AllByRecursion IsAsciiDigit ds
AllDigits-from_test [] e = tt
AllDigits-from_test (d ∷ ds) e = let p = and_parts (is_ascii_digit d) (all_ascii_digits ds) e in (from_test d p.0, AllDigits-from_test ds p.1)

pub all_digits-from_AllDigits : (ds : List ℕ) → AllByRecursion IsAsciiDigit ds → all_ascii_digits ds ≡ true
all_digits-from_AllDigits [] h = refl
all_digits-from_AllDigits (d ∷ ds) h = and_from (is_ascii_digit d) (all_ascii_digits ds) (to_test d h.0) (all_digits-from_AllDigits ds h.1)

pub IsDigits-from_is_digits : (ds : List ℕ) → is_digits ds ≡ true → IsDigits ds
IsDigits-from_is_digits [] e = absurd cc
IsDigits-from_is_digits (d ∷ ds) e = (omega arith, AllDigits-from_test (d ∷ ds) e)

pub is_digits-from_IsDigits : (ds : List ℕ) → IsDigits ds → is_digits ds ≡ true
is_digits-from_IsDigits [] h = let some : 0 < 0 = h.0 in absurd (omega arith)
is_digits-from_IsDigits (d ∷ ds) h = all_digits-from_AllDigits (d ∷ ds) h.1

is_empty-nil : (xs : List ℕ) → is_empty xs ≡ true → xs ≡ []
is_empty-nil [] e = refl
is_empty-nil (x ∷ xs) e = absurd cc

-- ---- whole numbers

pub IsWhole-from_is_whole : (ds : List ℕ) → is_whole ds ≡ true → IsWhole ds
IsWhole-from_is_whole [] e = absurd cc
IsWhole-from_is_whole (d ∷ ds) e =
    let p = and_parts (is_ascii_digit d && all_ascii_digits ds) (is_empty ds || not (d == 0x30)) e in
    let q = and_parts (is_ascii_digit d) (all_ascii_digits ds) p.0 in
    let digit = from_test d q.0 in
    let low : 48 ≤ d = digit.0 in
    let others = AllDigits-from_test ds q.1 in
    elim (cases_eq d 0x30) [
      | inl same ↦ elim (or_cases (is_empty ds) (not (d == 0x30)) p.1) [
        | inl alone ↦ inl (ap₂ (λ (x : ℕ) (xs : List ℕ). x ∷ xs) same (is_empty-nil ds alone))
        | inr other ↦ absurd (eqb-false d 0x30 (not-true (d == 0x30) other) same)
      ]
      | inr other ↦ inr (d, ds, refl, omega arith, digit.1, others)
    ]

pub is_whole-from_IsWhole : (ds : List ℕ) → IsWhole ds → is_whole ds ≡ true
is_whole-from_IsWhole ds (inl e) = ap is_whole e
is_whole-from_IsWhole ds (inr (d, others, e, low, high, digits)) =
    ap is_whole e ∙ and_from (is_ascii_digit d && all_ascii_digits others) (is_empty others || not (d == 0x30))
    (and_from (is_ascii_digit d) (all_ascii_digits others) (to_test d (omega (arith, low), high)) (all_digits-from_AllDigits others digits))
    (or_right (is_empty others) (not (d == 0x30)) (not_from_false (d == 0x30) (ne_eqb d 0x30 (λ same. omega (arith, low, same)))))

-- ---- exponents and fractions

-- a sign, or none, in front
unsigned_parts : (bs : List ℕ) → (sign : List ℕ) × (bs ≡ sign ++ unsigned bs) × IsSign sign
unsigned_parts [] = ([], refl, inl refl)
unsigned_parts (b ∷ bs) = elim (cases_Bool (b == 0x2b || b == 0x2d)) [
  | inl e ↦ elim (one_of b 0x2b 0x2d e) [
    | inl same ↦ (0x2b ∷ [], rw e (ap (λ (x : ℕ). x ∷ bs) same), inr (inl refl))
    | inr same ↦ (0x2d ∷ [], rw e (ap (λ (x : ℕ). x ∷ bs) same), inr (inr refl))
  ]
  | inr e ↦ ([], rw e refl, inl refl)
]

-- digits have no sign in front
unsigned-digits : (sign ds : List ℕ) → IsSign sign → IsDigits ds → unsigned (sign ++ ds) ≡ ds
unsigned-digits sign [] s h = let some : 0 < 0 = h.0 in absurd (omega arith)
unsigned-digits sign (d ∷ ds) (inl e) h =
    let low : 48 ≤ d = h.1.0.0 in
    let none = or_from (d == 0x2b) (d == 0x2d) (ne_eqb d 0x2b (λ same. omega arith)) (ne_eqb d 0x2d (λ same. omega arith)) in
    rw e (rw none refl)
unsigned-digits sign (d ∷ ds) (inr (inl e)) h = rw e refl
unsigned-digits sign (d ∷ ds) (inr (inr e)) h = rw e refl

pub IsExponent-from_is_exponent : (bs : List ℕ) → is_exponent bs ≡ true → IsExponent bs
IsExponent-from_is_exponent [] e = absurd cc
IsExponent-from_is_exponent (b ∷ bs) e =
    let p = and_parts (b == 0x65 || b == 0x45) (is_digits (unsigned bs)) e in
    let u = unsigned_parts bs in
    inr (b, u.0, unsigned bs, ap (λ (xs : List ℕ). b ∷ xs) u.1, one_of b 0x65 0x45 p.0, u.2, IsDigits-from_is_digits (unsigned bs) p.1)

-- The grammar's exponent may be nothing.
pub is_exponent-from_IsExponent : (bs : List ℕ) → IsExponent bs → (is_empty bs || is_exponent bs) ≡ true
is_exponent-from_IsExponent bs (inl e) = ap (λ (xs : List ℕ). is_empty xs || is_exponent xs) e
is_exponent-from_IsExponent bs (inr (b, sign, ds, e, letter, s, digits)) =
    ap (λ (xs : List ℕ). is_empty xs || is_exponent xs) e
    ∙ and_from (b == 0x65 || b == 0x45) (is_digits (unsigned (sign ++ ds))) (is_letter letter)
    (ap is_digits (unsigned-digits sign ds s digits) ∙ is_digits-from_IsDigits ds digits)
  where
    is_letter : (b ≡ 0x65) ⊎ (b ≡ 0x45) → (b == 0x65 || b == 0x45) ≡ true
    is_letter (inl same) = or_left (b == 0x65) (b == 0x45) (eq-eqb b 0x65 same)
    is_letter (inr same) = or_right (b == 0x65) (b == 0x45) (eq-eqb b 0x45 same)

-- the digits in front, and what stands behind them
pub digits_parts : (bs : List ℕ) → bs ≡ front_digits bs ++ behind_digits bs
digits_parts [] = refl
digits_parts (b ∷ bs) = elim (cases_Bool (is_ascii_digit b)) [
  | inl e ↦ rw e (ap (λ (xs : List ℕ). b ∷ xs) (digits_parts bs))
  | inr e ↦ rw e refl
]

-- no more digit
pub digits-end : (bytes : List ℕ) (i : ℕ) → i < length bytes → is_ascii_digit (slice_index bytes i) ≡ false → (front_digits (drop i bytes) ≡ []) × (behind_digits (drop i bytes) ≡ drop i bytes)
digits-end bytes i h none = rw (drop-cons bytes i 0 h, none) (refl, refl)

pub front_digits-all : (bs : List ℕ) → all_ascii_digits (front_digits bs) ≡ true
front_digits-all [] = refl
front_digits-all (b ∷ bs) = elim (cases_Bool (is_ascii_digit b)) [
  | inl e ↦ rw e (and_from (is_ascii_digit b) (all_ascii_digits (front_digits bs)) e (front_digits-all bs))
  | inr e ↦ rw e refl
]

all_ascii_digits-behind : (bs : List ℕ) → is_empty (behind_digits bs) ≡ all_ascii_digits bs
all_ascii_digits-behind [] = refl
all_ascii_digits-behind (b ∷ bs) = elim (cases_Bool (is_ascii_digit b)) [
  | inl e ↦ rw e (all_ascii_digits-behind bs)
  | inr e ↦ rw e refl
]

pub is_digits-parts : (bs : List ℕ) → (not (is_empty (front_digits bs)) && is_empty (behind_digits bs)) ≡ is_digits bs
is_digits-parts [] = refl
is_digits-parts (b ∷ bs) = elim (cases_Bool (is_ascii_digit b)) [
  | inl e ↦ rw e (all_ascii_digits-behind bs)
  | inr e ↦ rw e refl
]

and_true : (b : Bool) → (b && true) ≡ b
and_true true = refl
and_true false = refl

pub is_digits-front : (bs : List ℕ) → not (is_empty (front_digits bs)) ≡ is_digits (front_digits bs)
is_digits-front bs = sym (ap (λ (b : Bool). not (is_empty (front_digits bs)) && b) (front_digits-all bs) ∙ and_true (not (is_empty (front_digits bs))))

pub is_empty-length : (xs : List ℕ) → (length xs == 0) ≡ is_empty xs
is_empty-length [] = refl
is_empty-length (x ∷ xs) = ne_eqb (length (x ∷ xs)) 0 (λ e. omega (arith, e))

-- no digit in front
no_digits : (r : List ℕ) → NotFirst IsAsciiDigit r → (front_digits r ≡ []) × (behind_digits r ≡ r)
no_digits [] h = (refl, refl)
no_digits (b ∷ r) h = elim (cases_Bool (is_ascii_digit b)) [
  | inl e ↦ absurd (h (from_test b e))
  | inr e ↦ (rw e refl, rw e refl)
]

-- digits, up to a byte that is none
pub digits-append : (ds r : List ℕ) → AllByRecursion IsAsciiDigit ds → NotFirst IsAsciiDigit r → (front_digits (ds ++ r) ≡ ds) × (behind_digits (ds ++ r) ≡ r)
digits-append [] r h stop = no_digits r stop
digits-append (d ∷ ds) r h stop =
    let k = digits-append ds r h.1 stop in
    let t = to_test d h.0 in
    (rw t (ap (λ (xs : List ℕ). d ∷ xs) k.0), rw t k.1)

-- a fraction, an exponent or both
pub record Tail (bs : List ℕ) : Type 0 where
  pub fraction : List ℕ
  pub exponent : List ℕ
  pub parts : bs ≡ fraction ++ exponent
  pub is_fraction : IsFraction fraction
  pub is_exponent : IsExponent exponent

pub Tail-from_is_fraction_or_exponent : (bs : List ℕ) → is_fraction_or_exponent bs ≡ true → Tail bs × (bs ≢ [])
Tail-from_is_fraction_or_exponent [] e = absurd cc
Tail-from_is_fraction_or_exponent (b ∷ bs) e = elim (cases_Bool (b == 0x2e)) [
  | inl point ↦
      let p = and_parts (is_digits (front_digits bs)) (is_empty (behind_digits bs) || is_exponent (behind_digits bs)) (rw point at e) in (
        record {
          fraction = 0x2e ∷ front_digits bs;
          exponent = behind_digits bs;
          parts = ap₂ (λ (x : ℕ) (xs : List ℕ). x ∷ xs) (eqb-true b 0x2e point) (digits_parts bs);
          is_fraction = inr (front_digits bs, refl, IsDigits-from_is_digits (front_digits bs) p.0);
          is_exponent = elim (or_cases (is_empty (behind_digits bs)) (is_exponent (behind_digits bs)) p.1) [
            | inl none ↦ inl (is_empty-nil (behind_digits bs) none)
            | inr some ↦ IsExponent-from_is_exponent (behind_digits bs) some
          ];
        },
        λ same. absurd cc,
      )
  | inr other ↦ (
    record {
      fraction = [];
      exponent = b ∷ bs;
      parts = refl;
      is_fraction = inl refl;
      is_exponent = IsExponent-from_is_exponent (b ∷ bs) (rw other at e);
    },
    λ same. absurd cc,
  )
]

-- an exponent begins with no point
exponent_alone : (x : List ℕ) → IsExponent x → x ≢ [] → is_fraction_or_exponent x ≡ true
exponent_alone x (inl e) some = absurd (some e)
exponent_alone x (inr (b, sign, ds, e, letter, s, digits)) some =
    let whole = is_exponent-from_IsExponent (b ∷ (sign ++ ds)) (inr (b, sign, ds, refl, letter, s, digits)) in
    ap is_fraction_or_exponent e ∙ rw (ne_eqb b 0x2e (no_point letter)) whole
  where
    no_point : (b ≡ 0x65) ⊎ (b ≡ 0x45) → b ≡ 0x2e → ⊥
    no_point (inl same) point = omega arith
    no_point (inr same) point = omega arith

pub is_fraction_or_exponent-from_Tail : (fraction exponent : List ℕ) → IsFraction fraction → IsExponent exponent → fraction ++ exponent ≢ [] → is_fraction_or_exponent (fraction ++ exponent) ≡ true
is_fraction_or_exponent-from_Tail fraction exponent (inl e) x some =
    ap (λ (xs : List ℕ). is_fraction_or_exponent (xs ++ exponent)) e ∙ exponent_alone exponent x (λ none. some (ap (λ (xs : List ℕ). xs ++ exponent) e ∙ none))
is_fraction_or_exponent-from_Tail fraction exponent (inr (ds, e, digits)) x some =
    let k = digits-append ds exponent digits.1 (exponent_start exponent x) in
    ap (λ (xs : List ℕ). is_fraction_or_exponent (xs ++ exponent)) e
    ∙ and_from (is_digits (front_digits (ds ++ exponent))) (is_empty (behind_digits (ds ++ exponent)) || is_exponent (behind_digits (ds ++ exponent)))
    (ap is_digits k.0 ∙ is_digits-from_IsDigits ds digits)
    (ap (λ (xs : List ℕ). is_empty xs || is_exponent xs) k.1 ∙ is_exponent-from_IsExponent exponent x)

-- ---- signs

pub sign_parts : (bs : List ℕ) → bs ≡ minus (is_negative bs) ++ magnitude bs
sign_parts [] = refl
sign_parts (b ∷ bs) = elim (cases_Bool (b == 0x2d)) [
  | inl e ↦ rw e (ap (λ (x : ℕ). x ∷ bs) (eqb-true b 0x2d e))
  | inr e ↦ rw e refl
]

-- what begins with no minus
unsigned_sign : (bs : List ℕ) → NotFirst (λ b. b ≡ 0x2d) bs → (is_negative bs ≡ false) × (magnitude bs ≡ bs)
unsigned_sign [] h = (refl, refl)
unsigned_sign (b ∷ bs) h = let other = ne_eqb b 0x2d h in (other, rw other refl)

-- a whole number with a sign, or without one, and what stands behind it
pub sign_of : (negative : Bool) (whole rest : List ℕ) → IsWhole whole → (is_negative (minus negative ++ (whole ++ rest)) ≡ negative) × (magnitude (minus negative ++ (whole ++ rest)) ≡ whole ++ rest)
sign_of true whole rest w = (refl, refl)
sign_of false whole rest w = unsigned_sign (whole ++ rest) (no_minus whole rest w)

-- ---- the range of integers

pub IsInRange-from_is_in_range : (negative : Bool) (n : ℕ) → is_in_range negative n ≡ true → IsInRange (signed negative n)
IsInRange-from_is_in_range false n e = ltb-true n (2 ^ 64) e
IsInRange-from_is_in_range true zero e = omega arith
IsInRange-from_is_in_range true (suc n) e = let le : suc n ≤ 2 ^ 63 = leb-true (suc n) (2 ^ 63) e in omega arith

pub is_in_range-from_IsInRange : (negative : Bool) (n : ℕ) → IsInRange (signed negative n) → is_in_range negative n ≡ true
is_in_range-from_IsInRange false n h = lt-ltb n (2 ^ 64) h
is_in_range-from_IsInRange true zero h = refl
is_in_range-from_IsInRange true (suc n) h = le-leb (suc n) (2 ^ 63) (omega arith)

pub out_of_range : (negative : Bool) (n : ℕ) → (n < 2 ^ 64 → ⊥) → is_in_range negative n ≡ false
out_of_range false n large = le-ltb n (2 ^ 64) (omega arith)
out_of_range true n large = lt-leb n (2 ^ 63) (omega arith)

-- ---- decimal literals

Tail-from_is_kept_by : (negative : Bool) (digits bs : List ℕ) → is_kept_by negative digits bs ≡ true → Tail bs × (IsInRange (signed negative (digits_value 10 digits)) → bs ≢ [])
Tail-from_is_kept_by negative digits [] e = (
  record { fraction = []; exponent = []; parts = refl; is_fraction = inl refl; is_exponent = inl refl },
  λ range. let in_range = is_in_range-from_IsInRange negative (digits_value 10 digits) range in absurd cc,
)
Tail-from_is_kept_by negative digits (b ∷ bs) e = let t = Tail-from_is_fraction_or_exponent (b ∷ bs) e in (t.0, λ range. t.1)

kept_by-from_Tail : (negative : Bool) (digits fraction exponent behind : List ℕ) → fraction ++ exponent ≡ behind → IsFraction fraction → IsExponent exponent → (IsInRange (signed negative (digits_value 10 digits)) → fraction ++ exponent ≢ [])
    → is_kept_by negative digits behind ≡ true
kept_by-from_Tail negative digits fraction exponent [] is f x kept =
    not_from_false (is_in_range negative (digits_value 10 digits)) (false_from_ne_true (is_in_range negative (digits_value 10 digits)) (λ e. kept (IsInRange-from_is_in_range negative (digits_value 10 digits) e) is))
kept_by-from_Tail negative digits fraction exponent (b ∷ bs) is f x kept =
    ap is_fraction_or_exponent (sym is) ∙ is_fraction_or_exponent-from_Tail fraction exponent f x (λ none. absurd cc)

pub IsDecimal-from_is_decimal : (bs : List ℕ) → is_decimal bs ≡ true → IsDecimal bs
IsDecimal-from_is_decimal bs e =
    let digits = front_digits (magnitude bs) in
    let p = and_parts (is_whole digits) (is_kept_by (is_negative bs) digits (behind_digits (magnitude bs))) e in
    let t = Tail-from_is_kept_by (is_negative bs) digits (behind_digits (magnitude bs)) p.1 in
    record {
      negative = is_negative bs;
      whole = digits;
      fraction = t.0.fraction;
      exponent = t.0.exponent;
      parts = sign_parts bs ∙ ap (λ (xs : List ℕ). minus (is_negative bs) ++ xs) (digits_parts (magnitude bs) ∙ ap (λ (xs : List ℕ). digits ++ xs) t.0.parts);
      is_whole = IsWhole-from_is_whole digits p.0;
      is_fraction = t.0.is_fraction;
      is_exponent = t.0.is_exponent;
      is_kept = λ range none. t.1 range (t.0.parts ∙ none);
    }

pub is_decimal-from_IsDecimal : (bs : List ℕ) → IsDecimal bs → is_decimal bs ≡ true
is_decimal-from_IsDecimal bs h =
    let s = sign_of h.negative h.whole (h.fraction ++ h.exponent) h.is_whole in
    let whole : magnitude bs ≡ h.whole ++ (h.fraction ++ h.exponent) = ap magnitude h.parts ∙ s.1 in
    let k = digits-append h.whole (h.fraction ++ h.exponent) (whole_digits h.whole h.is_whole) (fraction_start h.fraction h.exponent h.is_fraction (exponent_start h.exponent h.is_exponent)) in
    let negative : is_negative bs ≡ h.negative = ap is_negative h.parts ∙ s.0 in
    let digits : front_digits (magnitude bs) ≡ h.whole = ap front_digits whole ∙ k.0 in
    let behind : behind_digits (magnitude bs) ≡ h.fraction ++ h.exponent = ap behind_digits whole ∙ k.1 in
    and_from (is_whole (front_digits (magnitude bs))) (is_kept_by (is_negative bs) (front_digits (magnitude bs)) (behind_digits (magnitude bs)))
    (ap is_whole digits ∙ is_whole-from_IsWhole h.whole h.is_whole)
    (ap (λ (b : Bool). is_kept_by b (front_digits (magnitude bs)) (behind_digits (magnitude bs))) negative
    ∙ ap₂ (λ (ds xs : List ℕ). is_kept_by h.negative ds xs) digits behind
    ∙ kept_by-from_Tail h.negative h.whole h.fraction h.exponent (h.fraction ++ h.exponent) refl h.is_fraction h.is_exponent h.is_kept)

-- The parts of a literal can be found, so the truncated proof that there are some gives them.
pub found : (bs : List ℕ) → ∥ IsDecimal bs ∥₁ → IsDecimal bs
found bs h = IsDecimal-from_is_decimal bs (∥∥₁_elim h (Bool-set (is_decimal bs) true) (is_decimal-from_IsDecimal bs))
