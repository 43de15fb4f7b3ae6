use Rattle.std.proofs.Common.{◌≡◌, ◌+◌, ◌++◌, ◌∙◌, ◌-◌, refl, sym, ap, List, ℕ, arith}
use Rattle.std.specs.Prelude.{◌∷◌, length, take, drop, true}
use Rattle.std.specs.Str.{all_ascii_digits}
use Rattle.sj_base.specs.Number.{minus}
use Rattle.std.proofs.lemmas.Bool.{true≢false, false_from_ne_true}
use Rattle.std.proofs.lemmas.List.{take_rest}
use Rattle.sj_base.specs.NumberTests.{is_negative, is_whole, is_integer, is_decimal}
use Rattle.sj_base.proofs.Literals.{sign_parts, front_digits-all}
use Rattle.sj_parse.specs.Atoms.{ends_word}
use Rattle.sj_parse.specs.Token.{word}
use Rattle.sj_parse.proofs.PlainNumbers.{integer_word, whole_word, plain_whole, plain_decimal}
use Rattle.sj_parse.proofs.numbers.plain_number.Goals as goal
use Rattle.sj_parse.proofs.numbers.plain_number.Goals.{Then-ends_word-2}

pub returns-then-ends_word-clause-word : goal.returns-then-ends_word-clause-word
returns-then-ends_word-clause-word c =
    let bytes = c.args.bytes.now in
    let m = c.split_minus.result.1.now in
    let parts = sign_parts bytes ∙ ap (λ (xs : List ℕ). minus (is_negative bytes) ++ xs) (sym c.split_minus.ensures.magnitude) in
    let ends : ends_word (drop c.digits_len-whole.result m) ≡ true = ap ends_word (sym c.split_at.ensures.back) ∙ sym c.ends_word.ensures ∙ c.if-ends_word.true in
    plain_whole bytes (is_negative bytes) m (length bytes - length m) c.digits_len-whole.result parts refl c.digits_len-whole.ensures.within c.digits_len-whole.ensures.digits ends

pub returns-then-ends_word-clause-shape : goal.returns-then-ends_word-clause-shape
returns-then-ends_word-clause-shape c =
    let m = c.split_minus.result.1.now in
    let whole : is_whole (take c.digits_len-whole.result m) ≡ true = ap is_whole (sym c.split_at.ensures.front) ∙ sym c.is_whole.ensures ∙ c.if-not-is_whole.false in
    let ends : ends_word (drop c.digits_len-whole.result m) ≡ true = ap ends_word (sym c.split_at.ensures.back) ∙ sym c.ends_word.ensures ∙ c.if-ends_word.true in
    whole_word c.args.bytes.now m c.digits_len-whole.result c.split_minus.ensures.magnitude c.digits_len-whole.ensures.within c.digits_len-whole.ensures.digits whole ends

pub is_whole-requires : goal.is_whole-requires
is_whole-requires c = ap all_ascii_digits (c.split_at.ensures.front ∙ c.digits_len-whole.ensures.digits) ∙ front_digits-all c.split_minus.result.1.now

pub returns-then-not-is_whole-clause-none : goal.returns-then-not-is_whole-clause-none
returns-then-not-is_whole-clause-none c = false_from_ne_true (is_integer (word c.args.bytes.now)) (λ e.
    let found = integer_word c.args.bytes.now c.split_minus.result.1.now c.digits_len-whole.result c.split_minus.ensures.magnitude c.digits_len-whole.ensures.within c.digits_len-whole.ensures.digits e in
    true≢false (sym found.0 ∙ ap is_whole (sym c.split_at.ensures.front) ∙ sym c.is_whole.ensures ∙ c.if-not-is_whole.true))

pub returns-else-ends_word-clause-none : goal.returns-else-ends_word-clause-none
returns-else-ends_word-clause-none c = false_from_ne_true (is_integer (word c.args.bytes.now)) (λ e.
    let found = integer_word c.args.bytes.now c.split_minus.result.1.now c.digits_len-whole.result c.split_minus.ensures.magnitude c.digits_len-whole.ensures.within c.digits_len-whole.ensures.digits e in
    true≢false (sym found.1 ∙ ap ends_word (sym c.split_at.ensures.back) ∙ sym c.ends_word.ensures ∙ c.if-ends_word.false))

-- A point ends no word.
pub returns-else-places-gt0-clause-none : goal.returns-else-places-gt0-clause-none
returns-else-places-gt0-clause-none c = false_from_ne_true (is_integer (word c.args.bytes.now)) (λ e.
    let found = integer_word c.args.bytes.now c.split_minus.result.1.now c.digits_len-whole.result c.split_minus.ensures.magnitude c.digits_len-whole.ensures.within c.digits_len-whole.ensures.digits e in
    let point = sym c.split_at.ensures.back ∙ c.in-Some-eq46-default.ensures.cases.0 ∙ ap (λ b. b ∷ c.in-Some-eq46-default.fraction.now) c.in-Some-eq46-default.field-0-0-test in
    true≢false (sym found.1 ∙ ap ends_word point))

-- The number with a fraction is the whole word, and a decimal literal.
word_found : (c : Then-ends_word-2)
    → (take (length c.args.bytes.now - length c.split_minus.result.1.now + c.digits_len-whole.result + 1 + c.digits_len-places.result) c.args.bytes.now ≡ word c.args.bytes.now)
    × (is_decimal (word c.args.bytes.now) ≡ true)
word_found c =
    let bytes = c.args.bytes.now in
    let m = c.split_minus.result.1.now in
    let f = c.in-Some-eq46-default.fraction.now in
    let parts = sign_parts bytes ∙ ap (λ (xs : List ℕ). minus (is_negative bytes) ++ xs) (sym c.split_minus.ensures.magnitude) in
    let point : drop c.digits_len-whole.result m ≡ 0x2e ∷ f = sym c.split_at.ensures.back ∙ c.in-Some-eq46-default.ensures.cases.0 ∙ ap (λ b. b ∷ f) c.in-Some-eq46-default.field-0-0-test in
    let whole : is_whole (take c.digits_len-whole.result m) ≡ true = ap is_whole (sym c.split_at.ensures.front) ∙ sym c.is_whole.ensures ∙ c.if-not-is_whole.false in
    let ends : ends_word (drop c.digits_len-places.result f) ≡ true = ap ends_word (sym (take_rest f c.digits_len-places.result)) ∙ sym c.ends_word-then-places-gt0.ensures ∙ c.if-ends_word-2.true in
    plain_decimal bytes (is_negative bytes) m (length bytes - length m) c.digits_len-whole.result c.digits_len-places.result f parts refl c.digits_len-whole.ensures.within c.digits_len-whole.ensures.digits point c.digits_len-places.ensures.within c.digits_len-places.ensures.digits (omega (arith, c.if-places-gt0.true)) whole ends

pub returns-then-ends_word-2-clause-word : goal.returns-then-ends_word-2-clause-word
returns-then-ends_word-2-clause-word c = (word_found c).0

pub returns-then-ends_word-2-clause-shape : goal.returns-then-ends_word-2-clause-shape
returns-then-ends_word-2-clause-shape c = (word_found c).1
