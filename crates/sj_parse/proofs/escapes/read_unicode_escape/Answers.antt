use Rattle.std.specs.Prelude.{◌≡◌, ℕ, ◌+◌, ◌-◌, ◌*◌, true, false, ◌∷◌, List, take, drop, Result, Ok, Err, MatchResult}
use Rattle.std.specs.Char.{IsScalar}
use Rattle.std.proofs.Common.{◌∙◌, sym, ap}
use Rattle.std.proofs.lemmas.List.{take_rest}
use Rattle.sj_base.specs.Characters.{hex_value}
use Rattle.sj_parse.specs.declared.descent_fault.DescentKind.{DescentKind}
use Rattle.sj_parse.specs.declared.descent_fault.DescentKind.TheVariants.{InvalidUnicodeCodepoint}
use Rattle.sj_parse.specs.declared.escapes.Escaped.{Escaped}
use Rattle.sj_parse.specs.Escapes.{unicode_escape, is_high_surrogate}
use Rattle.sj_parse.specs.inside.Decoded.{escaped_character}
use Rattle.sj_parse.proofs.EscapeForms.{low_parts, unicode_escape-no_digits, unicode_escape-unit, unicode_escape-low, unicode_escape-pair, unicode_escape-high, pair_scalar}
use Rattle.sj_parse.proofs.escapes.read_unicode_escape.Goals as goal

abbrev Answers : List ℕ → Result Escaped DescentKind → Type 0
Answers digits r = MatchResult r (λ e. (unicode_escape digits ≡ Ok e.len) × (escaped_character (0x75 ∷ digits) ≡ e.character)) (λ kind. unicode_escape digits ≡ Err kind)

-- what `character_of` gives of this number and length
abbrev Gives : ℕ → ℕ → Result Escaped DescentKind → Type 0
Gives n len r = MatchResult r (λ e. IsScalar n × (e.len ≡ len) × (e.character ≡ n)) (λ kind. (IsScalar n → ⊥) × (kind ≡ InvalidUnicodeCodepoint))

answers : (digits : List ℕ) (n len : ℕ) (r : Result Escaped DescentKind) → (IsScalar n → (unicode_escape digits ≡ Ok len) × (escaped_character (0x75 ∷ digits) ≡ n)) → ((IsScalar n → ⊥) → unicode_escape digits ≡ Err InvalidUnicodeCodepoint) → Gives n len r → Answers digits r
answers digits n len (Ok e) some none h = let k = some h.0 in (k.0 ∙ ap (λ m. Ok m) (sym h.1), k.1 ∙ sym h.2)
answers digits n len (Err kind) some none h = none h.0 ∙ ap (λ k. Err k) (sym h.1)

pub returns-in_default : goal.returns-in_default
returns-in_default c = unicode_escape-no_digits c.args.digits.now c.in_default.ensures

pub returns-then-not-is_high_surrogate : goal.returns-then-not-is_high_surrogate
returns-then-not-is_high_surrogate c =
    let hex = c.in-Some.ensures in
    let high : is_high_surrogate (hex_value (take 4 c.args.digits.now)) ≡ false = ap is_high_surrogate (sym hex.1) ∙ sym c.is_high_surrogate.ensures ∙ c.if-not-is_high_surrogate.true in
    let gives = rw hex.1 at c.character_of.ensures in
    answers c.args.digits.now (hex_value (take 4 c.args.digits.now)) 5 c.character_of.result (unicode_escape-unit c.args.digits.now hex.0 high) (unicode_escape-low c.args.digits.now hex.0 high) gives

pub returns-in-Some-read_low_surrogate : goal.returns-in-Some-read_low_surrogate
returns-in-Some-read_low_surrogate c =
    let hex = c.in-Some.ensures in
    let high : is_high_surrogate (hex_value (take 4 c.args.digits.now)) ≡ true = ap is_high_surrogate (sym hex.1) ∙ sym c.is_high_surrogate.ensures ∙ c.if-not-is_high_surrogate.false in
    let rest = take_rest c.args.digits.now 4 in
    let low = rw rest at c.in-Some-read_low_surrogate.ensures in
    let parts = low_parts (drop 4 c.args.digits.now) low.0 in
    let gives = rw (hex.1, low.1) at c.character_of-in-Some-read_low_surrogate.ensures in
    answers c.args.digits.now (0x10000 + (hex_value (take 4 c.args.digits.now) - 0xd800) * 0x400 + (hex_value (take 4 (drop 2 (drop 4 c.args.digits.now))) - 0xdc00)) 11 c.character_of-in-Some-read_low_surrogate.result
    (λ _. unicode_escape-pair c.args.digits.now hex.0 high parts)
    (λ none. absurd (none (pair_scalar (hex_value (take 4 c.args.digits.now)) (hex_value (take 4 (drop 2 (drop 4 c.args.digits.now)))) high parts.is_low)))
    gives

pub returns-in-None : goal.returns-in-None
returns-in-None c =
    let hex = c.in-Some.ensures in
    let high : is_high_surrogate (hex_value (take 4 c.args.digits.now)) ≡ true = ap is_high_surrogate (sym hex.1) ∙ sym c.is_high_surrogate.ensures ∙ c.if-not-is_high_surrogate.false in
    let rest = take_rest c.args.digits.now 4 in
    unicode_escape-high c.args.digits.now hex.0 high (rw rest at c.in-None.ensures)
