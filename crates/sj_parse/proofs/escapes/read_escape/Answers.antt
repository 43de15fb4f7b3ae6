-- The letter says which escape it is.
use Rattle.std.proofs.Common.{◌≡◌, ◌≢◌, ℕ, List, [], ◌∷◌, length, refl, ap, sym, ◌∙◌, subst, arith}
use Rattle.std.specs.Prelude.{Result, Ok, Err, Some, None, MatchResult}
use Rattle.std.proofs.lemmas.Bool.{ne_eqb}
use Rattle.sj_base.specs.Characters.{short_character}
use Rattle.sj_parse.specs.declared.descent_fault.DescentKind.{DescentKind}
use Rattle.sj_parse.specs.declared.descent_fault.DescentKind.TheVariants.{InvalidEscape}
use Rattle.sj_parse.specs.declared.escapes.Escaped.{Escaped}
use Rattle.sj_parse.specs.Escapes.{escape}
use Rattle.sj_parse.specs.inside.Decoded.{escaped_character}
use Rattle.sj_parse.proofs.escapes.read_escape.Goals as goal

abbrev Reads : Result Escaped DescentKind → List ℕ → Type 0
Reads r bs = MatchResult r (λ e. (escape bs ≡ Ok e.len) × (escaped_character bs ≡ e.character)) (λ kind. escape bs ≡ Err kind)

no_letter : (bs : List ℕ) → length bs ≡ 0 → escape bs ≡ Err InvalidEscape
no_letter [] none = refl
no_letter (b ∷ bs) none = absurd (omega arith)

short : (letter c : ℕ) (ds : List ℕ) → letter ≢ 0x75 → short_character letter ≡ Some c → Reads (Ok record { character = c; len = 1 }) (letter ∷ ds)
short letter c ds other is = rw (ne_eqb letter 0x75 other, is) (refl, refl)

not_short : (letter : ℕ) (ds : List ℕ) → letter ≢ 0x75 → short_character letter ≡ None → escape (letter ∷ ds) ≡ Err InvalidEscape
not_short letter ds other is = rw (ne_eqb letter 0x75 other, is) refl

pub returns-in_default : goal.returns-in_default
returns-in_default c = no_letter c.args.bytes.now c.in_default.ensures.cases

pub returns-then-letter-eq117 : goal.returns-then-letter-eq117
returns-then-letter-eq117 c =
    let bytes = c.in-Some.ensures.cases.0 ∙ ap (λ (letter : ℕ). letter ∷ c.in-Some.digits.now) c.if-letter-eq117.true in
    subst (Reads c.read_unicode_escape.result) (sym bytes) c.read_unicode_escape.ensures

pub returns-in-Some-short_character : goal.returns-in-Some-short_character
returns-in-Some-short_character c =
    let is = sym c.short_character.ensures ∙ c.in-Some-short_character.is in
    subst (Reads (Ok record { character = c.in-Some-short_character.character; len = 1 })) (sym c.in-Some.ensures.cases.0)
    (short c.in-Some.letter.now c.in-Some-short_character.character c.in-Some.digits.now c.if-letter-eq117.false is)

pub returns-in-None : goal.returns-in-None
returns-in-None c =
    let is = sym c.short_character.ensures ∙ c.in-None.is in
    ap escape c.in-Some.ensures.cases.0 ∙ not_short c.in-Some.letter.now c.in-Some.digits.now c.if-letter-eq117.false is
