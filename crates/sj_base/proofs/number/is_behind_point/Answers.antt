use Rattle.std.specs.Prelude.{◌≡◌, List, ℕ, Bool, true, false, not, ◌&&◌, ◌||◌, ◌==◌, length}
use Rattle.std.proofs.Common.{sym, ap, ap₂, ◌∙◌}
use Rattle.sj_base.specs.NumberTests.{is_empty, front_digits, behind_digits, is_digits, is_exponent, is_behind_point}
use Rattle.sj_base.proofs.Literals.{is_empty-length, is_digits-front}
use Rattle.sj_base.proofs.number.is_behind_point.Goals as goal

-- with digits in front
behind : (bytes : List ℕ) (none : Bool) → (length (front_digits bytes) == 0) ≡ false → is_empty (behind_digits bytes) ≡ none → (none || is_exponent (behind_digits bytes)) ≡ is_behind_point bytes
behind bytes none some is =
    let digits : is_digits (front_digits bytes) ≡ true = sym (is_digits-front bytes) ∙ ap not (sym (is_empty-length (front_digits bytes)) ∙ some) in
    sym (ap₂ (λ d e. d && (e || is_exponent (behind_digits bytes))) digits is)

pub returns-then-is_empty-2 : goal.returns-then-is_empty-2
returns-then-is_empty-2 c =
    let is = c.split_digits.ensures in
    let some = ap (λ ds. length ds == 0) (sym is.digits) ∙ sym c.is_empty.ensures ∙ c.if-is_empty.false in
    let none = ap is_empty (sym is.behind) ∙ sym (is_empty-length c.split_digits.result.1.now) ∙ sym c.is_empty-2.ensures ∙ c.if-is_empty-2.true in
    c.if-is_empty-2.true ∙ behind c.args.bytes.now true some none

pub returns-else-is_empty-2 : goal.returns-else-is_empty-2
returns-else-is_empty-2 c =
    let is = c.split_digits.ensures in
    let some = ap (λ ds. length ds == 0) (sym is.digits) ∙ sym c.is_empty.ensures ∙ c.if-is_empty.false in
    let none = ap is_empty (sym is.behind) ∙ sym (is_empty-length c.split_digits.result.1.now) ∙ sym c.is_empty-2.ensures ∙ c.if-is_empty-2.false in
    c.is_exponent.ensures ∙ ap is_exponent is.behind ∙ behind c.args.bytes.now false some none
