use Rattle.std.specs.Prelude.{◌≡◌, ℕ, List, take, drop}
use Rattle.std.proofs.Common.{◌∙◌, sym, ap, subst}
use Rattle.sj_base.specs.Characters.{IsHex, hex_value}
use Rattle.sj_parse.specs.Escapes.{is_low_surrogate}
use Rattle.sj_parse.proofs.EscapeForms.{low_parts, low_from_parts, low_found}
use Rattle.sj_parse.proofs.escapes.read_low_surrogate.Goals as goal

pub returns-in_err-low : goal.returns-in_err-low
returns-in_err-low c =
    let rest = c.in_ok-strip_prefix.ensures.cases.1 in
    rw c.from_residual-in_err-low.ensures (λ e. c.in_err-low.ensures (subst (λ (xs : List ℕ). IsHex (take 4 xs)) (sym rest) (low_parts c.args.bytes.now e).digits))

pub returns : goal.returns
returns c =
    let rest = c.in_ok-strip_prefix.ensures.cases.1 in
    let found = rw rest at c.in_ok-low.ensures in
    let is_low : c.is_low_surrogate.result ≡ is_low_surrogate (hex_value (take 4 (drop 2 c.args.bytes.now))) = c.is_low_surrogate.ensures ∙ ap is_low_surrogate found.1 in
    rw c.then_some.ensures (low_found c.is_low_surrogate.result _ _
    (λ low. low_from_parts c.args.bytes.now (record { begins = c.in_ok-strip_prefix.ensures.cases.0; digits = found.0; is_low = sym is_low ∙ low }))
    (λ e. is_low ∙ (low_parts c.args.bytes.now e).is_low)
    found.1)
