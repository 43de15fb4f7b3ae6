use Rattle.std.proofs.Common.{◌≡◌, ℕ, ◌+◌, ◌-◌, ◌*◌, ◌%◌, ◌^◌, sym, ap, subst, ◌∙◌, arith, bit_and, bit_or, bit_xor}
use Rattle.sj_scan.specs.inside.Masks.{is_set, Marks, first_if, is_odd_run}
use Rattle.sj_scan.proofs.Escapes.{Marks-escaped, last-escaped, Marks-none_escaped, last-none_escaped}
use Rattle.sj_scan.proofs.masks.escaped.Goals as goal

abbrev odd_places : ℕ
odd_places = 0xaaaa_aaaa_aaaa_aaaa

abbrev live : ℕ → ℕ → ℕ
live backslashes carry = bit_and backslashes (2 ^ 64 - 1 - carry)

abbrev codes : ℕ → ℕ → ℕ
codes backslashes carry = bit_xor ((bit_or (live backslashes carry * 2 % 2 ^ 64) odd_places + (2 ^ 64 - live backslashes carry)) % 2 ^ 64) odd_places

pub returns-clause-places : goal.returns-clause-places
returns-clause-places c = λ odd is.
    let b = c.args.backslashes in
    subst (λ carry. Marks (bit_xor (codes b carry) (bit_or b carry)) (is_odd_run odd (is_set b))) (sym is) (Marks-escaped b odd c.ranges.backslashes.fits)

pub returns-clause-carry : goal.returns-clause-carry
returns-clause-carry c = λ odd is.
    let b = c.args.backslashes in
    c.last.ensures ∙ ap first_if (ap (λ carry. is_set (bit_and (codes b carry) b) 63) is ∙ last-escaped b odd c.ranges.backslashes.fits)

pub returns-then-backslashes-eq0-clause-places : goal.returns-then-backslashes-eq0-clause-places
returns-then-backslashes-eq0-clause-places c = λ odd is.
    let none : 0 ≡ c.args.backslashes = omega arith in
    subst (λ carry. Marks carry (is_odd_run odd (is_set c.args.backslashes))) (sym is) (subst (λ b. Marks (first_if odd) (is_odd_run odd (is_set b))) none (Marks-none_escaped odd))

pub returns-then-backslashes-eq0-clause-carry : goal.returns-then-backslashes-eq0-clause-carry
returns-then-backslashes-eq0-clause-carry c = λ odd is.
    let none : 0 ≡ c.args.backslashes = omega arith in
    ap first_if (last-none_escaped odd ∙ ap (λ b. is_odd_run odd (is_set b) 64) none)
