-- Steps of printing line breaks and strings.
use Rattle.std.proofs.Common.{◌≡◌, ℕ, ◌+◌, ◌-◌, ◌*◌, ◌≤◌, List, ◌++◌, take, drop, flat_map, replicate, Result, Ok, Err, ap, sym, ◌∙◌, arith}
use Rattle.std.proofs.lemmas.List.{replicate-append-replicate, take-append-drop}
use Rattle.std.proofs.lemmas.List.Concat.{flat_map-append}
use Rattle.sj_base.specs.Output.{Continues, Prints}
use Rattle.sj_base.specs.Text.{escaped}

-- Bytes are printed behind others that were appended.
pub prints_behind : {S X E : Type 0} {A B : S → S → List ℕ → Type 0} → Continues A B → (r : Result X E) (s t u : S) (xs ys : List ℕ) → A s t xs → Prints A B r t u ys → Prints A B r s u (xs ++ ys)
prints_behind l (Ok x) s t u xs ys first then = l.then s t u xs ys first then
prints_behind l (Err e) s t u xs ys first then = l.fails s t u xs ys first then

-- the spaces of the first levels, and of the others
pub levels_first : (left levels : ℕ) → levels ≤ left → replicate (2 * left) 0x20 ≡ replicate (2 * levels) 0x20 ++ replicate {A = ℕ} (2 * (left - levels)) 0x20
levels_first left levels within =
    let count : 2 * levels + 2 * (left - levels) ≡ 2 * left = omega arith in
    sym (replicate-append-replicate (2 * levels) (2 * (left - levels)) 0x20 ∙ ap (λ (n : ℕ). replicate n 0x20) count)

-- the bytes so far and the rest
pub body_split : (text : List ℕ) (i : ℕ) → flat_map escaped (take i text) ++ flat_map escaped (drop i text) ≡ flat_map escaped text
body_split text i = sym (flat_map-append escaped (take i text) (drop i text)) ∙ ap (λ (xs : List ℕ). flat_map escaped xs) (take-append-drop i text)
