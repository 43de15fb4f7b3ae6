-- An atom is the word that stands in front.
use Rattle.std.specs.Prelude.{◌≡◌, ℕ, Bool, true, false, not, ◌&&◌, ◌||◌, ◌==◌, List, [], ◌∷◌, length, take, drop, codes, bytes_eq}
use Rattle.std.specs.List.{list_all}
use Rattle.std.proofs.Common.{refl, ap, ◌∙◌, inl, inr, sym}
use Rattle.std.proofs.lemmas.Bool.{both_ways, cases_Bool, and_parts, not-true, false_from_ne_true, eqb-true}
use Rattle.sj_scan.specs.Positions.{is_whitespace, is_operator}
use Rattle.sj_parse.specs.Token.{word}
use Rattle.sj_parse.specs.Atoms.{ends_word, is_atom}

and_assoc : (x y z : Bool) → ((x && y) && z) ≡ (x && (y && z))
and_assoc true y z = refl
and_assoc false y z = refl

-- a literal of bytes that stand in words
pub is_atom-word : (literal bytes : List ℕ) → list_all (λ b. not (is_whitespace b || is_operator b)) literal ≡ true → is_atom literal bytes ≡ bytes_eq (word bytes) literal
is_atom-word [] [] h = refl
is_atom-word [] (b ∷ bs) h = elim (cases_Bool (is_whitespace b || is_operator b)) [
  | inl e ↦ rw e refl
  | inr e ↦ rw e refl
]
is_atom-word (c ∷ cs) [] h = refl
is_atom-word (c ∷ cs) (b ∷ bs) h =
    let p = and_parts (not (is_whitespace c || is_operator c)) (list_all (λ x. not (is_whitespace x || is_operator x)) cs) h in
    elim (cases_Bool (is_whitespace b || is_operator b)) [
      | inl e ↦
          let other : (b == c) ≡ false = false_from_ne_true (b == c) (λ same.
          both_ways (is_whitespace c || is_operator c) (not-true (is_whitespace c || is_operator c) p.0) (ap (λ x. is_whitespace x || is_operator x) (sym (eqb-true b c same)) ∙ e)) in
          rw (e, other) refl
      | inr e ↦ rw e (and_assoc (b == c) (bytes_eq (take (length cs) bs) cs) (ends_word (drop (length cs) bs)) ∙ ap (λ t. b == c && t) (is_atom-word cs bs p.1))
    ]

pub true_atom-word : (bytes : List ℕ) → is_atom (codes "true") bytes ≡ bytes_eq (word bytes) (codes "true")
true_atom-word bytes = is_atom-word (codes "true") bytes refl

pub false_atom-word : (bytes : List ℕ) → is_atom (codes "false") bytes ≡ bytes_eq (word bytes) (codes "false")
false_atom-word bytes = is_atom-word (codes "false") bytes refl

pub null_atom-word : (bytes : List ℕ) → is_atom (codes "null") bytes ≡ bytes_eq (word bytes) (codes "null")
null_atom-word bytes = is_atom-word (codes "null") bytes refl
