-- A scalar that was read is spelled by its token.
use Rattle.std.proofs.Common.{◌≡◌, ℕ, Bool, true, false, List, ◌∷◌, Some, None, refl, sym, ap, ◌∙◌, subst, inl, inr}
use Rattle.std.specs.Prelude.{◌==◌, if◌then◌else◌, codes, bytes_eq}
use Rattle.std.specs.List.{list_all}
use Rattle.std.proofs.lemmas.Bool.{cases_Bool, cond_both, eqb-true}
use Rattle.std.proofs.lemmas.Slice.Eq.{bytes_eq-Decides}
use Rattle.sj_scan.specs.Positions.{is_operator}
use Rattle.sj_parse.specs.declared.descent_fault.DescentKind.{DescentKind}
use Rattle.sj_base.specs.Tree.{Tree, null, boolean, string, depth}
use Rattle.sj_base.specs.Spelling.{SpellsValue}
use Rattle.sj_parse.specs.declared.descent_fault.Stop.{Stop}
use Rattle.sj_parse.specs.Token.{Token}
use Rattle.sj_parse.specs.Escapes.{stop}
use Rattle.sj_base.specs.NumberTests.{is_number, is_integer}
use Rattle.sj_parse.specs.Descent.{scalar_stop, literal_stop, begins_scalar}
use Rattle.sj_parse.specs.inside.Decoded.{decoded}
use Rattle.sj_parse.specs.inside.Trees.{number_tree, token_tree}
use Rattle.sj_parse.specs.inside.WordBytes.{is_word_byte}
use Rattle.sj_parse.proofs.NumberLemmas.{spells-number_tree, is_word-number}
use Rattle.sj_parse.proofs.Pieces.{clean}
use Rattle.sj_parse.proofs.SpelledScalars.{not_scalar}
use Rattle.sj_parse.proofs.FirstToken.{Good, Takes, string_first, word_first}
use Rattle.sj_parse.proofs.Joined.{takes_map}

-- a scalar has no levels
pub token_depth : (t : Token) → depth (token_tree t) ≡ 0
token_depth t =
    let P : Tree → Type 0 = λ v. depth v ≡ 0 in
    cond_both (t.byte == 0x22) _ _ P (λ _. refl) (λ _.
    cond_both (t.byte == 0x74) _ _ P (λ _. refl) (λ _.
    cond_both (t.byte == 0x66) _ _ P (λ _. refl) (λ _.
    cond_both (t.byte == 0x6e) _ _ P (λ _. refl) (λ _.
    cond_both (is_integer t.text) _ _ P (λ _. refl) (λ _. refl)))))

no_operator : (b : ℕ) → begins_scalar b ≡ true → is_operator b ≡ false
no_operator b h = rw (not_scalar b 0x7b h refl, not_scalar b 0x7d h refl, not_scalar b 0x5b h refl, not_scalar b 0x5d h refl, not_scalar b 0x3a h refl, not_scalar b 0x2c h refl) refl

none_if : (b : Bool) (s : Stop) → (if b then None else Some s) ≡ None → b ≡ true
none_if true s e = refl
none_if false s e = absurd cc

module _ (t : Token) (ts : List Token) (begins : begins_scalar t.byte ≡ true) (bs : List ℕ) (n : ℕ) (good : Good n bs) (found : (clean n bs).tokens ≡ t ∷ ts) where
  -- a word that spells this tree
  word_spells : (v : Tree) → (t.byte == 0x22) ≡ false → list_all is_word_byte t.text ≡ true → SpellsValue v t.text → token_tree t ≡ v → Takes (SpellsValue (token_tree t)) bs ts
  word_spells v quote bytes h same =
      takes_map (λ piece. piece ≡ t.text) (SpellsValue (token_tree t)) bs ts (λ piece e. subst (λ w. SpellsValue w piece) (sym same) (subst (λ (ys : List ℕ). SpellsValue v ys) (sym e) h))
      (word_first t ts (no_operator t.byte begins) quote bytes bs n good found)

  literal_spells : (v : Tree) (literal : List ℕ) (kind : DescentKind) → (t.byte == 0x22) ≡ false → list_all is_word_byte literal ≡ true → SpellsValue v literal → literal_stop literal kind t ≡ None → token_tree t ≡ v → Takes (SpellsValue (token_tree t)) bs ts
  literal_spells v literal kind quote bytes h none same =
      let text : t.text ≡ literal = (bytes_eq-Decides t.text literal).0 (none_if (bytes_eq t.text literal) (stop kind t.place) none) in
      word_spells v quote (ap (λ ys. list_all is_word_byte ys) text ∙ bytes) (subst (λ (ys : List ℕ). SpellsValue v ys) (sym text) h) same

  pub scalar_first : scalar_stop t ≡ None → Takes (SpellsValue (token_tree t)) bs ts
  scalar_first none = elim (cases_Bool (t.byte == 0x22)) [
    | inl quote ↦
        let same : token_tree t ≡ string (decoded t.text) = rw quote refl in
        subst (λ v. Takes (SpellsValue v) bs ts) (sym same) (string_first t ts (eqb-true t.byte 0x22 quote) (rw quote at none) bs n good found)
    | inr quote ↦ elim (cases_Bool (t.byte == 0x74)) [
      | inl is_t ↦ literal_spells (boolean true) (codes "true") _ quote refl refl (rw (quote, is_t) at none) (rw (quote, is_t) refl)
      | inr no_t ↦ elim (cases_Bool (t.byte == 0x66)) [
        | inl is_f ↦ literal_spells (boolean false) (codes "false") _ quote refl refl (rw (quote, no_t, is_f) at none) (rw (quote, no_t, is_f) refl)
        | inr no_f ↦ elim (cases_Bool (t.byte == 0x6e)) [
          | inl is_n ↦ literal_spells null (codes "null") _ quote refl refl (rw (quote, no_t, no_f, is_n) at none) (rw (quote, no_t, no_f, is_n) refl)
          | inr no_n ↦
              let number : is_number t.text ≡ true = none_if (is_number t.text) _ (rw (quote, no_t, no_f, no_n) at none) in
              word_spells (number_tree t.text) quote (is_word-number t.text number).0 (spells-number_tree t.text number) (rw (quote, no_t, no_f, no_n) refl)
        ]
      ]
    ]
  ]
