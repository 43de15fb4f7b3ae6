-- Tokens of literals: the word that begins with their letter.
use Rattle.std.proofs.Common.{◌≡◌, ℕ, ◌<◌, Bool, true, false, List, length, Some, None, Result, Ok, Err, MatchResult, refl, sym, ap, ◌∙◌}
use Rattle.std.specs.Prelude.{◌==◌, if◌then◌else◌, slice_index, codes, bytes_eq}
use Rattle.sj_parse.specs.declared.descent_fault.DescentKind.{DescentKind}
use Rattle.sj_parse.specs.declared.descent_fault.DescentKind.TheVariants.{ExpectedTrue, ExpectedFalse, ExpectedNull}
use Rattle.sj_base.specs.declared.static_node.StaticNode.{StaticNode}
use Rattle.sj_base.specs.declared.static_node.StaticNode.TheVariants.{Null, Bool as Boolean}
use Rattle.sj_tape.specs.declared.node.Node.TheVariants.{Static}
use Rattle.sj_scan.specs.Positions.{is_operator}
use Rattle.sj_parse.specs.declared.descent_fault.Stop.{Stop}
use Rattle.sj_parse.specs.Token.{Token, word}
use Rattle.sj_parse.specs.Escapes.{stop}
use Rattle.sj_parse.specs.Atoms.{is_atom}
use Rattle.sj_parse.specs.Descent.{scalar_stop, literal_stop}
use Rattle.sj_parse.specs.inside.Step.{token_of, IsScalarNode}
use Rattle.sj_parse.proofs.AtomLemmas.{true_atom-word, false_atom-word, null_atom-word}
use Rattle.sj_parse.proofs.ScalarTokens.{word_text}

module _ (place : ℕ) (before bytes : List ℕ) (some : 0 < length bytes) where
  abbrev token : Token
  token = token_of place before bytes

  abbrev first : ℕ
  first = slice_index bytes 0

  abbrev IsRead : Result StaticNode Stop → Type 0
  IsRead r = MatchResult r (λ node. IsScalarNode token (Static node)) (λ s. scalar_stop token ≡ Some s)

  -- the test on the bytes is that on the token's text
  same_test : (literal : List ℕ) → is_operator first ≡ false → (first == 0x22) ≡ false → is_atom literal bytes ≡ bytes_eq (word bytes) literal → bytes_eq (token).text literal ≡ is_atom literal bytes
  same_test literal no_operator no_quote atom = ap (λ (text : List ℕ). bytes_eq text literal) (word_text place before bytes 0 some no_operator no_quote) ∙ sym atom

  -- What the test decides is what the token's fault is.
  reads : (literal : List ℕ) (kind : DescentKind) (node : StaticNode) (valid : Bool) (r : Result StaticNode Stop) →
      scalar_stop token ≡ literal_stop literal kind token → bytes_eq (token).text literal ≡ is_atom literal bytes
      → (scalar_stop token ≡ None → IsScalarNode token (Static node))
      → valid ≡ is_atom literal bytes → r ≡ (if valid then Ok node else Err (stop kind place)) → IsRead r
  reads literal kind node true r stops same is valid result =
      rw result (is (stops ∙ ap (λ (b : Bool). if b then None else Some (stop kind place)) (same ∙ sym valid)))
  reads literal kind node false r stops same is valid result =
      rw result (stops ∙ ap (λ (b : Bool). if b then None else Some (stop kind place)) (same ∙ sym valid))

  pub true_reads : (valid : Bool) (r : Result StaticNode Stop) → first ≡ 0x74 → valid ≡ is_atom (codes "true") bytes → r ≡ (if valid then Ok (Boolean true) else Err (stop ExpectedTrue place)) → IsRead r
  true_reads valid r t = reads (codes "true") ExpectedTrue (Boolean true) valid r (rw t refl)
      (same_test (codes "true") (ap is_operator t) (ap (λ (b : ℕ). b == 0x22) t) (true_atom-word bytes))
      (λ right. record { is_right = right; lists = rw t refl; carries = tt })

  pub false_reads : (valid : Bool) (r : Result StaticNode Stop) → first ≡ 0x66 → valid ≡ is_atom (codes "false") bytes → r ≡ (if valid then Ok (Boolean false) else Err (stop ExpectedFalse place)) → IsRead r
  false_reads valid r f = reads (codes "false") ExpectedFalse (Boolean false) valid r (rw f refl)
      (same_test (codes "false") (ap is_operator f) (ap (λ (b : ℕ). b == 0x22) f) (false_atom-word bytes))
      (λ right. record { is_right = right; lists = rw f refl; carries = tt })

  pub null_reads : (valid : Bool) (r : Result StaticNode Stop) → first ≡ 0x6e → valid ≡ is_atom (codes "null") bytes → r ≡ (if valid then Ok Null else Err (stop ExpectedNull place)) → IsRead r
  null_reads valid r n = reads (codes "null") ExpectedNull Null valid r (rw n refl)
      (same_test (codes "null") (ap is_operator n) (ap (λ (b : ℕ). b == 0x22) n) (null_atom-word bytes))
      (λ right. record { is_right = right; lists = rw n refl; carries = tt })
