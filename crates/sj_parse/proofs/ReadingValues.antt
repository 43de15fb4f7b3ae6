-- A scalar, and whitespace around a value, from the bytes to what is read.
use Rattle.std.proofs.Common.{◌≡◌, ℕ, true, ◌||◌, List, [], ◌∷◌, ◌++◌, Ok, append_assoc, refl, ap, ◌∙◌, inl, inr}
use Rattle.sj_parse.specs.declared.descent_fault.DescentKind.{DescentKind}
use Rattle.sj_base.specs.Tree.{Tree}
use Rattle.sj_scan.specs.Positions.{is_whitespace, is_operator}
use Rattle.sj_base.specs.Spelling.{IsSpace, AreSpaces, Padded, SpellsValue}
use Rattle.sj_parse.specs.Token.{Token}
use Rattle.sj_parse.specs.Descent.{left}
use Rattle.sj_parse.specs.inside.Trees.{Reading, tree_value}
use Rattle.sj_parse.proofs.Pieces.{clean, past, clean-spaces, Ends}
use Rattle.sj_parse.proofs.SpelledScalars.{IsScalarTree, scalar_token, scalar_value}

-- Reading from a place on gives x, and ends before the rest.
pub record Reads (A : Type 0) (read : List Token → Reading A) (x : A) (n : ℕ) (bs rest : List ℕ) : Type 0 where
  pub end : ℕ
  pub last : ℕ
  pub bad : (clean n bs).bad ≡ (clean end rest).bad
  pub reads : read (clean n bs).tokens ≡ Ok (x, left last (clean end rest).tokens)

abbrev pub ReadsValue : ℕ → Tree → List ℕ → Type 0
ReadsValue limit t bs = (n : ℕ) (rest : List ℕ) (kind : DescentKind) (last : ℕ) → Ends rest → Reads Tree (tree_value limit kind last) t n (bs ++ rest) rest

-- ---- scalars

pub reads_scalar : (limit : ℕ) (t : Tree) (bs : List ℕ) → IsScalarTree t → SpellsValue t bs → ReadsValue limit t bs
reads_scalar limit t bs is h n rest kind last ends =
    let k = scalar_token t bs n rest is h ends in
    record {
      end = k.end;
      last = k.token.place;
      bad = ap (λ w. w.bad) k.walks;
      reads = ap (λ w. tree_value limit kind last w.tokens) k.walks ∙ scalar_value limit kind last k.token (clean k.end rest).tokens k.begins k.good ∙ ap (λ x. Ok (x, left k.token.place (clean k.end rest).tokens)) k.tree;
    }

-- ---- whitespace

-- whitespace ends a token too
spaces_end : (spaces rest : List ℕ) → AreSpaces spaces → Ends rest → Ends (spaces ++ rest)
spaces_end [] rest h ends = ends
spaces_end (b ∷ spaces) rest h ends = at b h.0
  where
    at : (c : ℕ) → IsSpace c → (is_whitespace c || is_operator c) ≡ true
    at c (inl e) = rw e refl
    at c (inr (inl e)) = rw e refl
    at c (inr (inr (inl e))) = rw e refl
    at c (inr (inr (inr e))) = rw e refl

pub reads_padded : (limit : ℕ) (t : Tree) (bs : List ℕ) (p : Padded (SpellsValue t) bs) → ReadsValue limit t p.inner → ReadsValue limit t bs
reads_padded limit t bs p inner n rest kind last ends =
    let grouped : bs ++ rest ≡ p.before ++ (p.inner ++ (p.after ++ rest)) = ap (λ (xs : List ℕ). xs ++ rest) p.parts ∙ append_assoc p.before (p.inner ++ p.after) rest ∙ ap (λ (xs : List ℕ). p.before ++ xs) (append_assoc p.inner p.after rest) in
    let front = ap (clean n) grouped ∙ clean-spaces p.before n (p.inner ++ (p.after ++ rest)) p.spaces_before in
    let k = inner (past n p.before) (p.after ++ rest) kind last (spaces_end p.after rest p.spaces_after ends) in
    let behind = clean-spaces p.after k.end rest p.spaces_after in
    record {
      end = past k.end p.after;
      last = k.last;
      bad = ap (λ w. w.bad) front ∙ k.bad ∙ ap (λ w. w.bad) behind;
      reads = ap (λ w. tree_value limit kind last w.tokens) front ∙ k.reads ∙ ap (λ w. Ok (t, left k.last w.tokens)) behind;
    }
