-- A list, from the bytes to what is read.
use Rattle.std.proofs.Common.{◌≡◌, ℕ, zero, suc, ◌≤◌, Bool, true, false, List, [], ◌∷◌, ◌++◌, length, Ok, append_assoc, refl, ap, ◌∙◌, arith}
use Rattle.std.specs.Prelude.{◌==◌, if◌then◌else◌}
use Rattle.std.proofs.lemmas.Bool.{eqb-true}
use Rattle.sj_parse.specs.declared.descent_fault.DescentKind.{DescentKind}
use Rattle.sj_parse.specs.declared.descent_fault.DescentKind.TheVariants.{InternalError, ExpectedArrayContent}
use Rattle.sj_base.specs.Tree.{Tree, list, Items, no_items, item}
use Rattle.sj_base.specs.Spelling.{AreSpaces}
use Rattle.sj_parse.specs.Token.{Token}
use Rattle.sj_parse.specs.Descent.{Left, left}
use Rattle.sj_parse.specs.inside.Trees.{Reading, with_rest, mapped, on_token, tree_of_more_items, tree_value}
use Rattle.sj_parse.proofs.Shorter.{shorter-tree_value}
use Rattle.sj_parse.proofs.Pieces.{clean, token, with_front, past, clean-spaces, Ends}
use Rattle.sj_parse.proofs.ReadingValues.{Reads, ReadsValue}

abbrev pub ReadsMore : ℕ → Items → List ℕ → Type 0
ReadsMore limit ts bs = (n : ℕ) (rest : List ℕ) (count last : ℕ) → length (clean n (bs ++ 0x5d ∷ rest)).tokens ≤ count → Reads Items (tree_of_more_items (tree_value limit) count last) ts n (bs ++ 0x5d ∷ rest) rest

pub more_none : (limit : ℕ) (bs : List ℕ) → bs ≡ [] → ReadsMore limit no_items bs
more_none limit bs e n rest zero last le = let none = ap (λ ys. length (clean n (ys ++ 0x5d ∷ rest)).tokens) e in absurd (omega arith)
more_none limit bs e n rest (suc count) last le = record {
  end = suc n;
  last = n;
  bad = ap (λ ys. (clean n (ys ++ 0x5d ∷ rest)).bad) e;
  reads = ap (λ ys. tree_of_more_items (tree_value limit) (suc count) last (clean n (ys ++ 0x5d ∷ rest)).tokens) e;
}

pub more_item : (limit : ℕ) (t : Tree) (ts : Items) (bs first more : List ℕ) → bs ≡ 0x2c ∷ (first ++ more) → ((rest : List ℕ) → Ends (more ++ 0x5d ∷ rest)) → ReadsValue limit t first → ReadsMore limit ts more → ReadsMore limit (item t ts) bs
more_item limit t ts bs first more e ends value others n rest zero last le =
    let some = ap (λ ys. length (clean n (ys ++ 0x5d ∷ rest)).tokens) e in absurd (omega arith)
more_item limit t ts bs first more e ends value others n rest (suc count) last le =
    let whole : clean n (bs ++ 0x5d ∷ rest) ≡ with_front (token n 0x2c (0x2c ∷ [])) (clean (suc n) (first ++ (more ++ 0x5d ∷ rest))) = ap (λ ys. clean n (ys ++ 0x5d ∷ rest)) e ∙ ap (λ ys. clean n (0x2c ∷ ys)) (append_assoc first more (0x5d ∷ rest)) in
    let us = (clean (suc n) (first ++ (more ++ 0x5d ∷ rest))).tokens in
    let k = value (suc n) (more ++ 0x5d ∷ rest) InternalError n (ends rest) in
    let shorter = shorter-tree_value limit InternalError n us t (left k.last (clean k.end (more ++ 0x5d ∷ rest)).tokens) k.reads in
    let longer = ap (λ w. length w.tokens) whole in
    let m = others k.end rest count k.last (omega arith) in
    record {
      end = m.end;
      last = m.last;
      bad = ap (λ w. w.bad) whole ∙ k.bad ∙ m.bad;
      reads = ap (λ w. tree_of_more_items (tree_value limit) (suc count) last w.tokens) whole ∙ ap (λ r. with_rest r (λ x place others. mapped (item x) (tree_of_more_items (tree_value limit) count place others))) k.reads ∙ ap (λ r. mapped (item t) r) m.reads;
    }

-- what is read as a value doesn't begin with a closing byte
no_value_at : (limit : ℕ) (kind : DescentKind) (last : ℕ) (u : Token) (us : List Token) (p : Tree × Left) → (u.byte == 0x5d) ≡ true → tree_value limit kind last (u ∷ us) ≡ Ok p → ⊥
unfolding tree_value
no_value_at zero kind last u us p h e = let close = eqb-true u.byte 0x5d h in let none = rw close at e in absurd cc
no_value_at (suc limit) kind last u us p h e = let close = eqb-true u.byte 0x5d h in let none = rw close at e in absurd cc

-- so the test for it fails
first_item : (limit : ℕ) (last : ℕ) (us : List Token) (t : Tree) (l : Left) (closed : Token → List Token → Reading Tree) (r : Reading Tree) → tree_value limit ExpectedArrayContent last us ≡ Ok (t, l) → on_token (λ u others. if u.byte == 0x5d then closed u others else r) last us ≡ r
unfolding tree_value
first_item zero last [] t l closed r e = absurd cc
first_item (suc limit) last [] t l closed r e = absurd cc
first_item limit last (u ∷ us) t l closed r e = at (u.byte == 0x5d) refl
  where
    at : (x : Bool) → (u.byte == 0x5d) ≡ x → (if x then closed u us else r) ≡ r
    at true h = absurd (no_value_at limit ExpectedArrayContent last u us (t, l) h e)
    at false h = refl

-- a list with nothing but whitespace
pub list_none : (limit : ℕ) (bs inner : List ℕ) → bs ≡ 0x5b ∷ (inner ++ 0x5d ∷ []) → AreSpaces inner → ReadsValue (suc limit) (list no_items) bs
unfolding tree_value
list_none limit bs inner e h n rest kind last ends =
    let opened : clean n (bs ++ rest) ≡ with_front (token n 0x5b (0x5b ∷ [])) (clean (past (suc n) inner) (0x5d ∷ rest)) = ap (λ ys. clean n (ys ++ rest)) e ∙ ap (λ ys. clean n (0x5b ∷ ys)) (append_assoc inner (0x5d ∷ []) rest) ∙ ap (with_front (token n 0x5b (0x5b ∷ []))) (clean-spaces inner (suc n) (0x5d ∷ rest) h) in
    record {
      end = suc (past (suc n) inner);
      last = past (suc n) inner;
      bad = ap (λ w. w.bad) opened;
      reads = ap (λ w. tree_value (suc limit) kind last w.tokens) opened;
    }

-- an item and further ones
list_reads : (limit : ℕ) (kind : DescentKind) (last n : ℕ) (all us : List Token) (t : Tree) (ts : Items) (l r : Left) → all ≡ token n 0x5b (0x5b ∷ []) ∷ us → tree_value limit ExpectedArrayContent n us ≡ Ok (t, l) → tree_of_more_items (tree_value limit) (length us) l.last l.tokens ≡ Ok (ts, r) → tree_value (suc limit) kind last all ≡ Ok (list (item t ts), r)
unfolding tree_value
list_reads limit kind last n all us t ts l r opened first more =
    let behind = λ (x : Tree) (place : ℕ) (rest : List Token). mapped (λ xs. list (item x xs)) (tree_of_more_items (tree_value limit) (length us) place rest) in
    ap (λ ys. tree_value (suc limit) kind last ys) opened ∙ first_item limit n us t l (λ u others. Ok (list no_items, left u.place others)) (with_rest (tree_value limit ExpectedArrayContent n us) behind) first
    ∙ ap (λ x. with_rest x behind) first ∙ ap (λ x. mapped (λ xs. list (item t xs)) x) more

pub list_some : (limit : ℕ) (t : Tree) (ts : Items) (bs inner first more : List ℕ) → bs ≡ 0x5b ∷ (inner ++ 0x5d ∷ []) → inner ≡ first ++ more → ((rest : List ℕ) → Ends (more ++ 0x5d ∷ rest)) → ReadsValue limit t first → ReadsMore limit ts more → ReadsValue (suc limit) (list (item t ts)) bs
list_some limit t ts bs inner first more e f ends value others n rest kind last end =
    let grouped : (inner ++ 0x5d ∷ []) ++ rest ≡ first ++ (more ++ 0x5d ∷ rest) = append_assoc inner (0x5d ∷ []) rest ∙ ap (λ ys. ys ++ 0x5d ∷ rest) f ∙ append_assoc first more (0x5d ∷ rest) in
    let opened : clean n (bs ++ rest) ≡ with_front (token n 0x5b (0x5b ∷ [])) (clean (suc n) (first ++ (more ++ 0x5d ∷ rest))) = ap (λ ys. clean n (ys ++ rest)) e ∙ ap (λ ys. clean n (0x5b ∷ ys)) grouped in
    let us = (clean (suc n) (first ++ (more ++ 0x5d ∷ rest))).tokens in
    let k = value (suc n) (more ++ 0x5d ∷ rest) ExpectedArrayContent n (ends rest) in
    let shorter = shorter-tree_value limit ExpectedArrayContent n us t (left k.last (clean k.end (more ++ 0x5d ∷ rest)).tokens) k.reads in
    let m = others k.end rest (length us) k.last (omega arith) in
    record {
      end = m.end;
      last = m.last;
      bad = ap (λ w. w.bad) opened ∙ k.bad ∙ m.bad;
      reads = list_reads limit kind last n (clean n (bs ++ rest)).tokens us t ts (left k.last (clean k.end (more ++ 0x5d ∷ rest)).tokens) (left m.last (clean m.end rest).tokens) (ap (λ w. w.tokens) opened) k.reads m.reads;
    }
