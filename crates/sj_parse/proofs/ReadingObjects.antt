-- An object, from the bytes to what is read.
use Rattle.std.proofs.Common.{◌≡◌, ℕ, zero, suc, ◌≤◌, Bool, true, false, List, [], ◌∷◌, ◌++◌, length, None, Ok, append_assoc, refl, ap, ◌∙◌, arith}
use Rattle.std.specs.Prelude.{◌==◌, if◌then◌else◌}
use Rattle.std.proofs.lemmas.Bool.{eqb-true}
use Rattle.sj_parse.specs.declared.descent_fault.DescentKind.{DescentKind}
use Rattle.sj_parse.specs.declared.descent_fault.DescentKind.TheVariants.{InternalError, ExpectedObjectContent, ExpectedObjectKey}
use Rattle.sj_base.specs.Tree.{Tree, object, Members, no_members, member}
use Rattle.sj_base.specs.Spelling.{AreSpaces, SpellsString, Pairs, SpellsValue}
use Rattle.sj_parse.specs.Token.{Token}
use Rattle.sj_parse.specs.Descent.{Left, left, scalar_stop}
use Rattle.sj_parse.specs.inside.Decoded.{decoded}
use Rattle.sj_parse.specs.inside.Trees.{Reading, with_rest, mapped, on_token, tree_of_expected_member, tree_of_more_members, tree_value}
use Rattle.sj_parse.proofs.Shorter.{shorter-member}
use Rattle.sj_parse.proofs.Pieces.{clean, token, with_front, past, clean-spaces, Ends}
use Rattle.sj_parse.proofs.ReadingValues.{Reads, ReadsValue}
use Rattle.sj_parse.proofs.SpelledScalars.{string_token}

abbrev pub ReadsMember : ℕ → List ℕ → Tree → List ℕ → Type 0
ReadsMember limit k t bs = (n : ℕ) (rest : List ℕ) (kind : DescentKind) (last : ℕ) → Ends rest → Reads (List ℕ × Tree) (on_token (tree_of_expected_member (tree_value limit) kind) last) (k, t) n (bs ++ rest) rest

abbrev pub ReadsMoreMembers : ℕ → Members → List ℕ → Type 0
ReadsMoreMembers limit ms bs = (n : ℕ) (rest : List ℕ) (count last : ℕ) → length (clean n (bs ++ 0x7d ∷ rest)).tokens ≤ count → Reads Members (tree_of_more_members (tree_value limit) count last) ms n (bs ++ 0x7d ∷ rest) rest

-- behind a key
member_reads : (limit : ℕ) (kind : DescentKind) (last n m : ℕ) (k body : List ℕ) (t : Tree) (us : List Token) (l : Left) → scalar_stop (token n 0x22 body) ≡ None → decoded body ≡ k → tree_value limit InternalError m us ≡ Ok (t, l) → on_token (tree_of_expected_member (tree_value limit) kind) last (token n 0x22 body ∷ token m 0x3a (0x3a ∷ []) ∷ us) ≡ Ok ((k, t), l)
member_reads limit kind last n m k body t us l good meant e =
    rw good (ap (λ r. mapped (λ x. (decoded body, x)) r) e ∙ ap (λ ys. Ok ((ys, t), l)) meant)

pub reads_pairs : (limit : ℕ) (k : List ℕ) (t : Tree) (bs : List ℕ) (p : Pairs (SpellsString k) (SpellsValue t) bs) → ReadsValue limit t p.1 → ReadsMember limit k t bs
reads_pairs limit k t bs p value n rest kind last ends =
    let key = p.3 in
    let colon = 0x3a ∷ (p.1 ++ rest) in
    let grouped : bs ++ rest ≡ key.before ++ (key.inner ++ (key.after ++ colon)) = ap (λ (xs : List ℕ). xs ++ rest) p.2 ∙ append_assoc p.0 (0x3a ∷ p.1) rest ∙ ap (λ (xs : List ℕ). xs ++ colon) key.parts ∙ append_assoc key.before (key.inner ++ key.after) colon ∙ ap (λ (xs : List ℕ). key.before ++ xs) (append_assoc key.inner key.after colon) in
    let start = past n key.before in
    let s = string_token k key.inner start (key.after ++ colon) key.holds in
    let middle = past s.end key.after in
    let walks : clean n (bs ++ rest) ≡ with_front (token start 0x22 s.body) (with_front (token middle 0x3a (0x3a ∷ [])) (clean (suc middle) (p.1 ++ rest))) =
    ap (clean n) grouped ∙ clean-spaces key.before n (key.inner ++ (key.after ++ colon)) key.spaces_before ∙ s.walks ∙ ap (with_front (token start 0x22 s.body)) (clean-spaces key.after s.end colon key.spaces_after) in
    let v = value (suc middle) rest InternalError middle ends in
    record {
      end = v.end;
      last = v.last;
      bad = ap (λ w. w.bad) walks ∙ v.bad;
      reads = ap (λ w. on_token (tree_of_expected_member (tree_value limit) kind) last w.tokens) walks ∙ member_reads limit kind last start middle k s.body t _ _ s.good s.meant v.reads;
    }

pub more_members_none : (limit : ℕ) (bs : List ℕ) → bs ≡ [] → ReadsMoreMembers limit no_members bs
more_members_none limit bs e n rest zero last le = let none = ap (λ ys. length (clean n (ys ++ 0x7d ∷ rest)).tokens) e in absurd (omega arith)
more_members_none limit bs e n rest (suc count) last le = record {
  end = suc n;
  last = n;
  bad = ap (λ ys. (clean n (ys ++ 0x7d ∷ rest)).bad) e;
  reads = ap (λ ys. tree_of_more_members (tree_value limit) (suc count) last (clean n (ys ++ 0x7d ∷ rest)).tokens) e;
}

pub more_members_some : (limit : ℕ) (k : List ℕ) (t : Tree) (ms : Members) (bs first more : List ℕ) → bs ≡ 0x2c ∷ (first ++ more) → ((rest : List ℕ) → Ends (more ++ 0x7d ∷ rest)) → ReadsMember limit k t first → ReadsMoreMembers limit ms more → ReadsMoreMembers limit (member k t ms) bs
more_members_some limit k t ms bs first more e ends value others n rest zero last le =
    let some = ap (λ ys. length (clean n (ys ++ 0x7d ∷ rest)).tokens) e in absurd (omega arith)
more_members_some limit k t ms bs first more e ends value others n rest (suc count) last le =
    let whole : clean n (bs ++ 0x7d ∷ rest) ≡ with_front (token n 0x2c (0x2c ∷ [])) (clean (suc n) (first ++ (more ++ 0x7d ∷ rest))) = ap (λ ys. clean n (ys ++ 0x7d ∷ rest)) e ∙ ap (λ ys. clean n (0x2c ∷ ys)) (append_assoc first more (0x7d ∷ rest)) in
    let us = (clean (suc n) (first ++ (more ++ 0x7d ∷ rest))).tokens in
    let v = value (suc n) (more ++ 0x7d ∷ rest) ExpectedObjectKey n (ends rest) in
    let shorter = shorter-member limit ExpectedObjectKey n us (k, t) (left v.last (clean v.end (more ++ 0x7d ∷ rest)).tokens) v.reads in
    let longer = ap (λ w. length w.tokens) whole in
    let m = others v.end rest count v.last (omega arith) in
    record {
      end = m.end;
      last = m.last;
      bad = ap (λ w. w.bad) whole ∙ v.bad ∙ m.bad;
      reads = ap (λ w. tree_of_more_members (tree_value limit) (suc count) last w.tokens) whole ∙ ap (λ r. with_rest r (λ x place others₁. mapped (member x.0 x.1) (tree_of_more_members (tree_value limit) count place others₁))) v.reads ∙ ap (λ r. mapped (member k t) r) m.reads;
    }

-- what is read as a member doesn't begin with a closing byte
first_member : (limit : ℕ) (last : ℕ) (us : List Token) (m : List ℕ × Tree) (l : Left) (closed : Token → List Token → Reading Tree) (f : List ℕ × Tree → ℕ → List Token → Reading Tree) → on_token (tree_of_expected_member (tree_value limit) ExpectedObjectContent) last us ≡ Ok (m, l) → on_token (λ u others. if u.byte == 0x7d then closed u others else with_rest (tree_of_expected_member (tree_value limit) ExpectedObjectContent u others) f) last us ≡ with_rest (Ok (m, l)) f
first_member limit last [] m l closed f e = absurd cc
first_member limit last (u ∷ us) m l closed f e = at (u.byte == 0x7d) refl
  where
    at : (x : Bool) → (u.byte == 0x7d) ≡ x → (if x then closed u us else with_rest (tree_of_expected_member (tree_value limit) ExpectedObjectContent u us) f) ≡ with_rest (Ok (m, l)) f
    at true h = let close = eqb-true u.byte 0x7d h in let none = rw close at e in absurd cc
    at false h = ap (λ r. with_rest r f) e

-- an object with nothing but whitespace
pub object_none : (limit : ℕ) (bs inner : List ℕ) → bs ≡ 0x7b ∷ (inner ++ 0x7d ∷ []) → AreSpaces inner → ReadsValue (suc limit) (object no_members) bs
unfolding tree_value
object_none limit bs inner e h n rest kind last ends =
    let opened : clean n (bs ++ rest) ≡ with_front (token n 0x7b (0x7b ∷ [])) (clean (past (suc n) inner) (0x7d ∷ rest)) = ap (λ ys. clean n (ys ++ rest)) e ∙ ap (λ ys. clean n (0x7b ∷ ys)) (append_assoc inner (0x7d ∷ []) rest) ∙ ap (with_front (token n 0x7b (0x7b ∷ []))) (clean-spaces inner (suc n) (0x7d ∷ rest) h) in
    record {
      end = suc (past (suc n) inner);
      last = past (suc n) inner;
      bad = ap (λ w. w.bad) opened;
      reads = ap (λ w. tree_value (suc limit) kind last w.tokens) opened;
    }

-- a member and further ones
object_reads : (limit : ℕ) (kind : DescentKind) (last n : ℕ) (all us : List Token) (m : List ℕ × Tree) (ms : Members) (l r : Left) → all ≡ token n 0x7b (0x7b ∷ []) ∷ us → on_token (tree_of_expected_member (tree_value limit) ExpectedObjectContent) n us ≡ Ok (m, l) → tree_of_more_members (tree_value limit) (length us) l.last l.tokens ≡ Ok (ms, r) → tree_value (suc limit) kind last all ≡ Ok (object (member m.0 m.1 ms), r)
unfolding tree_value
object_reads limit kind last n all us m ms l r opened first more =
    let behind = λ (x : List ℕ × Tree) (place : ℕ) (rest : List Token). mapped (λ xs. object (member x.0 x.1 xs)) (tree_of_more_members (tree_value limit) (length us) place rest) in
    ap (λ ys. tree_value (suc limit) kind last ys) opened ∙ first_member limit n us m l (λ u others. Ok (object no_members, left u.place others)) behind first
    ∙ ap (λ x. mapped (λ xs. object (member m.0 m.1 xs)) x) more

pub object_some : (limit : ℕ) (k : List ℕ) (t : Tree) (ms : Members) (bs inner first more : List ℕ) → bs ≡ 0x7b ∷ (inner ++ 0x7d ∷ []) → inner ≡ first ++ more → ((rest : List ℕ) → Ends (more ++ 0x7d ∷ rest)) → ReadsMember limit k t first → ReadsMoreMembers limit ms more → ReadsValue (suc limit) (object (member k t ms)) bs
object_some limit k t ms bs inner first more e f ends value others n rest kind last end =
    let grouped : (inner ++ 0x7d ∷ []) ++ rest ≡ first ++ (more ++ 0x7d ∷ rest) = append_assoc inner (0x7d ∷ []) rest ∙ ap (λ ys. ys ++ 0x7d ∷ rest) f ∙ append_assoc first more (0x7d ∷ rest) in
    let opened : clean n (bs ++ rest) ≡ with_front (token n 0x7b (0x7b ∷ [])) (clean (suc n) (first ++ (more ++ 0x7d ∷ rest))) = ap (λ ys. clean n (ys ++ rest)) e ∙ ap (λ ys. clean n (0x7b ∷ ys)) grouped in
    let us = (clean (suc n) (first ++ (more ++ 0x7d ∷ rest))).tokens in
    let v = value (suc n) (more ++ 0x7d ∷ rest) ExpectedObjectContent n (ends rest) in
    let shorter = shorter-member limit ExpectedObjectContent n us (k, t) (left v.last (clean v.end (more ++ 0x7d ∷ rest)).tokens) v.reads in
    let m = others v.end rest (length us) v.last (omega arith) in
    record {
      end = m.end;
      last = m.last;
      bad = ap (λ w. w.bad) opened ∙ v.bad ∙ m.bad;
      reads = object_reads limit kind last n (clean n (bs ++ rest)).tokens us (k, t) ms (left v.last (clean v.end (more ++ 0x7d ∷ rest)).tokens) (left m.last (clean m.end rest).tokens) (ap (λ w. w.tokens) opened) v.reads m.reads;
    }
