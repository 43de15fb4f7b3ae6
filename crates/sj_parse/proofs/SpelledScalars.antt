-- The token that spells a scalar, and the scalar that it is read as.
use Rattle.std.proofs.Common.{◌≡◌, ℕ, zero, suc, ◌⊎◌, true, false, List, [], ◌∷◌, ◌++◌, None, Ok, append_assoc, refl, sym, ap, ◌∙◌, inl, inr}
use Rattle.std.specs.Prelude.{◌==◌, codes}
use Rattle.std.specs.Char.{IsAsciiDigit}
use Rattle.std.specs.List.{list_all}
use Rattle.std.proofs.lemmas.Bool.{ne_eqb, false≢true}
use Rattle.sj_parse.specs.declared.descent_fault.DescentKind.{DescentKind}
use Rattle.sj_base.specs.Tree.{Tree, null, boolean, integer, decimal, string, list, object}
use Rattle.sj_base.specs.Spelling.{SpellsString, SpellsValue}
use Rattle.sj_base.proofs.Literals.{to_test}
use Rattle.sj_parse.specs.Token.{Token}
use Rattle.sj_base.specs.NumberTests.{is_number}
use Rattle.sj_parse.specs.Descent.{left, scalar_stop, begins_scalar}
use Rattle.sj_parse.specs.inside.Decoded.{decoded}
use Rattle.sj_parse.specs.inside.Trees.{Reading, number_tree, token_tree, tree_of_value, tree_of_items, tree_of_members, no_tree, tree_value}
use Rattle.sj_parse.specs.inside.WordBytes.{is_word_byte}
use Rattle.sj_parse.proofs.ScalarTokens.{BeginsNumber, number_begins, number_stops, number_trees}
use Rattle.sj_parse.proofs.NumberLemmas.{number-from_spells_integer, number-from_spells_decimal, is_word-number}
use Rattle.sj_parse.proofs.StringLemmas.{Means-inner}
use Rattle.sj_parse.proofs.Pieces.{clean, token, with_front, past, string_step, word_step, Ends}

-- the bytes are one token, before the rest
pub record OneToken (t : Tree) (bs : List ℕ) (n : ℕ) (rest : List ℕ) : Type 0 where
  pub token : Token
  pub end : ℕ
  pub walks : clean n (bs ++ rest) ≡ with_front token (clean end rest)
  pub begins : begins_scalar token.byte ≡ true
  pub good : scalar_stop token ≡ None
  pub tree : token_tree token ≡ t

-- likewise of a string
pub record StringToken (text bs : List ℕ) (n : ℕ) (rest : List ℕ) : Type 0 where
  pub body : List ℕ
  pub end : ℕ
  pub walks : clean n (bs ++ rest) ≡ with_front (token n 0x22 body) (clean end rest)
  pub good : scalar_stop (token n 0x22 body) ≡ None
  pub meant : decoded body ≡ text

pub string_token : (text bs : List ℕ) (n : ℕ) (rest : List ℕ) → SpellsString text bs → StringToken text bs n rest
string_token text bs n rest h =
    let m = Means-inner h.body text h.means in
    record {
      body = h.body;
      end = suc (past (suc n) h.body);
      walks = ap (λ ys. clean n (ys ++ rest)) h.parts ∙ ap (λ ys. clean n (0x22 ∷ ys)) (append_assoc h.body (0x22 ∷ []) rest) ∙ string_step true n h.body rest m.0 m.1;
      good = m.2 (suc n);
      meant = sym m.3;
    }

-- ---- numbers

begins_number : (b : ℕ) → ((b ≡ 0x2d) ⊎ IsAsciiDigit b) → BeginsNumber b
begins_number b (inl e) = inl e
begins_number b (inr d) = inr (to_test b d)

number_token : (t : Tree) (bs : List ℕ) (n : ℕ) (rest : List ℕ) → is_number bs ≡ true → number_tree bs ≡ t → Ends rest → OneToken t bs n rest
number_token t bs n rest h tree ends =
    let w = is_word-number bs h in
    let first = w.1 in
    let is = begins_number first.first first.is_first in
    let same = first.parts in
    let whole : list_all is_word_byte (first.first ∷ first.others) ≡ true = ap (λ ys. list_all is_word_byte ys) (sym same) ∙ w.0 in
    record {
      token = token n first.first bs;
      end = past (suc n) first.others;
      walks = ap (λ ys. clean n (ys ++ rest)) same ∙ word_step n first.first first.others rest whole ends ∙ ap (λ ys. with_front (token n first.first ys) (clean (past (suc n) first.others) rest)) (sym same);
      begins = number_begins first.first is;
      good = number_stops (token n first.first bs) is ∙ rw h refl;
      tree = number_trees (token n first.first bs) is ∙ tree;
    }

-- ---- scalars

-- levels are for lists and objects
abbrev pub IsScalarTree : Tree → Type 0
IsScalarTree (list ts) = ⊥
IsScalarTree (object ms) = ⊥
IsScalarTree null = Unit {0}
IsScalarTree (boolean b) = Unit {0}
IsScalarTree (integer n) = Unit {0}
IsScalarTree (decimal literal) = Unit {0}
IsScalarTree (string s) = Unit {0}

literal_token : (t : Tree) (b : ℕ) (w bs : List ℕ) (n : ℕ) (rest : List ℕ) → bs ≡ b ∷ w → list_all is_word_byte (b ∷ w) ≡ true → Ends rest → begins_scalar b ≡ true → scalar_stop (token n b (b ∷ w)) ≡ None → token_tree (token n b (b ∷ w)) ≡ t → OneToken t bs n rest
literal_token t b w bs n rest same word ends begins good tree = record {
  token = token n b (b ∷ w);
  end = past (suc n) w;
  walks = ap (λ ys. clean n (ys ++ rest)) same ∙ word_step n b w rest word ends;
  begins = begins;
  good = good;
  tree = tree;
}

pub scalar_token : (t : Tree) (bs : List ℕ) (n : ℕ) (rest : List ℕ) → IsScalarTree t → SpellsValue t bs → Ends rest → OneToken t bs n rest
scalar_token null bs n rest is h ends = literal_token null 0x6e (codes "ull") bs n rest h refl ends refl refl refl
scalar_token (boolean true) bs n rest is h ends = literal_token (boolean true) 0x74 (codes "rue") bs n rest h refl ends refl refl refl
scalar_token (boolean false) bs n rest is h ends = literal_token (boolean false) 0x66 (codes "alse") bs n rest h refl ends refl refl refl
scalar_token (integer i) bs n rest is h ends = let k = number-from_spells_integer i bs h in number_token (integer i) bs n rest k.0 k.1 ends
scalar_token (decimal literal) bs n rest is h ends = let k = number-from_spells_decimal literal bs h in number_token (decimal literal) bs n rest k.0 k.1 ends
scalar_token (string s) bs n rest is h ends =
    let k = string_token s bs n rest h in
    record { token = token n 0x22 k.body; end = k.end; walks = k.walks; begins = refl; good = k.good; tree = ap string k.meant }
scalar_token (list ts) bs n rest is h ends = absurd is
scalar_token (object ms) bs n rest is h ends = absurd is

-- ---- reading it

pub not_scalar : (b c : ℕ) → begins_scalar b ≡ true → begins_scalar c ≡ false → (b == c) ≡ false
not_scalar b c h none = ne_eqb b c (λ e. false≢true (sym none ∙ ap begins_scalar (sym e) ∙ h))

scalar_read : (items members : Token → List Token → Reading Tree) (kind : DescentKind) (t : Token) (ts : List Token) → begins_scalar t.byte ≡ true → scalar_stop t ≡ None → tree_of_value items members kind t ts ≡ Ok (token_tree t, left t.place ts)
scalar_read items members kind t ts begins good =
    let no_list = not_scalar t.byte 0x5b begins refl in
    let no_object = not_scalar t.byte 0x7b begins refl in
    rw (no_list, no_object, begins, good) refl

pub scalar_value : (limit : ℕ) (kind : DescentKind) (last : ℕ) (t : Token) (ts : List Token) → begins_scalar t.byte ≡ true → scalar_stop t ≡ None → tree_value limit kind last (t ∷ ts) ≡ Ok (token_tree t, left t.place ts)
unfolding tree_value
scalar_value zero kind last t ts begins good = scalar_read no_tree no_tree kind t ts begins good
scalar_value (suc limit) kind last t ts begins good = scalar_read (tree_of_items (tree_value limit)) (tree_of_members (tree_value limit)) kind t ts begins good
