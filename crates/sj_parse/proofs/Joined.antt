-- Parts that were read one after the other, and what they are together.
use Rattle.std.proofs.Common.{◌≡◌, ℕ, ◌⊎◌, Bool, true, false, List, [], ◌∷◌, ◌++◌, Option, Some, None, Ok, Err, append_assoc, refl, ap, ◌∙◌, inl, inr}
use Rattle.std.specs.Prelude.{if◌then◌else◌}
use Rattle.sj_base.specs.Tree.{Tree}
use Rattle.sj_base.specs.Spelling.{AreSpaces, Padded, Pairs, SpellsString, SpellsValue, Between}
use Rattle.sj_parse.specs.declared.descent_fault.Stop.{Stop}
use Rattle.sj_parse.specs.Token.{Token}
use Rattle.sj_parse.specs.Descent.{Left}
use Rattle.sj_parse.specs.inside.Trees.{Reading, with_rest, mapped, on_token, judged}
use Rattle.sj_parse.proofs.FirstToken.{Takes}

-- ---- steps that read something

pub if_parts : {A : Type 0} (b : Bool) (x y : Reading A) (p : A × Left) → (if b then x else y) ≡ Ok p → ((b ≡ true) × (x ≡ Ok p)) ⊎ ((b ≡ false) × (y ≡ Ok p))
if_parts true x y p e = inl (refl, e)
if_parts false x y p e = inr (refl, e)

pub on_token_parts : {A : Type 0} (read : Token → List Token → Reading A) (last : ℕ) (ts : List Token) (p : A × Left) → on_token read last ts ≡ Ok p → (u : Token) × (us : List Token) × (ts ≡ u ∷ us) × (read u us ≡ Ok p)
on_token_parts read last [] p e = absurd cc
on_token_parts read last (u ∷ us) p e = (u, us, refl, e)

pub then_parts : {A B : Type 0} (r : Reading A) (read : A → ℕ → List Token → Reading B) (p : B × Left) → with_rest r read ≡ Ok p → (x : A) × (l : Left) × (r ≡ Ok (x, l)) × (read x l.last l.tokens ≡ Ok p)
then_parts (Ok q) read p e = (q.0, q.1, refl, e)
then_parts (Err s) read p e = absurd cc

abbrev IsSameReading : {A : Type 0} → A × Left → A × Left → Type 0
IsSameReading {A} p q = let x : Reading A = Ok p in let y : Reading A = Ok q in x ≡ y

pub read_parts : {A : Type 0} (p q : A × Left) → IsSameReading p q → (p.0 ≡ q.0) × (p.1 ≡ q.1)
read_parts p q e = let same : p ≡ q = cc in (ap (λ r. r.0) same, ap (λ r. r.1) same)

pub mapped_parts : {A B : Type 0} (f : A → B) (r : Reading A) (y : B) (l : Left) → mapped f r ≡ Ok (y, l) → (x : A) × (r ≡ Ok (x, l)) × (f x ≡ y)
mapped_parts f (Ok q) y l e =
    let both = read_parts (f q.0, q.1) (y, l) e in
    (q.0, ap (λ k. Ok (q.0, k)) both.1, both.0)
mapped_parts f (Err s) y l e = absurd cc

pub judged_parts : {A : Type 0} (o : Option Stop) (x y : A) (k l : Left) → judged o x k ≡ Ok (y, l) → (o ≡ None) × (x ≡ y) × (k ≡ l)
judged_parts None x y k l e =
    let both = read_parts (x, k) (y, l) e in
    (refl, both.0, both.1)
judged_parts (Some s) x y k l e = absurd cc

-- ---- the bytes of several parts

-- with whitespace around it
abbrev pub InSpaces : (List ℕ → Type 0) → List ℕ → Type 0
InSpaces P piece = (before after : List ℕ) → AreSpaces before → AreSpaces after → P (before ++ (piece ++ after))

-- what P holds of, and a closing byte
abbrev pub ClosedBy : ℕ → (List ℕ → Type 0) → List ℕ → Type 0
ClosedBy closing P piece = (inner : List ℕ) × (piece ≡ inner ++ closing ∷ []) × P inner

-- a byte, two parts and a closing byte
abbrev pub Sequence : ℕ → ℕ → (List ℕ → Type 0) → (List ℕ → Type 0) → List ℕ → Type 0
Sequence opening closing P Q piece = (first more : List ℕ) × (piece ≡ opening ∷ ((first ++ more) ++ closing ∷ [])) × P first × Q more

pub takes_map : (P Q : List ℕ → Type 0) (bs : List ℕ) (ts : List Token) → ((piece : List ℕ) → P piece → Q piece) → Takes P bs ts → Takes Q bs ts
takes_map P Q bs ts f k = record { spaces = k.spaces; piece = k.piece; rest = k.rest; end = k.end; parts = k.parts; are_spaces = k.are_spaces; holds = f k.piece k.holds; good = k.good; left = k.left }

-- one part behind another
takes_then : (P Q R : List ℕ → Type 0) (bs : List ℕ) (ts us : List Token) (a : Takes P bs ts) → Takes Q a.rest us → ((first spaces second : List ℕ) → AreSpaces spaces → P first → Q second → R (first ++ (spaces ++ second))) → Takes R bs us
takes_then P Q R bs ts us a b f = record {
  spaces = a.spaces;
  piece = a.piece ++ (b.spaces ++ b.piece);
  rest = b.rest;
  end = b.end;
  parts = a.parts ∙ ap (λ ys. a.spaces ++ (a.piece ++ ys)) b.parts ∙ grouped a.spaces a.piece b.spaces b.piece b.rest;
  are_spaces = a.are_spaces;
  holds = f a.piece b.spaces b.piece b.are_spaces a.holds b.holds;
  good = b.good;
  left = b.left;
}
  where
    grouped : (s x y z r : List ℕ) → s ++ (x ++ (y ++ (z ++ r))) ≡ s ++ ((x ++ (y ++ z)) ++ r)
    grouped s x y z r = simp append_assoc

-- an opening byte and a closing one
pub takes_empty : (opening closing : ℕ) (bs : List ℕ) (ts us : List Token) (a : Takes (λ piece. piece ≡ opening ∷ []) bs ts) → Takes (λ piece. piece ≡ closing ∷ []) a.rest us → Takes (Between opening closing AreSpaces) bs us
takes_empty opening closing bs ts us a b =
    takes_then (λ piece. piece ≡ opening ∷ []) (λ piece. piece ≡ closing ∷ []) (Between opening closing AreSpaces) bs ts us a b
    (λ first spaces second h e f. (spaces, rw (e, f) refl, h))

-- an element, and further ones up to the closing byte
abbrev Elements : ℕ → (List ℕ → Type 0) → (List ℕ → Type 0) → List ℕ → Type 0
Elements closing P Q piece = (before : List ℕ) → AreSpaces before → (first more : List ℕ) × (before ++ piece ≡ (first ++ more) ++ closing ∷ []) × P first × Q more

pub takes_sequence : (opening closing : ℕ) (P Q : List ℕ → Type 0) (bs : List ℕ) (ts us vs : List Token) (a : Takes (λ piece. piece ≡ opening ∷ []) bs ts) (b : Takes (InSpaces P) a.rest us) → Takes (ClosedBy closing Q) b.rest vs → Takes (Sequence opening closing P Q) bs vs
takes_sequence opening closing P Q bs ts us vs a b d =
    takes_then (λ piece. piece ≡ opening ∷ []) (Elements closing P Q) (Sequence opening closing P Q) bs ts vs a
    (takes_then (InSpaces P) (ClosedBy closing Q) (Elements closing P Q) a.rest us vs b d (λ first spaces second h p q before k. (before ++ (first ++ spaces), q.0, grouped before first spaces second q.0 q.1, p before spaces k h, q.2)))
    (λ first spaces second h e f. let k = f spaces h in (k.0, k.1, rw e (ap (λ ys. opening ∷ ys) k.2), k.3, k.4))
  where
    grouped : (before first spaces second inner : List ℕ) → second ≡ inner ++ closing ∷ [] → before ++ (first ++ (spaces ++ second)) ≡ ((before ++ (first ++ spaces)) ++ inner) ++ closing ∷ []
    grouped before first spaces second inner e = rw e (simp append_assoc)

-- a value in whitespace
pub padded_value : (t : Tree) (piece : List ℕ) → SpellsValue t piece → InSpaces (Padded (SpellsValue t)) piece
padded_value t piece h before after s r = record { before = before; inner = piece; after = after; parts = refl; spaces_before = s; spaces_after = r; holds = h }

-- a colon and a value
abbrev ColonValue : Tree → List ℕ → Type 0
ColonValue t piece = (value : List ℕ) × (piece ≡ 0x3a ∷ value) × ((after : List ℕ) → AreSpaces after → Padded (SpellsValue t) (value ++ after))

-- a key, a colon and a value
pub takes_pair : (k : List ℕ) (t : Tree) (bs : List ℕ) (ts us vs : List Token) (a : Takes (SpellsString k) bs ts) (b : Takes (λ piece. piece ≡ 0x3a ∷ []) a.rest us) → Takes (SpellsValue t) b.rest vs → Takes (InSpaces (Pairs (SpellsString k) (SpellsValue t))) bs vs
takes_pair k t bs ts us vs a b d =
    takes_then (SpellsString k) (ColonValue t) (InSpaces (Pairs (SpellsString k) (SpellsValue t))) bs ts vs a
    (takes_then (λ piece. piece ≡ 0x3a ∷ []) (SpellsValue t) (ColonValue t) a.rest us vs b d (λ first spaces second h e p. (spaces ++ second, rw e refl, λ after r. record { before = spaces; inner = second; after = after; parts = append_assoc spaces second after; spaces_before = h; spaces_after = r; holds = p })))
    (λ first spaces second h p q before after s r. (before ++ (first ++ spaces), q.0 ++ after, grouped before first spaces second q.0 after q.1, record { before = before; inner = first; after = spaces; parts = refl; spaces_before = s; spaces_after = h; holds = p }, q.2 after r))
  where
    grouped : (before first spaces second value after : List ℕ) → second ≡ 0x3a ∷ value → before ++ ((first ++ (spaces ++ second)) ++ after) ≡ (before ++ (first ++ spaces)) ++ 0x3a ∷ (value ++ after)
    grouped before first spaces second value after e = rw e (simp append_assoc)
