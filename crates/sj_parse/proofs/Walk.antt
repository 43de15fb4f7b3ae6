-- The tokens of a text in one walk from left to right.
use Rattle.std.proofs.Common.{◌≡◌, ℕ, suc, ◌-◌, ◌<◌, ◌≤◌, Bool, true, false, not, ◌&&◌, ◌||◌, List, [], ◌∷◌, length, drop, reverse, refl, sym, ap, ap₂, ◌∙◌, subst, add-one, arith}
use Rattle.std.specs.Prelude.{◌==◌, nat_lt, if◌then◌else◌, slice_index, map, filter}
use Rattle.std.specs.List.{range_with_len, list_any}
use Rattle.std.proofs.Math.Seq.{drop-cons}
use Rattle.std.proofs.lemmas.Bool.{eqb-true}
use Rattle.std.proofs.lemmas.List.{length-drop}
use Rattle.sj_scan.specs.Positions.{is_odd, is_whitespace, is_operator, is_real_quote, backslashes, real_quotes, is_separated, is_position, before, is_position_at}
use Rattle.sj_scan.specs.Scan.{is_control, is_control_at, has_control, is_closed}
use Rattle.sj_scan.proofs.Places.{before-more, before-all}
use Rattle.sj_parse.specs.Token.{Token, word, body, token_text, token_at, tokens}
use Rattle.sj_parse.proofs.Bodies.{body_from, body-body_from}

-- What a walk finds: the tokens, and whether a string is left open or holds a control character.
pub record Walk : Type 0 where
  pub tokens : List Token
  pub bad : Bool

-- Whether a byte is a real quote, whether it escapes the next one, and whether it stands apart from the next one; the flag says whether it is escaped.
abbrev pub is_quote : Bool → ℕ → Bool
is_quote false b = b == 0x22
is_quote true b = false

abbrev pub escapes : Bool → ℕ → Bool
escapes false b = b == 0x5c
escapes true b = false

abbrev pub separates : Bool → ℕ → Bool
separates e b = is_whitespace b || is_operator b || is_quote e b

-- whether the next byte is inside a string, by whether this one is a real quote and is inside
abbrev pub inside_behind : Bool → Bool → Bool
inside_behind true i = not i
inside_behind false i = i

-- a token begins at the byte, by whether it is escaped, inside a string, and separated
abbrev pub begins : Bool → Bool → Bool → ℕ → Bool
begins e true s b = false
begins e false s b = not (is_whitespace b) && (is_operator b || is_quote e b || s)

abbrev pub controls : Bool → Bool → ℕ → Bool
controls e i b = i && (not (is_quote e b) && nat_lt b 0x20)

abbrev pub text_from : ℕ → List ℕ → List ℕ
text_from b bs =
    if is_operator b then b ∷ []
    else (if b == 0x22 then body_from false bs
    else word (b ∷ bs))

abbrev pub token_from : ℕ → ℕ → List ℕ → Token
token_from n b bs = record { place = n; byte = b; text = text_from b bs }

-- one byte in front
abbrev pub stepped : Bool → Bool → Token → Walk → Walk
stepped begin control t w = record { tokens = if begin then t ∷ w.tokens else w.tokens; bad = control || w.bad }

-- the walk from a place, by whether the byte there is escaped, inside a string, and separated
abbrev pub walk : Bool → Bool → Bool → ℕ → List ℕ → Walk
walk e i s n [] = record { tokens = []; bad = i }
walk e i s n (b ∷ bs) = stepped (begins e i s b) (controls e i b) (token_from n b bs) (walk (escapes e b) (inside_behind (is_quote e b) i) (separates e b) (suc n) bs)

-- ---- the flags, from the bytes before a place

quote_same : (e x : Bool) (b : ℕ) → (b == 0x22) ≡ x → (x && not e) ≡ is_quote e b
quote_same true true b h = refl
quote_same true false b h = refl
quote_same false true b h = sym h
quote_same false false b h = sym h

is_quote-before : (bef : List ℕ) (b : ℕ) → is_real_quote bef b ≡ is_quote (is_odd (backslashes bef)) b
is_quote-before bef b = quote_same (is_odd (backslashes bef)) (b == 0x22) b refl

run_same : (x : Bool) (b k : ℕ) → (b == 0x5c) ≡ x → is_odd (if x then suc k else 0) ≡ escapes (is_odd k) b
run_same true b k h = at (is_odd k)
  where
    at : (e : Bool) → not e ≡ escapes e b
    at true = refl
    at false = sym h
run_same false b k h = at (is_odd k)
  where
    at : (e : Bool) → false ≡ escapes e b
    at true = refl
    at false = sym h

escapes-before : (bef : List ℕ) (b : ℕ) → is_odd (backslashes (b ∷ bef)) ≡ escapes (is_odd (backslashes bef)) b
escapes-before bef b = run_same (b == 0x5c) b (backslashes bef) refl

inside_same : (q : Bool) (k : ℕ) → is_odd (if q then suc k else k) ≡ inside_behind q (is_odd k)
inside_same true k = refl
inside_same false k = refl

inside-before : (bef : List ℕ) (b : ℕ) → is_odd (real_quotes (b ∷ bef)) ≡ inside_behind (is_quote (is_odd (backslashes bef)) b) (is_odd (real_quotes bef))
inside-before bef b = inside_same (is_real_quote bef b) (real_quotes bef) ∙ ap (λ q. inside_behind q (is_odd (real_quotes bef))) (is_quote-before bef b)

separates-before : (bef : List ℕ) (b : ℕ) → is_separated (b ∷ bef) ≡ separates (is_odd (backslashes bef)) b
separates-before bef b = ap (λ q. is_whitespace b || is_operator b || q) (is_quote-before bef b)

position_same : (i q w o s : Bool) → (not (i && not q) && not w && not (q && i) && (o || (q && not i) || s)) ≡ (if i then false else not w && (o || q || s))
position_same true true true o s = refl
position_same true true false o s = refl
position_same true false w o s = refl
position_same false true true o s = refl
position_same false true false o s = refl
position_same false false true o s = refl
position_same false false false o s = refl

begins_same : (e i s : Bool) (b : ℕ) → (if i then false else not (is_whitespace b) && (is_operator b || is_quote e b || s)) ≡ begins e i s b
begins_same e true s b = refl
begins_same e false s b = refl

begins-before : (bef : List ℕ) (b : ℕ) → is_position bef b ≡ begins (is_odd (backslashes bef)) (is_odd (real_quotes bef)) (is_separated bef) b
begins-before bef b =
    let i = is_odd (real_quotes bef) in
    position_same i (is_real_quote bef b) (is_whitespace b) (is_operator b) (is_separated bef)
    ∙ ap (λ q. if i then false else not (is_whitespace b) && (is_operator b || q || is_separated bef)) (is_quote-before bef b)
    ∙ begins_same (is_odd (backslashes bef)) i (is_separated bef) b

controls-before : (bef : List ℕ) (b : ℕ) → is_control bef b ≡ controls (is_odd (backslashes bef)) (is_odd (real_quotes bef)) b
controls-before bef b =
    let i = is_odd (real_quotes bef) in
    turned (nat_lt b 0x20) i (not (is_real_quote bef b)) ∙ ap (λ q. i && (not q && nat_lt b 0x20)) (is_quote-before bef b)
  where
    turned : (x y z : Bool) → (x && (y && z)) ≡ (y && (z && x))
    turned true true true = refl
    turned true true false = refl
    turned true false z = refl
    turned false true true = refl
    turned false true false = refl
    turned false false z = refl

text_same : (o q : Bool) (bef : List ℕ) (b : ℕ) (bs : List ℕ) → (b == 0x22) ≡ q → (if o then b ∷ [] else (if q then body (b ∷ bef) bs else word (b ∷ bs))) ≡ (if o then b ∷ [] else (if q then body_from false bs else word (b ∷ bs)))
text_same true q bef b bs h = refl
text_same false false bef b bs h = refl
text_same false true bef b bs h = body-body_from (b ∷ bef) bs ∙ ap (λ e. body_from e bs) (escapes-before bef b ∙ none (is_odd (backslashes bef)))
  where
    none : (e : Bool) → escapes e b ≡ false
    none true = refl
    none false = rw (eqb-true b 0x22 h) refl

text-before : (bef : List ℕ) (b : ℕ) (bs : List ℕ) → token_text bef (b ∷ bs) ≡ text_from b bs
text-before bef b bs = text_same (is_operator b) (b == 0x22) bef b bs refl

-- the walk from a place behind those bytes
abbrev walk_behind : List ℕ → ℕ → List ℕ → Walk
walk_behind bef n bs = walk (is_odd (backslashes bef)) (is_odd (real_quotes bef)) (is_separated bef) n bs

walk_behind-cons : (bef : List ℕ) (n b : ℕ) (bs : List ℕ) → stepped (is_position bef b) (is_control bef b) (record { place = n; byte = b; text = token_text bef (b ∷ bs) }) (walk_behind (b ∷ bef) (suc n) bs) ≡ walk_behind bef n (b ∷ bs)
walk_behind-cons bef n b bs =
    rw (begins-before bef b, controls-before bef b, text-before bef b bs, escapes-before bef b, inside-before bef b, separates-before bef b) refl

-- ---- the walk over a text finds its tokens

record Finds (bytes : List ℕ) (n : ℕ) (bs : List ℕ) (w : Walk) : Type 0 where
  tokens : map (token_at bytes) (filter (is_position_at bytes) (range_with_len n (length bs))) ≡ w.tokens
  bad : (list_any (is_control_at bytes) (range_with_len n (length bs)) || is_odd (real_quotes (reverse bytes))) ≡ w.bad

-- one place more in front
places_more : (p : ℕ → Bool) (f : ℕ → Token) (n : ℕ) (ns : List ℕ) (x : Bool) → p n ≡ x → map f (filter p (n ∷ ns)) ≡ (if x then f n ∷ map f (filter p ns) else map f (filter p ns))
places_more p f n ns true h = rw h refl
places_more p f n ns false h = rw h refl

or_more : (x y z : Bool) → (x || y || z) ≡ (x || (y || z))
or_more true y z = refl
or_more false y z = refl

at_place : (bytes : List ℕ) (n b : ℕ) (bs : List ℕ) → drop n bytes ≡ b ∷ bs → (n < length bytes) × (slice_index bytes n ≡ b) × (drop (suc n) bytes ≡ bs)
at_place bytes n b bs e =
    let long : length bytes - n ≡ suc (length bs) = sym (length-drop n bytes) ∙ ap length e in
    let lt : n < length bytes = omega arith in
    let both = drop-cons bytes n 0 lt in
    (lt, cc, cc)

walk_finds_cons : (bytes : List ℕ) (n b : ℕ) (bs : List ℕ) → drop n bytes ≡ b ∷ bs → Finds bytes (suc n) bs (walk_behind (before bytes (suc n)) (suc n) bs) → Finds bytes n (b ∷ bs) (walk_behind (before bytes n) n (b ∷ bs))
walk_finds_cons bytes n b bs e k =
    let at = at_place bytes n b bs e in
    let bef = before bytes n in
    let more : before bytes (suc n) ≡ b ∷ bef = ap (before bytes) (sym (add-one n)) ∙ before-more bytes n at.0 ∙ ap (λ x. x ∷ bef) at.1 in
    let rest = subst (λ (bs₁ : List ℕ). Finds bytes (suc n) bs (walk_behind bs₁ (suc n) bs)) more k in
    let position : is_position_at bytes n ≡ is_position bef b = ap (is_position bef) at.1 in
    let control : is_control_at bytes n ≡ is_control bef b = ap (is_control bef) at.1 in
    let token : token_at bytes n ≡ record { place = n; byte = b; text = token_text bef (b ∷ bs) } = ap₂ (λ x ys. record { place = n; byte = x; text = token_text bef ys }) at.1 e in
    let ns = range_with_len (suc n) (length bs) in
    let found : Finds bytes n (b ∷ bs) (stepped (is_position bef b) (is_control bef b) (record { place = n; byte = b; text = token_text bef (b ∷ bs) }) (walk_behind (b ∷ bef) (suc n) bs)) = record {
      tokens = rw add-one (places_more (is_position_at bytes) (token_at bytes) n ns (is_position bef b) position ∙ ap₂ (λ t ts. if is_position bef b then t ∷ ts else ts) token rest.tokens);
      bad = rw add-one (or_more (is_control_at bytes n) (list_any (is_control_at bytes) ns) (is_odd (real_quotes (reverse bytes))) ∙ ap₂ (λ x y. x || y) control rest.bad);
    } in
    subst (λ (w : Walk). Finds bytes n (b ∷ bs) w) (walk_behind-cons bef n b bs) found

walk_finds : (bytes : List ℕ) (n : ℕ) (bs : List ℕ) → drop n bytes ≡ bs → n ≤ length bytes → Finds bytes n bs (walk_behind (before bytes n) n bs)
walk_finds bytes n [] e le =
    let none : length bytes - n ≡ 0 = sym (length-drop n bytes) ∙ ap length e in
    let all : n ≡ length bytes = omega arith in
    let whole : reverse bytes ≡ before bytes n = sym (before-all bytes) ∙ ap (before bytes) (sym all) in
    record { tokens = refl; bad = ap (λ xs. is_odd (real_quotes xs)) whole }
walk_finds bytes n (b ∷ bs) e le =
    let at = at_place bytes n b bs e in
    walk_finds_cons bytes n b bs e (walk_finds bytes (suc n) bs at.2 at.0)

-- the walk over a text
abbrev pub walk_all : List ℕ → Walk
walk_all bytes = walk false false true 0 bytes

all_found : (bytes : List ℕ) → Finds bytes 0 bytes (walk_all bytes)
all_found bytes = walk_finds bytes 0 bytes refl (omega arith)

pub tokens-walk : (bytes : List ℕ) → tokens bytes ≡ (walk_all bytes).tokens
tokens-walk bytes = (all_found bytes).tokens

pub bad-walk : (bytes : List ℕ) → (has_control bytes || not (is_closed bytes)) ≡ (walk_all bytes).bad
bad-walk bytes = ap (λ x. has_control bytes || x) (twice (is_odd (real_quotes (reverse bytes)))) ∙ (all_found bytes).bad
  where
    twice : (b : Bool) → not (not b) ≡ b
    twice true = refl
    twice false = refl
