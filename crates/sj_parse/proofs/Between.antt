-- What `Between` says of the next token, and that it holds once that is read.
use Rattle.std.proofs.Common.{◌≡◌, ◌≢◌, ◌⊎◌, inl, inr, ℕ, zero, suc, ◌+◌, ◌-◌, ◌<◌, ◌≤◌, Bool, true, false, List, [], ◌∷◌, ◌++◌, length, get_or, drop, take, Some, None, Ok, Err, refl, sym, ap, ap₂, ◌∙◌, arith, subst}
use Rattle.std.specs.Prelude.{◌==◌, ◌||◌, nat_lt, not, if◌then◌else◌, slice_index, map, filter, IsUtf8}
use Rattle.std.specs.List.{range_with_len}
use Rattle.std.proofs.lemmas.List.{drop_all, get_or-drop, drop-drop, length-drop, length-map, length-take}
use Rattle.sj_parse.specs.declared.descent_fault.DescentKind.{DescentKind}
use Rattle.sj_parse.specs.declared.descent_fault.DescentKind.TheVariants.{InternalError, Syntax}
use Rattle.sj_base.specs.Tree.{Tree}
use Rattle.sj_tape.specs.Listing.{Entry, listing}
use Rattle.sj_tape.specs.Nodes.{entries}
use Rattle.sj_tape.specs.declared.node.Node.{Node}
use Rattle.sj_parse.specs.declared.descent_fault.Stop.{Stop}
use Rattle.sj_parse.specs.declared.containers.Frame.{Frame}
use Rattle.sj_parse.specs.declared.stage_two.State.{State}
use Rattle.sj_parse.specs.declared.stage_two.State.TheVariants.{Value, FirstItem, ItemEnd, FirstMember, Key, Colon, MemberEnd, End}
use Rattle.std.specs.Str.{is_utf8}
use Rattle.std.proofs.lemmas.Str.{IsUtf8-from_is_utf8}
use Rattle.std.proofs.Math.Seq.{drop-length, take-length, drop-cons}
use Rattle.std.proofs.lemmas.Bool.{eqb-true, ltb-true, ltb-false}
use Rattle.sj_scan.specs.declared.stage1.ScanFault.TheVariants.{Utf8, Unclosed, Control}
use Rattle.sj_scan.specs.Scan.{is_closed, has_control, if_none, scan_fault}
use Rattle.sj_scan.specs.Positions.{is_whitespace, is_operator, is_real_quote, before, positions, is_position_at}
use Rattle.sj_base.specs.NumberTests.{is_number}
use Rattle.sj_parse.specs.Token.{Token, word, body, token_at, token_text, tokens}
use Rattle.sj_parse.specs.Descent.{left, descent}
use Rattle.sj_parse.specs.Escapes.{stop}
use Rattle.sj_parse.specs.Fault.{error_type, stop_fault}
use Rattle.sj_parse.specs.Nodes.{HaveCarriers}
use Rattle.sj_parse.specs.inside.Trees.{Reading, with_rest, tree_value}
use Rattle.sj_parse.specs.inside.Machine.{Config, value_next, first_item, item_end, first_member, key_next, colon_next, member_end, ended, IsAt, reading, resume}
use Rattle.sj_parse.specs.inside.Step.{string_body, token_of, reading_from, reach, StopsAt, left_kind_of}
use Rattle.sj_parse.specs.inside.Underway.{Apart, Between}
use Rattle.sj_parse.proofs.OpenContainers.{length-entries}
use Rattle.sj_parse.proofs.ScalarTokens.{token_byte}
use Rattle.sj_parse.proofs.Ahead.{Ahead, ahead-start, ahead-place, ahead-next, utf8_body}
use Rattle.sj_parse.proofs.Descents.{reading-end, descent-err, descent-left, stop_at, config_few, nodes_few, tokens-left, tokens-read}

-- ---- positions lie in the text

below_if : (b : Bool) (x n : ℕ) (xs : List ℕ) → ((i : ℕ) → i < length xs → slice_index xs i < n) → x < n → (i : ℕ) → i < length (if b then x ∷ xs else xs) → slice_index (if b then x ∷ xs else xs) i < n
below_if true x n xs others first zero h = first
below_if true x n xs others first (suc i) h = others i (omega arith)
below_if false x n xs others first i h = others i h

filter_below : (p : ℕ → Bool) (a n : ℕ) (i : ℕ) → i < length (filter p (range_with_len a n)) → slice_index (filter p (range_with_len a n)) i < a + n
filter_below p a zero i h = absurd (omega arith)
filter_below p a (suc n) i h =
    let more : a + 1 + n ≡ a + suc n = omega arith in
    below_if (p a) a (a + suc n) (filter p (range_with_len (a + 1) n)) (λ j k. subst (λ m. slice_index (filter p (range_with_len (a + 1) n)) j < m) more (filter_below p (a + 1) n j k)) (omega arith) i h

pub positions_below : (bytes : List ℕ) (i : ℕ) → i < length (positions bytes) → slice_index (positions bytes) i < length bytes
positions_below bytes i h = let same : 0 + length bytes ≡ length bytes = omega arith in subst (λ (n : ℕ). slice_index (positions bytes) i < n) same (filter_below (is_position_at bytes) 0 (length bytes) i h)

-- ---- a token ends in the text

word-length : (bs : List ℕ) → length (word bs) ≤ length bs
word-length [] = omega arith
word-length (b ∷ bs) = at (is_whitespace b || is_operator b) (word-length bs)
  where
    at : (v : Bool) → length (word bs) ≤ length bs → length (if v then [] else b ∷ word bs) ≤ suc (length bs)
    at true le = omega arith
    at false le = omega arith

body-length : (bef bs : List ℕ) → length (body bef bs) ≤ length bs
body-length bef [] = omega arith
body-length bef (b ∷ bs) = at (is_real_quote bef b) (body-length (b ∷ bef) bs)
  where
    at : (v : Bool) → length (body (b ∷ bef) bs) ≤ length bs → length (if v then [] else b ∷ body (b ∷ bef) bs) ≤ suc (length bs)
    at true le = omega arith
    at false le = omega arith

text-length : (bef : List ℕ) (b : ℕ) (bs : List ℕ) → length (token_text bef (b ∷ bs)) ≤ suc (length bs)
text-length bef b bs = at (is_operator b) (b == 0x22)
  where
    at : (o q : Bool) → length (if o then b ∷ [] else (if q then body (b ∷ bef) bs else word (b ∷ bs))) ≤ suc (length bs)
    at true q = omega arith
    at false true = omega (arith, body-length (b ∷ bef) bs)
    at false false = omega (arith, word-length (b ∷ bs))

reach-length : (place : ℕ) (bef : List ℕ) (b : ℕ) (bs : List ℕ) → reach (record { place = place; byte = b; text = token_text bef (b ∷ bs) }) ≤ suc (length bs)
reach-length place bef b bs = at (b == 0x22) refl
  where
    kept : (v : Bool) (n : ℕ) → n ≤ suc (length bs) → (if v then n else 0) ≤ suc (length bs)
    kept true n le = le
    kept false n le = omega arith

    at : (q : Bool) → (b == 0x22) ≡ q → (if q then suc (length (token_text bef (b ∷ bs))) else (if is_number (token_text bef (b ∷ bs)) then length (token_text bef (b ∷ bs)) else 0)) ≤ suc (length bs)
    at true is = rw (eqb-true b 0x22 is) (omega (arith, body-length (0x22 ∷ bef) bs))
    at false is = kept (is_number (token_text bef (b ∷ bs))) _ (text-length bef b bs)

token-ends : (bytes : List ℕ) (place : ℕ) → place < length bytes → place + reach (token_at bytes place) ≤ length bytes
token-ends bytes place within =
    let parts : drop place bytes ≡ slice_index bytes place ∷ drop (suc place) bytes = drop-cons bytes place 0 within in
    let long = length-drop (suc place) bytes in
    let token : token_at bytes place ≡ record { place = place; byte = slice_index bytes place; text = token_text (before bytes place) (slice_index bytes place ∷ drop (suc place) bytes) } =
    ap (λ (bs : List ℕ). record { place = place; byte = slice_index bytes place; text = token_text (before bytes place) bs }) parts in
    let r = reach-length place (before bytes place) (slice_index bytes place) (drop (suc place) bytes) in
    let same : reach (token_at bytes place) ≡ reach (record { place = place; byte = slice_index bytes place; text = token_text (before bytes place) (slice_index bytes place ∷ drop (suc place) bytes) }) = ap reach token in omega arith

-- ---- tokens stand apart

apart-less : (less from : ℕ) (ts : List Token) → less ≤ from → Apart from ts → Apart less ts
apart-less less from [] le h = tt
apart-less less from (t ∷ ts) le h = let first = h.0 in (omega arith, h.1)

apart-ahead : (bytes : List ℕ) (from : ℕ) (ts : List Token) → Ahead bytes from ts → Apart from ts
apart-ahead bytes from [] h = tt
apart-ahead bytes from (t ∷ ts) h = (ahead-place bytes from t ts h, apart-ahead bytes (t.place + reach t) ts (ahead-next bytes from t ts h))

-- ---- between two tokens

root_reads : (r : Reading Tree) (limit : ℕ) → with_rest r (resume limit []) ≡ r
root_reads (Ok p) limit = refl
root_reads (Err s) limit = refl

-- the tree of an ended text
ended_tree : (c : Config) (state : State) (es : List Entry) (st : List Frame) → IsAt c state es st → state ≡ End → (t : Tree) × (c ≡ ended t) × (es ≡ listing t)
ended_tree (ended t) state es st at e = (t, refl, at.entries_are)
ended_tree (value_next ws) state es st at e = let same : Value ≡ End = sym at.state_is ∙ e in absurd cc
ended_tree (first_item ws) state es st at e = let same : FirstItem ≡ End = sym at.state_is ∙ e in absurd cc
ended_tree (item_end xs ws) state es st at e = let same : ItemEnd ≡ End = sym at.state_is ∙ e in absurd cc
ended_tree (first_member ws) state es st at e = let same : FirstMember ≡ End = sym at.state_is ∙ e in absurd cc
ended_tree (key_next ms ws) state es st at e = let same : Key ≡ End = sym at.state_is ∙ e in absurd cc
ended_tree (colon_next ms k ws) state es st at e = let same : Colon ≡ End = sym at.state_is ∙ e in absurd cc
ended_tree (member_end ms ws) state es st at e = let same : MemberEnd ≡ End = sym at.state_is ∙ e in absurd cc

pub between-start : (input ps : List ℕ) (limit : ℕ) (nodes : List Node) (stack : List Frame) → ps ≡ positions input → nodes ≡ [] → stack ≡ [] → Between input ps limit nodes stack input 0 Value 0
between-start input ps limit nodes stack is no_nodes no_stack =
    let all : map (token_at input) ps ≡ tokens input = ap (map (token_at input)) is in
    let whole : limit - 0 ≡ limit = omega arith in
    record {
      config = value_next [];
      at = record { state_is = refl; entries_are = ap entries no_nodes; stack_is = no_stack };
      last = 0;
      reads = ap (reading limit (value_next []) 0) all ∙ ap (λ (n : ℕ). with_rest (tree_value n InternalError 0 (tokens input)) (resume limit [])) whole ∙ root_reads (tree_value limit InternalError 0 (tokens input)) limit;
      carriers = subst (λ (ns : List Node). HaveCarriers [] ns) (sym no_nodes) tt;
      inside = omega arith;
      rest_is = refl;
      apart = subst (λ (ts : List Token). Apart 0 ts) (sym all) (apart-ahead input 0 (tokens input) (ahead-start input));
    }

module _ {input ps : List ℕ} {limit : ℕ} {nodes : List Node} {stack : List Frame} {rest : List ℕ} {from : ℕ} {state : State} {i : ℕ} (h : Between input ps limit nodes stack rest from state i) (within : i < length ps) (are : ps ≡ positions input) {place : ℕ} (place_is : place ≡ slice_index ps i) where
  abbrev skip : ℕ
  skip = place - from

  abbrev the_token : Token
  the_token = token_at input place

  abbrev others : List Token
  others = map (token_at input) (drop (i + 1) ps)

  tokens_are : map (token_at input) (drop i ps) ≡ the_token ∷ others
  tokens_are = tokens-left input ps i within ∙ ap (λ (n : ℕ). token_at input n ∷ others) (sym place_is)

  apart_here : Apart from (the_token ∷ others)
  apart_here = subst (λ (ts : List Token). Apart from ts) tokens_are h.apart

  pub from_le : from ≤ place
  from_le = apart_here.0

  sum : from + skip ≡ place
  sum = let le = from_le in omega arith

  place_lt : place < length input
  place_lt = subst (λ (n : ℕ). n < length input) (sym place_is) (subst (λ (qs : List ℕ). i < length qs → slice_index qs i < length input) (sym are) (positions_below input i) within)

  long : length rest ≡ length input - from
  long = ap length h.rest_is ∙ length-drop from input

  pub skip_lt : skip < length rest
  skip_lt = let lt = place_lt in let le = from_le in let l = long in omega arith

  dropped : drop skip rest ≡ drop place input
  dropped = ap (drop skip) h.rest_is ∙ drop-drop skip from input ∙ ap (λ (n : ℕ). drop n input) (sum)

  byte_here : slice_index rest skip ≡ slice_index input place
  byte_here = ap (λ (bs : List ℕ). get_or bs skip 0) h.rest_is ∙ get_or-drop from input skip 0 ∙ ap (λ (n : ℕ). get_or input n 0) (sum)

  token_is : token_of place (before input place) (drop skip rest) ≡ the_token
  token_is = ap (token_of place (before input place)) dropped ∙ ap (λ (b : ℕ). record { place = place; byte = b; text = token_text (before input place) (drop place input) }) (token_byte place (before input place) input place)

  reads_here : reading_from limit h.config (token_of place (before input place) (drop skip rest)) h.last others ≡ tree_value limit InternalError 0 (tokens input)
  reads_here = ap (λ (t : Token). reading limit h.config h.last (t ∷ others)) token_is ∙ ap (reading limit h.config h.last) (sym tokens_are) ∙ h.reads

  pub body_utf8 : IsUtf8 input → slice_index rest skip ≡ 0x22 → IsUtf8 (string_body (drop (skip + 1) rest))
  body_utf8 utf8 quote =
      let more : from + (skip + 1) ≡ place + 1 = let s = sum in omega arith in
      let same : drop (skip + 1) rest ≡ drop (place + 1) input = ap (drop (skip + 1)) h.rest_is ∙ drop-drop (skip + 1) from input ∙ ap (λ (n : ℕ). drop n input) more in
      subst (λ (bs : List ℕ). IsUtf8 (string_body bs)) (sym same) (utf8_body input place utf8 (place_lt) (sym (byte_here) ∙ quote))

  -- where the next token begins, or the text ends
  abbrev pub next : ℕ
  next = if nat_lt (i + 1) (length ps) then slice_index ps (i + 1) else from + length rest

  next_cases : (v : Bool) → nat_lt (i + 1) (length ps) ≡ v → (place + reach the_token ≤ (if v then slice_index ps (i + 1) else from + length rest)) × ((if v then slice_index ps (i + 1) else from + length rest) ≤ length input) × Apart (if v then slice_index ps (i + 1) else from + length rest) others
  next_cases true is =
      let lt : i + 1 < length ps = ltb-true (i + 1) (length ps) is in
      let left : others ≡ token_at input (slice_index ps (i + 1)) ∷ map (token_at input) (drop (i + 1 + 1) ps) = tokens-left input ps (i + 1) lt in
      let apart : Apart (place + reach the_token) (token_at input (slice_index ps (i + 1)) ∷ map (token_at input) (drop (i + 1 + 1) ps)) = subst (λ (ts : List Token). Apart (place + reach the_token) ts) left apart_here.1 in
      let below : slice_index ps (i + 1) < length input = subst (λ (qs : List ℕ). i + 1 < length qs → slice_index qs (i + 1) < length input) (sym are) (positions_below input (i + 1)) lt in
      (apart.0, omega arith, subst (λ (ts : List Token). Apart (slice_index ps (i + 1)) ts) (sym left) (omega arith, apart.1))
  next_cases false is =
      let all : length ps ≤ i + 1 = ltb-false (i + 1) (length ps) is in
      let ends = token-ends input place (place_lt) in
      let l = long in
      let inside = h.inside in
      let none : others ≡ [] = ap (map (token_at input)) (drop_all (i + 1) ps all) in
      (omega arith, omega arith, subst (λ (ts : List Token). Apart (from + length rest) ts) (sym none) tt)

  pub next_reach : place + reach (token_of place (before input place) (drop skip rest)) ≤ next
  next_reach = subst (λ (t : Token). place + reach t ≤ next) (sym token_is) (next_cases (nat_lt (i + 1) (length ps)) refl).0

  pub next_inside : next ≤ length input
  next_inside = (next_cases (nat_lt (i + 1) (length ps)) refl).1

  next_apart : Apart next others
  next_apart = (next_cases (nat_lt (i + 1) (length ps)) refl).2

  pub rest_ends : from + length rest ≡ length input
  rest_ends = let l = long in let inside = h.inside in omega arith

  -- once the token was read
  pub between-next : (nodes_new : List Node) (stack_new : List Frame) (new : List ℕ) (from_new : ℕ) (after : State) (d : Config) → IsAt d after (entries nodes_new) stack_new
      → ((k : ℕ) (ts : List Token) → reading_from limit h.config (token_of place (before input place) (drop skip rest)) k ts ≡ reading limit d place ts)
      → HaveCarriers (map (token_at input) (take i ps) ++ token_of place (before input place) (drop skip rest) ∷ []) nodes_new
      → ((from_new ≡ from) × (new ≡ rest)) ⊎ ((from_new ≡ next) × (new ≡ drop (next - from) rest))
      → Between input ps limit nodes_new stack_new new from_new after (i + 1)
  between-next nodes_new stack_new new from_new after d at same carry behind =
      let le = from_le in
      let reached = next_reach in
      let inside_is = next_inside in
      let old_inside = h.inside in record {
        config = d;
        at = at;
        last = place;
        reads = sym (same h.last others) ∙ reads_here;
        carriers = subst (λ (ts : List Token). HaveCarriers ts nodes_new) (ap (λ (t : Token). map (token_at input) (take i ps) ++ t ∷ []) (token_is ∙ ap (token_at input) place_is) ∙ sym (tokens-read input ps i within)) carry;
        inside = elim behind [ inl kept ↦ (let same_from = kept.0 in omega arith) | inr cut ↦ (let cut_from = cut.0 in omega arith) ];
        rest_is = elim behind [
          | inl kept ↦ kept.1 ∙ h.rest_is ∙ ap (λ (n : ℕ). drop n input) (sym kept.0)
          | inr cut ↦ cut.1 ∙ ap (drop (next - from)) h.rest_is ∙ drop-drop (next - from) from input ∙ ap (λ (n : ℕ). drop n input) (let cut_from = cut.0 in omega arith)
        ];
        apart = elim behind [
          | inl kept ↦ apart-less from_new (place + reach the_token) others (let same_from = kept.0 in omega arith) apart_here.1
          | inr cut ↦ subst (λ (n : ℕ). Apart n others) (sym cut.0) (next_apart)
        ];
      }

  -- The step answers a stop: the first fault.
  pub step_fault : (s : Stop) → ((k : ℕ) (ts : List Token) → reading_from limit h.config (token_of place (before input place) (drop skip rest)) k ts ≡ Err s)
      → StopsAt place skip rest s
      → stop_fault input (descent (tokens input) limit) ≡ Some (record { error = error_type s.kind; index = s.place; character = Some (if s.place == place then slice_index rest skip else 0x5c) })
  step_fault s stops at =
      ap (stop_fault input) (descent-err limit (tokens input) s (sym reads_here ∙ stops h.last others))
      ∙ ap Some (sym (stop_at input rest from place skip (slice_index rest skip) s h.rest_is sum refl at))

  -- once the token was read: the config behind it, and how the document reads
  module _ (after : State) (es : List Entry) (st : List Frame) (d : Config) (at : IsAt d after es st)
      (same : (k : ℕ) (ts : List Token) → reading_from limit h.config (token_of place (before input place) (drop skip rest)) k ts ≡ reading limit d place ts) where
    -- tokens are left behind the root's value
    pub left_fault : i + 1 < length ps → after ≡ End → (kind : DescentKind) → ((t : Tree) → es ≡ listing t → kind ≡ left_kind_of t)
        → stop_fault input (descent (tokens input) limit) ≡ Some (record { error = error_type kind; index = place; character = Some (slice_index rest skip) })
    left_fault lt e kind is =
        let root = ended_tree d after es st at e in
        let more = tokens-left input ps (i + 1) lt in
        let read : tree_value limit InternalError 0 (tokens input) ≡ Ok (root.0, left place (token_at input (slice_index ps (i + 1)) ∷ map (token_at input) (drop (i + 1 + 1) ps))) =
        sym reads_here ∙ same h.last others ∙ ap (reading limit d place) more ∙ ap (λ (c : Config). reading limit c place (token_at input (slice_index ps (i + 1)) ∷ map (token_at input) (drop (i + 1 + 1) ps))) root.1 in
        ap (stop_fault input) (descent-left limit (tokens input) root.0 place _ _ read)
        ∙ ap₂ (λ k b. Some (record { error = error_type k; index = place; character = Some b })) (sym (is root.0 root.2)) (sym byte_here)

    -- no token is left, and the root has no value
    pub cut_fault : length ps ≤ i + 1 → after ≢ End → stop_fault input (descent (tokens input) limit) ≡ Some (record { error = error_type Syntax; index = place; character = Some (slice_index rest skip) })
    cut_fault all n =
        let none : others ≡ [] = ap (map (token_at input)) (drop_all (i + 1) ps all) in
        let read : tree_value limit InternalError 0 (tokens input) ≡ Err (stop Syntax place) =
        sym reads_here ∙ same h.last others ∙ ap (reading limit d place) none ∙ reading-end limit d place (λ e. n (at.state_is ∙ e)) in
        ap (stop_fault input) (descent-err limit (tokens input) (stop Syntax place) read)
        ∙ ap (λ b. Some (record { error = error_type Syntax; index = place; character = Some b })) (sym byte_here)

-- no more nodes and frames than tokens were read
pub few : {input ps : List ℕ} {limit : ℕ} {nodes : List Node} {stack : List Frame} {rest : List ℕ} {from : ℕ} {state : State} {i : ℕ}
    → Between input ps limit nodes stack rest from state i → i ≤ length ps → (length nodes ≤ i) × (length stack ≤ i)
few {input} {ps} {nodes = nodes} {i = i} h within =
    let taken : length (take i ps) ≡ i = let l = length-take i ps in omega arith in
    let read : length (map (token_at input) (take i ps)) ≡ i = length-map (take i ps) (token_at input) ∙ taken in
    let some = nodes_few (map (token_at input) (take i ps)) nodes h.carriers in
    let frames = config_few h.config in
    let same = length-entries nodes in
    let es = ap length h.at.entries_are in
    let st = ap length h.at.stack_is in
    (omega arith, omega arith)

-- ---- the root has its value, and no token is left

module _ {input ps : List ℕ} {limit : ℕ} {nodes : List Node} {stack : List Frame} {rest : List ℕ} {from : ℕ} {state : State} {i : ℕ} (h : Between input ps limit nodes stack rest from state i) where
  pub whole_tree : i ≡ length ps → state ≡ End → (t : Tree) × (k : ℕ) × (tree_value limit InternalError 0 (tokens input) ≡ Ok (t, left k [])) × (entries nodes ≡ listing t)
  whole_tree all e =
      let root = ended_tree h.config state (entries nodes) stack h.at e in
      let none : map (token_at input) (drop i ps) ≡ [] = ap (map (token_at input)) (ap (λ (n : ℕ). drop n ps) all ∙ drop-length ps) in
      (root.0, h.last, sym h.reads ∙ ap (reading limit h.config h.last) none ∙ ap (λ (c : Config). reading limit c h.last []) root.1, root.2)

  pub whole_carriers : i ≡ length ps → ps ≡ positions input → HaveCarriers (tokens input) nodes
  whole_carriers all are = subst (λ (qs : List ℕ). HaveCarriers (map (token_at input) qs) nodes) (ap (λ (n : ℕ). take n ps) all ∙ take-length ps ∙ are) h.carriers

-- a text without a fault of the scan has tokens
pub some_tokens : (bytes : List ℕ) → scan_fault bytes ≡ None → (IsUtf8 bytes) × (0 < length (positions bytes))
some_tokens bytes e = at (is_utf8 bytes) (is_closed bytes) (has_control bytes) (positions bytes) refl e
  where
    at : (u c h : Bool) (qs : List ℕ) → is_utf8 bytes ≡ u → (if not u then Some Utf8 else (if not c then Some Unclosed else (if h then Some Control else if_none qs))) ≡ None → (IsUtf8 bytes) × (0 < length qs)
    at true true false (q ∷ qs) utf8 k = (IsUtf8-from_is_utf8 bytes utf8, omega arith)
    at true true false [] utf8 k = absurd cc
    at true true true qs utf8 k = absurd cc
    at true false h qs utf8 k = absurd cc
    at false c h qs utf8 k = absurd cc
