-- What the code reads of a value is a case of the descent.
use Rattle.std.proofs.Common.{◌≡◌, ◌⊎◌, inl, inr, ℕ, suc, ◌+◌, ◌<◌, ◌≤◌, ◌-◌, Bool, true, false, List, length, drop, take, length-drop, Some, None, Result, Ok, Err, refl, sym, ap, ◌∙◌, arith, subst}
use Rattle.std.specs.Prelude.{◌||◌, not, ◌==◌, if◌then◌else◌, slice_index}
use Rattle.std.proofs.Math.Seq.{take-length}
use Rattle.std.proofs.lemmas.Bool.{eq-eqb, ne_eqb}
use Rattle.sj_parse.specs.declared.descent_fault.DescentKind.{DescentKind}
use Rattle.sj_parse.specs.declared.descent_fault.DescentKind.TheVariants.{Syntax, InvalidNumber}
use Rattle.sj_tape.specs.Listing.{Entry, string_entry}
use Rattle.sj_tape.specs.Nodes.{node_entry}
use Rattle.sj_tape.specs.declared.node.Node.{Node}
use Rattle.sj_parse.specs.declared.descent_fault.Stop.{Stop}
use Rattle.sj_parse.specs.declared.containers.Frame.{Frame}
use Rattle.sj_parse.specs.declared.stage_two.State.{State}
use Rattle.sj_parse.specs.Token.{Token, word}
use Rattle.sj_parse.specs.Escapes.{stop, bad_escape}
use Rattle.sj_base.specs.NumberTests.{is_number, is_negative}
use Rattle.sj_parse.specs.Descent.{begins_scalar, scalar_stop}
use Rattle.sj_parse.specs.Nodes.{makes_node, HasCarrier}
use Rattle.sj_parse.specs.inside.Trees.{decoded, token_tree}
use Rattle.sj_parse.specs.inside.NumberNode.{IsNumberNode}
use Rattle.sj_parse.specs.inside.Machine.{Waiting, first_item, first_member, after_value, reading}
use Rattle.sj_parse.specs.inside.Step.{string_body, token_of, value_from, IsScalarNode, reach, Opens, Steps}
use Rattle.sj_parse.proofs.Machine.{value-list, value-deep_list, value-object, value-deep_object, value-scalar, value-bad_scalar, value-none, resume-after_value}
use Rattle.sj_parse.proofs.ScalarTokens.{token_byte, string_text, word_text, string_node, string_fault, BeginsNumber, number_range, number_no_operator, number_no_quote, number_node-is, number_fault, first_of_word}

module _ (place skip : ℕ) (before bs : List ℕ) (within : skip < length bs) where
  abbrev pub the_token : Token
  the_token = token_of place before (drop skip bs)

  abbrev first : ℕ
  first = slice_index bs skip

  same : (the_token).byte ≡ first
  same = token_byte place before bs skip

  pub same_test : (k : ℕ) (v : Bool) → (first == k) ≡ v → ((the_token).byte == k) ≡ v
  same_test k v is = ap (λ (b : ℕ). b == k) same ∙ is

  -- ---- nodes

  abbrev byte_makes : ℕ → Bool
  byte_makes b = not (b == 0x5d || b == 0x7d || b == 0x3a || b == 0x2c)

  pub makes : (k : ℕ) → first ≡ k → byte_makes k ≡ true → makes_node the_token ≡ true
  makes k is one = ap byte_makes (same ∙ is) ∙ one

  pub letter_makes : (first ≡ 0x74) ⊎ ((first ≡ 0x66) ⊎ (first ≡ 0x6e)) → makes_node the_token ≡ true
  letter_makes (inl is) = makes 0x74 is refl
  letter_makes (inr (inl is)) = makes 0x66 is refl
  letter_makes (inr (inr is)) = makes 0x6e is refl

  pub number_makes : BeginsNumber first → makes_node the_token ≡ true
  number_makes is =
      let r = number_range first is in
      ap byte_makes same
      ∙ rw (ne_eqb first 0x5d (λ e. omega arith), ne_eqb first 0x7d (λ e. omega arith), ne_eqb first 0x3a (λ e. omega arith), ne_eqb first 0x2c (λ e. omega arith)) refl

  -- ---- strings

  pub quote_text : first ≡ 0x22 → (the_token).text ≡ string_body (drop (skip + 1) bs)
  quote_text quote = string_text place before bs skip within quote

  pub text_node : (text : List ℕ) (n : Node) → first ≡ 0x22 → bad_escape (place + 1) (string_body (drop (skip + 1) bs)) ≡ None → text ≡ decoded (string_body (drop (skip + 1) bs)) → node_entry n ≡ string_entry text → HasCarrier the_token n → IsScalarNode the_token n
  text_node text n quote fine decodes entry carries =
      string_node the_token text n (same ∙ quote) (ap (λ (body : List ℕ). bad_escape (place + 1) body) (quote_text quote) ∙ fine) (decodes ∙ ap decoded (sym (quote_text quote))) entry carries

  pub text_fault : (s : Stop) → first ≡ 0x22 → bad_escape (place + 1) (string_body (drop (skip + 1) bs)) ≡ Some s → scalar_stop the_token ≡ Some s
  text_fault s quote bad = string_fault the_token s (same ∙ quote) (ap (λ (body : List ℕ). bad_escape (place + 1) body) (quote_text quote) ∙ bad)

  pub text_reach : first ≡ 0x22 → skip + 1 + length (string_body (drop (skip + 1) bs)) ≤ skip + reach the_token
  text_reach quote =
      let is : reach the_token ≡ suc (length (the_token).text) = ap (λ (b : Bool). if b then suc (length (the_token).text) else (if is_number (the_token).text then length (the_token).text else 0)) (eq-eqb (the_token).byte 0x22 (same ∙ quote)) in
      let long : length (the_token).text ≡ length (string_body (drop (skip + 1) bs)) = ap length (quote_text quote) in omega arith

  -- ---- numbers

  number_text : BeginsNumber first → (the_token).text ≡ word (drop skip bs)
  number_text is = word_text place before bs skip within (number_no_operator first is) (number_no_quote first is)

  begins_number : BeginsNumber first → BeginsNumber (the_token).byte
  begins_number is = subst (λ (b : ℕ). BeginsNumber b) (sym same) is

  pub word_node : (text : List ℕ) (n : Node) → BeginsNumber first → text ≡ word (drop skip bs) → IsNumberNode text n → IsScalarNode the_token n
  word_node text n is reads node =
      let whole : text ≡ (the_token).text = reads ∙ sym (number_text is) in
      number_node-is the_token n (begins_number is)
      (ap (λ (xs : List ℕ). is_negative xs) (number_text is) ∙ first_of_word bs skip within is ∙ sym (same_test 0x2d (first == 0x2d) refl))
      (subst (λ (xs : List ℕ). IsNumberNode xs n) whole node)

  pub word_fault : (text : List ℕ) → BeginsNumber first → text ≡ word (drop skip bs) → is_number text ≡ false → scalar_stop the_token ≡ Some (stop InvalidNumber place)
  word_fault text is reads none = number_fault the_token (begins_number is) (ap is_number (number_text is ∙ sym reads) ∙ none)

  pub word_reach : BeginsNumber first → is_number (word (drop skip bs)) ≡ true → skip + length (word (drop skip bs)) ≤ skip + reach the_token
  word_reach is number =
      let whole : is_number (the_token).text ≡ true = ap is_number (number_text is) ∙ number in
      let length_is : reach the_token ≡ length (the_token).text =
      ap (λ (b : Bool). if b then suc (length (the_token).text) else (if is_number (the_token).text then length (the_token).text else 0)) (same_test 0x22 false (number_no_quote first is))
      ∙ ap (λ (b : Bool). if b then length (the_token).text else 0) whole in
      let long : length (the_token).text ≡ length (word (drop skip bs)) = ap length (number_text is) in omega arith

  -- ---- the cases of a value

  module _ (limit : ℕ) (kind : DescentKind) (ws : List Waiting) where
    array_opens : (first == 0x5b) ≡ true → length ws < limit → (last : ℕ) (ts : List Token) → value_from limit kind ws the_token last ts ≡ reading limit (first_item ws) place ts
    array_opens is room last ts = value-list limit kind ws last the_token ts room (same_test 0x5b true is)

    array_deep : (s : Stop) → s ≡ stop Syntax place → (first == 0x5b) ≡ true → limit ≤ length ws → (last : ℕ) (ts : List Token) → value_from limit kind ws the_token last ts ≡ Err s
    array_deep s at is full last ts = value-deep_list limit kind ws last the_token ts full (same_test 0x5b true is) ∙ ap Err (sym at)

    object_opens : (first == 0x5b) ≡ false → (first == 0x7b) ≡ true → length ws < limit → (last : ℕ) (ts : List Token) → value_from limit kind ws the_token last ts ≡ reading limit (first_member ws) place ts
    object_opens no_list is room last ts = value-object limit kind ws last the_token ts room (same_test 0x5b false no_list) (same_test 0x7b true is)

    object_deep : (s : Stop) → s ≡ stop Syntax place → (first == 0x5b) ≡ false → (first == 0x7b) ≡ true → limit ≤ length ws → (last : ℕ) (ts : List Token) → value_from limit kind ws the_token last ts ≡ Err s
    object_deep s at no_list is full last ts = value-deep_object limit kind ws last the_token ts full (same_test 0x5b false no_list) (same_test 0x7b true is) ∙ ap Err (sym at)

    -- a container is opened, or it is beyond the limit
    pub array_step : (r : Result State Stop) (es : List Entry) (st : List Frame) → (first == 0x5b) ≡ true → Opens limit ws place (first_item ws) r es st → Steps limit place (value_from limit kind ws the_token) r es st
    array_step (Ok s) es st is o = (first_item ws, o.0, array_opens is o.1)
    array_step (Err s) es st is o = array_deep s o.0 is o.1

    pub object_step : (r : Result State Stop) (es : List Entry) (st : List Frame) → (first == 0x5b) ≡ false → (first == 0x7b) ≡ true → Opens limit ws place (first_member ws) r es st → Steps limit place (value_from limit kind ws the_token) r es st
    object_step (Ok s) es st no_list is o = (first_member ws, o.0, object_opens no_list is o.1)
    object_step (Err s) es st no_list is o = object_deep s o.0 no_list is o.1

    pub scalar_reads : (n : Node) → (first == 0x5b) ≡ false → (first == 0x7b) ≡ false → begins_scalar first ≡ true → IsScalarNode the_token n → (last : ℕ) (ts : List Token) → value_from limit kind ws the_token last ts ≡ reading limit (after_value ws (token_tree the_token)) place ts
    scalar_reads n no_list no_object is node last ts =
        value-scalar limit kind ws last the_token ts (same_test 0x5b false no_list) (same_test 0x7b false no_object) (ap begins_scalar same ∙ is) node.is_right
        ∙ resume-after_value limit ws (token_tree the_token) place ts

    pub scalar_stops : (s : Stop) → (first == 0x5b) ≡ false → (first == 0x7b) ≡ false → begins_scalar first ≡ true → scalar_stop the_token ≡ Some s → (last : ℕ) (ts : List Token) → value_from limit kind ws the_token last ts ≡ Err s
    scalar_stops s no_list no_object is bad last ts = value-bad_scalar limit kind ws last the_token ts s (same_test 0x5b false no_list) (same_test 0x7b false no_object) (ap begins_scalar same ∙ is) bad

    pub nothing_begins : (first == 0x5b) ≡ false → (first == 0x7b) ≡ false → begins_scalar first ≡ false → (last : ℕ) (ts : List Token) → value_from limit kind ws the_token last ts ≡ Err (stop kind place)
    nothing_begins no_list no_object no_scalar last ts = value-none limit kind ws last the_token ts (same_test 0x5b false no_list) (same_test 0x7b false no_object) (ap begins_scalar same ∙ no_scalar)

pub letter_begins : (b : ℕ) → (b ≡ 0x74) ⊎ ((b ≡ 0x66) ⊎ (b ≡ 0x6e)) → begins_scalar b ≡ true
letter_begins b (inl is) = ap begins_scalar is
letter_begins b (inr (inl is)) = ap begins_scalar is
letter_begins b (inr (inr is)) = ap begins_scalar is

-- `&bs[skip..]`
pub all_behind : (bs : List ℕ) (skip : ℕ) → take (length bs - skip) (drop skip bs) ≡ drop skip bs
all_behind bs skip = ap (λ (n : ℕ). take n (drop skip bs)) (sym (length-drop skip bs)) ∙ take-length (drop skip bs)
