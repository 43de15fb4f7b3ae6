-- What a token does, by where the code is and by its first byte.
use Rattle.std.proofs.lemmas.Grind.{common_steps}
use Rattle.std.proofs.Common.{arith, ◌≡◌, ◌≢◌, inl, inr, ℕ, ◌<◌, Bool, true, false, List, [], ◌∷◌, ◌++◌, length, Some, None, Result, Ok, Err, refl, sym, ap, ◌∙◌, append_assoc}
use Rattle.std.specs.Prelude.{◌==◌, not, ◌||◌, if◌then◌else◌, slice_index}
use Rattle.std.proofs.lemmas.Bool.{eqb-true}
use Rattle.sj_base.specs.Tree.{Tree, list, object, Items, no_items, Members, no_members}
use Rattle.sj_tape.specs.Listing.{Entry, string_entry, object_entry, members_listing}
use Rattle.sj_parse.specs.declared.descent_fault.Stop.{Stop}
use Rattle.sj_parse.specs.declared.containers.Frame.{Frame}
use Rattle.sj_parse.specs.declared.stage_two.State.{State}
use Rattle.sj_parse.specs.declared.stage_two.State.TheVariants.{Value, FirstItem, ItemEnd, FirstMember, Key, Colon, MemberEnd, End}
use Rattle.sj_parse.specs.declared.stage_two.Role.{Role}
use Rattle.sj_parse.specs.declared.stage_two.Role.TheVariants as role
use Rattle.sj_parse.specs.Token.{Token}
use Rattle.sj_parse.specs.Escapes.{stop}
use Rattle.sj_parse.specs.Descent.{scalar_stop}
use Rattle.sj_parse.specs.Nodes.{makes_node}
use Rattle.sj_parse.specs.inside.Trees.{Reading, decoded}
use Rattle.sj_parse.specs.inside.Machine.{Waiting, array_of, object_of, Config, value_next, first_item, item_end, first_member, key_next, colon_next, member_end, ended, after_value, waiting_entries, waiting_stack, array_entries, object_entries, array_frame, object_frame, config_state, config_entries, config_stack, IsAt, reading}
use Rattle.sj_parse.specs.inside.Step.{reading_from, value_from, role_of, unexpected_kind, Steps, Closes}
use Rattle.sj_parse.proofs.Machine.{resume-after_value, item_end-close, item_end-comma, first_item-close, first_item-value, first_member-close, first_member-key, first_member-bad_key, member_end-close, member_end-comma, key_next-key, key_next-bad_key, colon_next-colon}
use Rattle.sj_parse.proofs.ValueSteps.{the_token, same_test}

-- ---- what a role says of the byte

if_first : (v : Bool) (x y : Role) → (if v then x else y) ≡ x → y ≢ x → v ≡ true
if_first true x y is other = refl
if_first false x y is other = absurd (other is)

-- the config that is at a state
at_state : (c : Config) (s : State) (es : List Entry) (st : List Frame) → IsAt c s es st → (b : ℕ) (r : Role) → role_of s b ≡ r → role_of (config_state c) b ≡ r
at_state c s es st at b r is = ap (λ (q : State). role_of q b) (sym at.state_is) ∙ is

three : (v w : Bool) (x y : Role) → (if v then x else (if w then y else role.Unexpected)) ≡ x → y ≢ x → role.Unexpected ≢ x → v ≡ true
three true w x y is a b = refl
three false true x y is a b = absurd (a is)
three false false x y is a b = absurd (b is)

second : (v w : Bool) (x y : Role) → (if v then x else (if w then y else role.Unexpected)) ≡ y → x ≢ y → role.Unexpected ≢ y → (v ≡ false) × (w ≡ true)
second true w x y is a b = absurd (a is)
second false true x y is a b = (refl, refl)
second false false x y is a b = absurd (b is)

not_first : (v : Bool) (x y : Role) → (if v then x else y) ≡ y → x ≢ y → v ≡ false
not_first true x y is other = absurd (other is)
not_first false x y is other = refl

-- a separator, whatever comes behind it
separator_only : (v w : Bool) (x : Role) (s next : State) → (if v then x else (if w then role.Separator s else role.Unexpected)) ≡ role.Separator next → x ≢ role.Separator next → (v ≡ false) × (w ≡ true) × (s ≡ next)
separator_only true w x s next is a = absurd (a is)
separator_only false true x s next is a = (refl, refl, cc)
separator_only false false x s next is a = absurd cc

separator_first : (v : Bool) (s next : State) → (if v then role.Separator s else role.Unexpected) ≡ role.Separator next → (v ≡ true) × (s ≡ next)
separator_first true s next is = (refl, cc)
separator_first false s next is = absurd cc

no_key_close : (v : Bool) (x : Role) → (if v then x else role.Unexpected) ≡ role.Close → x ≢ role.Close → ⊥
no_key_close true x is a = a is
no_key_close false x is a = absurd cc

no_separator : (v : Bool) (next : State) → (if v then role.Close else role.Value) ≡ role.Separator next → ⊥
no_separator true next is = absurd cc
no_separator false next is = absurd cc

no_separator_key : (v w : Bool) (next : State) → (if v then role.Close else (if w then role.Key else role.Unexpected)) ≡ role.Separator next → ⊥
no_separator_key true w next is = absurd cc
no_separator_key false true next is = absurd cc
no_separator_key false false next is = absurd cc

no_separator_one : (v : Bool) (next : State) → (if v then role.Key else role.Unexpected) ≡ role.Separator next → ⊥
no_separator_one true next is = absurd cc
no_separator_one false next is = absurd cc

no_key : (v : Bool) (x y : Role) → (if v then x else y) ≡ role.Key → x ≢ role.Key → y ≢ role.Key → ⊥
no_key true x y is a b = a is
no_key false x y is a b = b is

no_key_three : (v w : Bool) (x : Role) → (if v then role.Close else (if w then x else role.Unexpected)) ≡ role.Key → x ≢ role.Key → ⊥
no_key_three true w x is a = absurd cc
no_key_three false true x is a = a is
no_key_three false false x is a = absurd cc

no_value : (v : Bool) (x : Role) → (if v then x else role.Unexpected) ≡ role.Value → x ≢ role.Value → ⊥
no_value true x is a = a is
no_value false x is a = absurd cc

no_value_three : (v w : Bool) (x : Role) → (if v then role.Close else (if w then x else role.Unexpected)) ≡ role.Value → x ≢ role.Value → ⊥
no_value_three true w x is a = absurd cc
no_value_three false true x is a = a is
no_value_three false false x is a = absurd cc

-- ---- the innermost container is closed

pub closes : (c : Config) (s : State) (es : List Entry) (st : List Frame) (b : ℕ) → IsAt c s es st → role_of s b ≡ role.Close → Closes es st
closes c s es st b at is = go c (at_state c s es st at b role.Close is) at.entries_are at.stack_is
  where
    go : (d : Config) → role_of (config_state d) b ≡ role.Close → es ≡ config_entries d → st ≡ config_stack d → Closes es st
    go (value_next ws) r e f = absurd cc
    go (first_item ws) r e f = inl (no_items, ws, e, f)
    go (item_end xs ws) r e f = inl (xs, ws, e, f)
    go (first_member ws) r e f = inr (no_members, ws, e, f)
    go (key_next ms ws) r e f = absurd (no_key_close (b == 0x22) role.Key r (λ x. absurd cc))
    go (colon_next ms k ws) r e f = absurd (no_key_close (b == 0x3a) (role.Separator Value) r (λ x. absurd cc))
    go (member_end ms ws) r e f = inr (ms, ws, e, f)
    go (ended t) r e f = absurd cc

module _ (limit place skip : ℕ) (before bs : List ℕ) (within : skip < length bs) (c : Config) (s : State) (es : List Entry) (st : List Frame) (at : IsAt c s es st) where
  abbrev token : Token
  token = the_token place skip before bs within

  abbrev first : ℕ
  first = slice_index bs skip

  -- the document goes on so behind the token
  abbrev GoesOn : Config → Config → Type 0
  GoesOn now d = (last : ℕ) (ts : List Token) → reading_from limit now token last ts ≡ reading limit d place ts

  test : (k : ℕ) (v : Bool) → (first == k) ≡ v → ((token).byte == k) ≡ v
  test k v is = same_test place skip before bs within k v is

  pub step_close : (t : State) (es_new : List Entry) (st_new : List Frame) → role_of s first ≡ role.Close
      → ((xs : Items) (ws : List Waiting) → es ≡ array_entries xs ws → st ≡ waiting_stack ws ++ array_frame xs ws ∷ [] → IsAt (after_value ws (list xs)) t es_new st_new)
      → ((ms : Members) (ws : List Waiting) → es ≡ object_entries ms ws → st ≡ waiting_stack ws ++ object_frame ms ws ∷ [] → IsAt (after_value ws (object ms)) t es_new st_new)
      → (d : Config) × IsAt d t es_new st_new × GoesOn c d
  step_close t es_new st_new is array_closes object_closes = go c (at_state c s es st at first role.Close is) at.entries_are at.stack_is
    where
      go : (now : Config) → role_of (config_state now) first ≡ role.Close → es ≡ config_entries now → st ≡ config_stack now → (d : Config) × IsAt d t es_new st_new × GoesOn now d
      go (value_next ws) r e f = absurd cc
      go (first_item ws) r e f = (
        after_value ws (list no_items),
        array_closes no_items ws e f,
        λ last ts. first_item-close limit ws last token ts (test 0x5d true (if_first (first == 0x5d) role.Close role.Value r (λ x. absurd cc))) ∙ resume-after_value limit ws (list no_items) place ts,
      )
      go (item_end xs ws) r e f = (
        after_value ws (list xs),
        array_closes xs ws e f,
        λ last ts. item_end-close limit ws last token ts xs (test 0x5d true (three (first == 0x5d) (first == 0x2c) role.Close (role.Separator Value) r (λ x. absurd cc) (λ x. absurd cc))) ∙ resume-after_value limit ws (list xs) place ts,
      )
      go (first_member ws) r e f = (
        after_value ws (object no_members),
        object_closes no_members ws e f,
        λ last ts. first_member-close limit ws last token ts (test 0x7d true (three (first == 0x7d) (first == 0x22) role.Close role.Key r (λ x. absurd cc) (λ x. absurd cc))) ∙ resume-after_value limit ws (object no_members) place ts,
      )
      go (key_next ms ws) r e f = absurd (no_key_close (first == 0x22) role.Key r (λ x. absurd cc))
      go (colon_next ms k ws) r e f = absurd (no_key_close (first == 0x3a) (role.Separator Value) r (λ x. absurd cc))
      go (member_end ms ws) r e f = (
        after_value ws (object ms),
        object_closes ms ws e f,
        λ last ts. member_end-close limit ws last token ts ms (test 0x7d true (three (first == 0x7d) (first == 0x2c) role.Close (role.Separator Key) r (λ x. absurd cc) (λ x. absurd cc))) ∙ resume-after_value limit ws (object ms) place ts,
      )
      go (ended u) r e f = absurd cc

  pub step_separator : (next : State) → role_of s first ≡ role.Separator next → (d : Config) × IsAt d next es st × GoesOn c d
  step_separator next is = go c (at_state c s es st at first (role.Separator next) is) at.entries_are at.stack_is
    where
      go : (now : Config) → role_of (config_state now) first ≡ role.Separator next → es ≡ config_entries now → st ≡ config_stack now → (d : Config) × IsAt d next es st × GoesOn now d
      go (value_next ws) r e f = absurd cc
      go (first_item ws) r e f = absurd (no_separator (first == 0x5d) next r)
      go (item_end xs ws) r e f =
          let p = separator_only (first == 0x5d) (first == 0x2c) role.Close Value next r (λ x. absurd cc) in
          (value_next (array_of xs ∷ ws), record { state_is = sym p.2; entries_are = e; stack_is = f }, λ last ts. item_end-comma limit ws last token ts xs (test 0x5d false p.0) (test 0x2c true p.1))
      go (first_member ws) r e f = absurd (no_separator_key (first == 0x7d) (first == 0x22) next r)
      go (key_next ms ws) r e f = absurd (no_separator_one (first == 0x22) next r)
      go (colon_next ms k ws) r e f =
          let p = separator_first (first == 0x3a) Value next r in
          (value_next (object_of ms k ∷ ws), record { state_is = sym p.1; entries_are = e; stack_is = f }, λ last ts. colon_next-colon limit ws last token ts ms k (test 0x3a true p.0))
      go (member_end ms ws) r e f =
          let p = separator_only (first == 0x7d) (first == 0x2c) role.Close Key next r (λ x. absurd cc) in
          (key_next ms ws, record { state_is = sym p.2; entries_are = e; stack_is = f }, λ last ts. member_end-comma limit ws last token ts ms (test 0x7d false p.0) (test 0x2c true p.1))
      go (ended u) r e f = absurd cc

  -- a key: what it begins, with its text or its fault
  pub step_key : (text : List ℕ) (es_new : List Entry) → role_of s first ≡ role.Key → scalar_stop token ≡ None → text ≡ decoded (token).text → es_new ≡ es ++ string_entry text ∷ [] → (d : Config) × IsAt d Colon es_new st × GoesOn c d
  step_key text es_new is fine decodes one = go c (at_state c s es st at first role.Key is) at.entries_are at.stack_is
    where
      more : (ms : Members) (ws : List Waiting) → es ≡ object_entries ms ws → es_new ≡ waiting_entries (object_of ms (decoded (token).text) ∷ ws)
      more ms ws e =
          one ∙ ap (λ (xs : List Entry). xs ++ string_entry text ∷ []) e ∙ append_assoc (waiting_entries ws) (object_entry 0 0 ∷ members_listing ms) (string_entry text ∷ [])
          ∙ ap (λ (k : List ℕ). waiting_entries ws ++ object_entry 0 0 ∷ (members_listing ms ++ string_entry k ∷ [])) decodes

      go : (now : Config) → role_of (config_state now) first ≡ role.Key → es ≡ config_entries now → st ≡ config_stack now → (d : Config) × IsAt d Colon es_new st × GoesOn now d
      go (value_next ws) r e f = absurd cc
      go (first_item ws) r e f = absurd (no_key (first == 0x5d) role.Close role.Value r (λ x. absurd cc) (λ x. absurd cc))
      go (item_end xs ws) r e f = absurd (no_key_three (first == 0x5d) (first == 0x2c) (role.Separator Value) r (λ x. absurd cc))
      go (first_member ws) r e f =
          let p = second (first == 0x7d) (first == 0x22) role.Close role.Key r (λ x. absurd cc) (λ x. absurd cc) in (
            colon_next no_members (decoded (token).text) ws,
            record { state_is = refl; entries_are = more no_members ws e; stack_is = f },
            λ last ts. first_member-key limit ws last token ts (test 0x7d false p.0) (test 0x22 true p.1) fine,
          )
      go (key_next ms ws) r e f = (
        colon_next ms (decoded (token).text) ws,
        record { state_is = refl; entries_are = more ms ws e; stack_is = f },
        λ last ts. key_next-key limit ws last token ts ms (test 0x22 true (if_first (first == 0x22) role.Key role.Unexpected r (λ x. absurd cc))) fine,
      )
      go (colon_next ms k ws) r e f = absurd (no_key (first == 0x3a) (role.Separator Value) role.Unexpected r (λ x. absurd cc) (λ x. absurd cc))
      go (member_end ms ws) r e f = absurd (no_key_three (first == 0x7d) (first == 0x2c) (role.Separator Key) r (λ x. absurd cc))
      go (ended u) r e f = absurd cc

  pub step_bad_key : (bad : Stop) → role_of s first ≡ role.Key → scalar_stop token ≡ Some bad → (last : ℕ) (ts : List Token) → reading_from limit c token last ts ≡ Err bad
  step_bad_key bad is fault last ts = go c (at_state c s es st at first role.Key is)
    where
      go : (now : Config) → role_of (config_state now) first ≡ role.Key → reading_from limit now token last ts ≡ Err bad
      go (value_next ws) r = absurd cc
      go (first_item ws) r = absurd (no_key (first == 0x5d) role.Close role.Value r (λ x. absurd cc) (λ x. absurd cc))
      go (item_end xs ws) r = absurd (no_key_three (first == 0x5d) (first == 0x2c) (role.Separator Value) r (λ x. absurd cc))
      go (first_member ws) r =
          let p = second (first == 0x7d) (first == 0x22) role.Close role.Key r (λ x. absurd cc) (λ x. absurd cc) in
          first_member-bad_key limit ws last token ts bad (test 0x7d false p.0) (test 0x22 true p.1) fault
      go (key_next ms ws) r = key_next-bad_key limit ws last token ts ms bad (test 0x22 true (if_first (first == 0x22) role.Key role.Unexpected r (λ x. absurd cc))) fault
      go (colon_next ms k ws) r = absurd (no_key (first == 0x3a) (role.Separator Value) role.Unexpected r (λ x. absurd cc) (λ x. absurd cc))
      go (member_end ms ws) r = absurd (no_key_three (first == 0x7d) (first == 0x2c) (role.Separator Key) r (λ x. absurd cc))
      go (ended u) r = absurd cc

  -- a value is read where a container, or the root, waits for one
  pub step_value : role_of s first ≡ role.Value → (ws : List Waiting) × (es ≡ waiting_entries ws) × (st ≡ waiting_stack ws) × ((last : ℕ) (ts : List Token) → reading_from limit c token last ts ≡ value_from limit (unexpected_kind s) ws token last ts)
  step_value is =
      let p = go c (at_state c s es st at first role.Value is) at.entries_are at.stack_is in
      (p.0, p.1, p.2, λ last ts. p.3 last ts ∙ ap (λ (q : State). value_from limit (unexpected_kind q) p.0 token last ts) (sym at.state_is))
    where
      go : (now : Config) → role_of (config_state now) first ≡ role.Value → es ≡ config_entries now → st ≡ config_stack now → (ws : List Waiting) × (es ≡ waiting_entries ws) × (st ≡ waiting_stack ws) × ((last : ℕ) (ts : List Token) → reading_from limit now token last ts ≡ value_from limit (unexpected_kind (config_state now)) ws token last ts)
      go (value_next ws) r e f = (ws, e, f, λ last ts. refl)
      go (first_item ws) r e f =
          (array_of no_items ∷ ws, e, f, λ last ts. first_item-value limit ws last token ts (test 0x5d false (not_first (first == 0x5d) role.Close role.Value r (λ x. absurd cc))))
      go (item_end xs ws) r e f = absurd (no_value_three (first == 0x5d) (first == 0x2c) (role.Separator Value) r (λ x. absurd cc))
      go (first_member ws) r e f = absurd (no_value_three (first == 0x7d) (first == 0x22) role.Key r (λ x. absurd cc))
      go (key_next ms ws) r e f = absurd (no_value (first == 0x22) role.Key r (λ x. absurd cc))
      go (colon_next ms k ws) r e f = absurd (no_value (first == 0x3a) (role.Separator Value) r (λ x. absurd cc))
      go (member_end ms ws) r e f = absurd (no_value_three (first == 0x7d) (first == 0x2c) (role.Separator Key) r (λ x. absurd cc))
      go (ended u) r e f = absurd cc

  -- nothing else may come
  pub step_unexpected : s ≢ End → role_of s first ≡ role.Unexpected → (last : ℕ) (ts : List Token) → reading_from limit c token last ts ≡ Err (stop (unexpected_kind s) place)
  step_unexpected other is last ts = grind (arith, common_steps)

-- only a quote begins a key
pub key_byte : (s : State) (b : ℕ) → role_of s b ≡ role.Key → b ≡ 0x22
key_byte Value b is = absurd cc
key_byte FirstItem b is = absurd (no_key (b == 0x5d) role.Close role.Value is (λ x. absurd cc) (λ x. absurd cc))
key_byte ItemEnd b is = absurd (no_key_three (b == 0x5d) (b == 0x2c) (role.Separator Value) is (λ x. absurd cc))
key_byte FirstMember b is = eqb-true b 0x22 (second (b == 0x7d) (b == 0x22) role.Close role.Key is (λ x. absurd cc) (λ x. absurd cc)).1
key_byte Key b is = eqb-true b 0x22 (if_first (b == 0x22) role.Key role.Unexpected is (λ x. absurd cc))
key_byte Colon b is = absurd (no_key (b == 0x3a) (role.Separator Value) role.Unexpected is (λ x. absurd cc) (λ x. absurd cc))
key_byte MemberEnd b is = absurd (no_key_three (b == 0x7d) (b == 0x2c) (role.Separator Key) is (λ x. absurd cc))
key_byte End b is = absurd cc

pub key_makes_node : (t : Token) → t.byte ≡ 0x22 → makes_node t ≡ true
key_makes_node t is = ap (λ (b : ℕ). not (b == 0x5d || b == 0x7d || b == 0x3a || b == 0x2c)) is

-- where the document reads alike before the token
pub steps_as : (limit place : ℕ) (now other : ℕ → List Token → Reading Tree) (r : Result State Stop) (es : List Entry) (st : List Frame) → ((last : ℕ) (ts : List Token) → now last ts ≡ other last ts) → Steps limit place other r es st → Steps limit place now r es st
steps_as limit place now other (Ok s) es st same h = (h.0, h.1, λ last ts. same last ts ∙ h.2 last ts)
steps_as limit place now other (Err s) es st same h = λ last ts. same last ts ∙ h last ts
