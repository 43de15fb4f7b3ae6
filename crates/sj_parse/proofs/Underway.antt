-- The descent between two tokens: what a token that is read makes of it.
use Rattle.std.proofs.Common.{◌≡◌, ◌≢◌, ◌⊎◌, ℕ, ◌+◌, ◌-◌, ◌<◌, ◌≤◌, Bool, true, false, List, [], ◌∷◌, ◌++◌, length, drop, take, map, min, Some, None, Err, refl, sym, ap, ◌∙◌, arith, subst}
use Rattle.std.specs.Borrow.{MutBor}
use Rattle.std.proofs.lemmas.List.{append-nil}
use Rattle.std.proofs.lemmas.Bool.{not-true, not-false, ltb-true, ltb-false}
use Rattle.std.specs.Prelude.{◌==◌, nat_lt, not, if◌then◌else◌, slice_get, slice_index, Vec, vec_len, vec_capacity, IsUtf8}
use Rattle.std.specs.List.{range_with_len}
use Rattle.std.specs.declared.alloc.Global.{Global}
use Rattle.sj_base.specs.Reads.{reads_items, reads_places, noted}
use Rattle.sj_base.specs.declared.reads.Reads.{Reads}
use Rattle.sj_base.specs.Spelling.{longest}
use Rattle.sj_base.specs.Tree.{Tree}
use Rattle.sj_scan.specs.Positions.{before, positions}
use Rattle.sj_scan.specs.Scan.{scan_fault}
use Rattle.sj_tape.specs.Listing.{listing}
use Rattle.sj_tape.specs.Nodes.{entries}
use Rattle.sj_tape.specs.declared.node.Node.{Node}
use Rattle.sj_parse.specs.Token.{Token, token_at}
use Rattle.sj_parse.specs.Nodes.{HaveCarriers}
use Rattle.sj_parse.specs.Answers.{IsTapeOf}
use Rattle.sj_parse.specs.Counts.{ReadsEachOnce, ReadsAll}
use Rattle.sj_parse.specs.Fault.{fault, descent_error}
use Rattle.sj_parse.specs.declared.descent_fault.DescentKind.{DescentKind}
use Rattle.sj_parse.specs.declared.descent_fault.DescentKind.TheVariants.{Syntax}
use Rattle.sj_parse.specs.declared.descent_fault.DescentFault.{DescentFault}
use Rattle.sj_parse.specs.declared.descent_fault.Stop.{Stop}
use Rattle.sj_parse.specs.declared.containers.Frame.{Frame}
use Rattle.sj_parse.specs.declared.stage_two.State.{State}
use Rattle.sj_parse.specs.declared.stage_two.State.TheVariants.{Value, End}
use Rattle.sj_parse.specs.declared.stage_two.Cursor.{Cursor}
use Rattle.sj_parse.specs.declared.tail.Tail.{Tail}
use Rattle.sj_parse.specs.inside.Machine.{Config, IsAt, reading}
use Rattle.sj_parse.specs.inside.Step.{string_body, reading_from, StopsAt, left_kind_of}
use Rattle.sj_parse.specs.inside.Tail.{Holds, Reaches, IsBehind, first_byte, token_here}
use Rattle.sj_parse.specs.inside.Underway.{Between, Underway, Stopped}
use Rattle.sj_parse.proofs.Between.{between-start, from_le, skip_lt, few, body_utf8, next_reach, next_inside, rest_ends, between-next, step_fault, left_fault, cut_fault, whole_tree, whole_carriers, some_tokens}
use Rattle.sj_parse.proofs.Counts.{item-some, counted-next}
use Rattle.sj_parse.proofs.TextTapes.{fault-descent, tape-of_tree_value}

module _ {input : List ℕ} {limit : ℕ} {read : List ℕ} {places : Reads ℕ} {state : State} {cursor : Cursor} {nodes : Vec Node Global} {stack : Vec Frame Global} (u : Underway input limit read places state cursor nodes stack) (other : state ≢ End) where
  abbrev items : List ℕ
  items = reads_items places

  abbrev tail : Tail
  tail = cursor.tail

  abbrev bef : List ℕ
  bef = before input cursor.place

  -- the place behind the next token
  abbrev behind : ℕ
  behind = if nat_lt (cursor.count + 1) (length items) then slice_index items (cursor.count + 1) else tail.from + length tail.rest.now

  within : cursor.count < length items
  within = (u.more other).0

  place_is : cursor.place ≡ slice_index items cursor.count
  place_is = (u.more other).1

  pub not_before : tail.from ≤ cursor.place
  not_before = from_le u.between within u.places_are place_is

  pub inside : cursor.place - tail.from < length tail.rest.now
  inside = skip_lt u.between within u.places_are place_is

  pub ends : tail.from + length tail.rest.now ≤ longest
  ends =
      let all = rest_ends u.between within u.places_are place_is in
      let short = u.short in omega arith

  pub holds : {n : ℕ} → n ≡ behind → Holds cursor.place n tail
  holds {n} is =
      let all = rest_ends u.between within u.places_are place_is in
      let reached = next_reach u.between within u.places_are place_is in
      let in_text = next_inside u.between within u.places_are place_is in
      let last = ends in record {
        is_behind = not_before;
        is_inside = inside;
        is_before = omega arith;
        next_is_inside = omega arith;
        short = last;
      }

  pub reaches : {n : ℕ} → n ≡ behind → Reaches cursor.place n tail
  reaches {n} is = let reached = next_reach u.between within u.places_are place_is in (bef, omega arith)

  pub is_text : first_byte cursor.place tail ≡ 0x22 → IsUtf8 (string_body (drop (cursor.place - tail.from + 1) tail.rest.now))
  is_text = body_utf8 u.between within u.places_are place_is (some_tokens input u.scanned).0

  pub node_fits : vec_len nodes < vec_capacity nodes
  node_fits =
      let lt = within in
      let p = few u.between (omega arith) in
      let same = nodes.ok.0 in
      let room = u.nodes_fit in omega arith

  pub frame_fits : vec_len stack < limit → vec_len stack < vec_capacity stack
  frame_fits = λ room.
      let lt = within in
      let p = few u.between (omega arith) in
      let same = stack.ok.0 in
      let enough = u.stack_fits in omega arith

  -- how many places were read, once the one behind the token was looked for
  read_next : (places_new : Reads ℕ) → reads_items places_new ≡ items → reads_places places_new ≡ noted items (reads_places places) (cursor.count + 1) → (v : Bool) → nat_lt (cursor.count + 1) (length items) ≡ v
      → reads_places places_new ≡ read ++ range_with_len 0 (if v then cursor.count + 1 + 1 else cursor.count + 1)
  read_next places_new same noted_is true is = counted-next items read (reads_places places) (cursor.count + 1) (reads_places places_new) (ltb-true _ _ is) noted_is (u.more other).2
  read_next places_new same noted_is false is = let unlisted : noted items (reads_places places) (cursor.count + 1) ≡ reads_places places = rw is refl in noted_is ∙ unlisted ∙ (u.more other).2

  read_once : (places_new : Reads ℕ) → reads_items places_new ≡ items → reads_places places_new ≡ noted items (reads_places places) (cursor.count + 1) → (v : Bool) → nat_lt (cursor.count + 1) (length items) ≡ v → ReadsEachOnce (length (reads_items places_new)) read (reads_places places_new)
  read_once places_new same noted_is true is =
      let lt : cursor.count + 1 < length items = ltb-true _ _ is in
      let kept = ap length same in
      (cursor.count + 1 + 1, omega arith, read_next places_new same noted_is true is)
  read_once places_new same noted_is false is =
      let lt = within in
      let kept = ap length same in
      (cursor.count + 1, omega arith, read_next places_new same noted_is false is)

  -- what step answers
  module _ (places_new : Reads ℕ) (nodes_new : Vec Node Global) (stack_new : Vec Frame Global)
      (same : reads_items places_new ≡ items) (noted_is : reads_places places_new ≡ noted items (reads_places places) (cursor.count + 1))
      (nodes_grow : vec_len nodes_new ≤ vec_len nodes + 1) (stack_grow : vec_len stack_new ≤ vec_len stack + 1) (levels : vec_len stack ≤ limit → vec_len stack_new ≤ limit) where
    few_new : (length nodes_new.items ≤ length (reads_items places_new)) × (length stack_new.items ≤ min limit (length (reads_items places_new))) × (length stack_new.items ≤ limit)
    few_new =
        let lt = within in
        let p = few u.between (omega arith) in
        let kept = ap length same in
        let old = u.levels in
        let nodes_old = nodes.ok.0 in
        let nodes_same = nodes_new.ok.0 in
        let stack_old = stack.ok.0 in
        let stack_same = stack_new.ok.0 in
        let deep = levels (omega arith) in
        (omega arith, omega arith, omega arith)

    stopped : (f : DescentFault) → fault input limit ≡ Some (descent_error f) → Stopped input limit read places_new nodes_new stack_new f
    stopped f is = record {
      is_first = is;
      once = read_once places_new same noted_is (nat_lt (cursor.count + 1) (length items)) refl;
      nodes_few = few_new.0;
      stack_few = few_new.1;
    }

    -- The token is at fault.
    pub stops : (s : Stop) (f : DescentFault)
        → ((before : List ℕ) → (k : ℕ) (ts : List Token) → reading_from limit (u.between).config (token_here cursor.place before tail) k ts ≡ Err s)
        → StopsAt cursor.place (cursor.place - tail.from) tail.rest.now s
        → f ≡ record { kind = s.kind; index = s.place; byte = if s.place == cursor.place then first_byte cursor.place tail else 0x5c }
        → Stopped input limit read places_new nodes_new stack_new f
    stops s f steps at f_is =
        stopped f (fault-descent input limit u.short u.scanned ∙ step_fault u.between within u.places_are place_is s (steps bef) at ∙ ap (λ g. Some (descent_error g)) (sym f_is))

    module _ {after : State} (steps : (before : List ℕ) → (d : Config) × IsAt d after (entries nodes_new.items) stack_new.items × ((last : ℕ) (ts : List Token) → reading_from limit (u.between).config (token_here cursor.place before tail) last ts ≡ reading limit d cursor.place ts)) where
      -- It is the last token, and the root has no value.
      pub cut : true ≡ not (nat_lt (cursor.count + 1) (length items)) → after ≢ End → Stopped input limit read places_new nodes_new stack_new (record { kind = Syntax; index = cursor.place; byte = first_byte cursor.place tail })
      cut last no_end =
          let s = steps bef in
          stopped _ (fault-descent input limit u.short u.scanned ∙ cut_fault u.between within u.places_are place_is after _ _ s.0 s.1 s.2 (ltb-false _ _ (not-true _ (sym last))) no_end)

      -- The root has its value, and a token is left.
      pub left : false ≡ not (nat_lt (cursor.count + 1) (length items)) → after ≡ End → (kind : DescentKind) → ((t : Tree) → entries nodes_new.items ≡ listing t → kind ≡ left_kind_of t)
          → Stopped input limit read places_new nodes_new stack_new (record { kind = kind; index = cursor.place; byte = first_byte cursor.place tail })
      left more is_end kind is =
          let s = steps bef in
          stopped _ (fault-descent input limit u.short u.scanned ∙ left_fault u.between within u.places_are place_is after _ _ s.0 s.1 s.2 (ltb-true _ _ (not-false _ (sym more))) is_end kind is)

      -- the token was read
      pub goes_on : (tail_new : Tail) (n : ℕ) → n ≡ behind
          → ((ts : List Token) (before : List ℕ) → HaveCarriers ts nodes.items → HaveCarriers (ts ++ token_here cursor.place before tail ∷ []) nodes_new.items)
          → IsBehind n tail tail_new
          → vec_capacity nodes_new ≡ vec_capacity nodes → vec_capacity stack_new ≡ vec_capacity stack
          → (after ≡ End → nat_lt (cursor.count + 1) (length items) ≡ false) → (after ≢ End → nat_lt (cursor.count + 1) (length items) ≡ true)
          → Underway input limit read places_new after (record { tail = tail_new; count = cursor.count + 1; place = n }) nodes_new stack_new
      goes_on tail_new n n_is carry cut_or_kept nodes_room stack_room last more =
          let s = steps bef in
          let kept = ap length same in
          let lt = within in
          let fit = u.nodes_fit in
          let fits = u.stack_fits in
          let next_between = between-next u.between within u.places_are place_is nodes_new.items stack_new.items tail_new.rest.now tail_new.from after s.0 s.1 s.2 (carry (map (token_at input) (take cursor.count items)) bef (u.between).carriers) (subst (λ (m : ℕ). ((tail_new.from ≡ tail.from) × (tail_new.rest.now ≡ tail.rest.now)) ⊎ ((tail_new.from ≡ m) × (tail_new.rest.now ≡ drop (m - tail.from) tail.rest.now))) n_is cut_or_kept) in
          record {
            scanned = u.scanned;
            short = u.short;
            places_are = same ∙ u.places_are;
            between = subst (λ (ps : List ℕ). Between input ps limit nodes_new.items stack_new.items tail_new.rest.now tail_new.from after (cursor.count + 1)) (sym same) next_between;
            within = omega arith;
            more = λ e.
                let here = more e in
                let later : cursor.count + 1 < length items = ltb-true _ _ here in
                (omega arith, n_is ∙ ap (λ (v : Bool). if v then slice_index items (cursor.count + 1) else tail.from + length tail.rest.now) here ∙ ap (λ (xs : List ℕ). slice_index xs (cursor.count + 1)) (sym same), read_next places_new same noted_is true here);
            done = λ e.
                let here = last e in
                let none : length items ≤ cursor.count + 1 = ltb-false _ _ here in
                (omega arith, read_next places_new same noted_is false here);
            nodes_fit = omega arith;
            stack_fits = omega arith;
            levels = few_new.2;
          }

-- nothing was read yet
pub start : {input : MutBor (List ℕ)} {limit : ℕ} (places_old places : Reads ℕ) {nodes : Vec Node Global} {stack : Vec Frame Global} {first : ℕ}
    → scan_fault input.now ≡ None → reads_items places_old ≡ positions input.now → length input.now ≤ longest
    → (nodes.items ≡ []) × (stack.items ≡ []) → length (reads_items places_old) ≤ vec_capacity nodes → min limit (length (reads_items places_old)) ≤ vec_capacity stack
    → Some first ≡ slice_get (reads_items places_old) 0 → reads_items places ≡ reads_items places_old → reads_places places ≡ noted (reads_items places_old) (reads_places places_old) 0
    → Underway input.now limit (reads_places places_old) places Value (record { tail = record { rest = input; from = 0 }; count = 0; place = first }) nodes stack
start {input} {limit} places_old places {nodes} {stack} {first} scanned are short empty nodes_fit stack_fits some same noted_is =
    let none = ap length empty.1 in
    let kept = ap length same in
    let item = item-some _ _ _ some in
    let one = counted-next (reads_items places_old) (reads_places places_old) (reads_places places_old) 0 (reads_places places) item.0 noted_is (sym (append-nil (reads_places places_old))) in
    record {
      scanned = scanned;
      short = short;
      places_are = same ∙ are;
      between = between-start input.now (reads_items places) limit nodes.items stack.items (same ∙ are) empty.0 empty.1;
      within = omega arith;
      more = λ e. let lt = item.0 in (omega arith, item.1 ∙ ap (λ (xs : List ℕ). slice_index xs 0) (sym same), one);
      done = λ e. absurd (value_end e);
      nodes_fit = omega arith;
      stack_fits = omega arith;
      levels = omega arith;
    }
  where
    value_end : Value ≡ End → ⊥
    value_end e = absurd cc

-- the root has its value, and no token is left
module _ {input : List ℕ} {limit : ℕ} {read : List ℕ} {places : Reads ℕ} {cursor : Cursor} {nodes : Vec Node Global} {stack : Vec Frame Global} (u : Underway input limit read places End cursor nodes stack) where
  pub whole : (fault input limit ≡ None) × IsTapeOf input limit nodes.items × ReadsAll (length (reads_items places)) read (reads_places places)
  whole =
      let done = u.done refl in
      let t = whole_tree u.between done.0 refl in
      let tape = tape-of_tree_value input limit nodes.items u.short u.scanned t.0 t.1 t.2 t.3 (whole_carriers u.between done.0 u.places_are) in
      (tape.0, tape.1, done.1 ∙ ap (λ (n : ℕ). read ++ range_with_len 0 n) done.0)

  pub once : ReadsEachOnce (length (reads_items places)) read (reads_places places)
  once = let done = u.done refl in (cursor.count, omega (arith, done.0), done.1)

  pub nodes-few : length nodes.items ≤ length (reads_items places)
  nodes-few =
      let within = u.within in
      let p = few u.between within in omega arith

  pub stack-few : length stack.items ≤ min limit (length (reads_items places))
  stack-few =
      let within = u.within in
      let p = few u.between within in
      let levels = u.levels in omega arith
