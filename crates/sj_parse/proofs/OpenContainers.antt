-- Open containers: their entries and frames, and what a value adds to the innermost one.
use Rattle.std.proofs.Common.{◌≡◌, ℕ, zero, suc, ◌+◌, ◌-◌, ◌<◌, ◌≤◌, Bool, true, false, List, [], ◌∷◌, ◌++◌, length, set, refl, sym, ap, ◌∙◌, arith, subst, append_assoc, append-nil, length-append}
use Rattle.std.proofs.Math.Seq.{set-append_seam}
use Rattle.std.proofs.lemmas.List.{map-append, map-set, length-map}
use Rattle.std.proofs.lemmas.List.Elements.{filter-append}
use Rattle.std.specs.Prelude.{filter, if◌then◌else◌}
use Rattle.std.specs.List.{AllZip}
use Rattle.sj_base.specs.Containers.{items_len, members_len}
use Rattle.sj_base.specs.Tree.{Tree, null, boolean, integer, decimal, string, list, object, Items, no_items, item, Members, no_members, member}
use Rattle.sj_tape.specs.Listing.{Entry, string_entry, list_entry, object_entry, listing, items_listing, members_listing}
use Rattle.sj_tape.specs.Nodes.{node_entry, entries}
use Rattle.sj_tape.specs.declared.node.Node.{Node}
use Rattle.sj_tape.specs.declared.node.Node.TheVariants.{Object, Array}
use Rattle.sj_parse.specs.declared.containers.Frame.{Frame}
use Rattle.sj_parse.specs.declared.stage_two.State.TheVariants.{FirstItem, ItemEnd, FirstMember, MemberEnd}
use Rattle.sj_parse.specs.Token.{Token}
use Rattle.sj_parse.specs.Nodes.{makes_node, HasCarrier, HaveCarriers}
use Rattle.sj_parse.specs.inside.Machine.{append_items, append_members, Waiting, array_of, object_of, Config, first_item, first_member, opened, frame_entry, config_state, config_entries, config_stack, waiting_entries, waiting_stack, array_entries, object_entries, array_frame, object_frame, after_value, IsAt}

-- ---- lists

pub snoc_parts : {A : Type 0} (xs ys : List A) (x y : A) → xs ++ x ∷ [] ≡ ys ++ y ∷ [] → (xs ≡ ys) × (x ≡ y)
snoc_parts [] [] x y e = (refl, cc)
snoc_parts [] (z ∷ []) x y e = absurd cc
snoc_parts [] (z ∷ w ∷ ys) x y e = absurd cc
snoc_parts (z ∷ []) [] x y e = absurd cc
snoc_parts (z ∷ w ∷ xs) [] x y e = absurd cc
snoc_parts (z ∷ xs) (w ∷ ys) x y e =
    let tails : xs ++ x ∷ [] ≡ ys ++ y ∷ [] = cc in
    let heads : z ≡ w = cc in
    let rest = snoc_parts xs ys x y tails in
    (let same = rest.0 in cc, rest.1)

pub no_snoc : {A : Type 0} (xs : List A) (x : A) → [] ≡ xs ++ x ∷ [] → ⊥
no_snoc [] x e = absurd cc
no_snoc (z ∷ xs) x e = absurd cc

-- ---- listings

pub items_listing-append : (xs ys : Items) → items_listing (append_items xs ys) ≡ items_listing xs ++ items_listing ys
items_listing-append no_items ys = refl
items_listing-append (item x xs) ys = ap (λ (es : List Entry). listing x ++ es) (items_listing-append xs ys) ∙ sym (append_assoc (listing x) (items_listing xs) (items_listing ys))

pub members_listing-append : (ms ns : Members) → members_listing (append_members ms ns) ≡ members_listing ms ++ members_listing ns
members_listing-append no_members ns = refl
members_listing-append (member k t ms) ns =
    ap (λ (es : List Entry). string_entry k ∷ (listing t ++ es)) (members_listing-append ms ns) ∙ ap (λ (es : List Entry). string_entry k ∷ es) (sym (append_assoc (listing t) (members_listing ms) (members_listing ns)))

items_len-one : (xs : Items) (t : Tree) → items_len (append_items xs (item t no_items)) ≡ items_len xs + 1
items_len-one no_items t = refl
items_len-one (item x xs) t = let more = items_len-one xs t in omega arith

members_len-one : (ms : Members) (k : List ℕ) (t : Tree) → members_len (append_members ms (member k t no_members)) ≡ members_len ms + 1
members_len-one no_members k t = refl
members_len-one (member j u ms) k t = let more = members_len-one ms k t in omega arith

-- each value has an entry of its own
length-listing : (t : Tree) → 0 < length (listing t)
length-listing null = omega arith
length-listing (boolean b) = omega arith
length-listing (integer n) = omega arith
length-listing (decimal literal) = omega arith
length-listing (string s) = omega arith
length-listing (list ts) = omega arith
length-listing (object ms) = omega arith

items_len-listing : (xs : Items) → items_len xs ≤ length (items_listing xs)
items_len-listing no_items = omega arith
items_len-listing (item x xs) =
    let one = length-listing x in
    let more = items_len-listing xs in
    let both = length-append (listing x) (items_listing xs) in omega arith

members_len-listing : (ms : Members) → members_len ms ≤ length (members_listing ms)
members_len-listing no_members = omega arith
members_len-listing (member k t ms) =
    let more = members_len-listing ms in
    let both = length-append (listing t) (members_listing ms) in omega arith

-- ---- a value is added to the innermost container

one_item : (xs : Items) (t : Tree) → items_listing (append_items xs (item t no_items)) ≡ items_listing xs ++ listing t
one_item xs t = items_listing-append xs (item t no_items) ∙ ap (λ (es : List Entry). items_listing xs ++ es) (append-nil (listing t))

one_member : (ms : Members) (k : List ℕ) (t : Tree) → members_listing (append_members ms (member k t no_members)) ≡ members_listing ms ++ string_entry k ∷ listing t
one_member ms k t = members_listing-append ms (member k t no_members) ∙ ap (λ (es : List Entry). members_listing ms ++ string_entry k ∷ es) (append-nil (listing t))

pub after_value-entries : (ws : List Waiting) (t : Tree) → waiting_entries ws ++ listing t ≡ config_entries (after_value ws t)
after_value-entries [] t = refl
after_value-entries (array_of xs ∷ ws) t =
    append_assoc (waiting_entries ws) (list_entry 0 0 ∷ items_listing xs) (listing t)
    ∙ ap (λ (es : List Entry). waiting_entries ws ++ list_entry 0 0 ∷ es) (sym (one_item xs t))
after_value-entries (object_of ms k ∷ ws) t =
    append_assoc (waiting_entries ws) (object_entry 0 0 ∷ (members_listing ms ++ string_entry k ∷ [])) (listing t)
    ∙ ap (λ (es : List Entry). waiting_entries ws ++ object_entry 0 0 ∷ es) (append_assoc (members_listing ms) (string_entry k ∷ []) (listing t) ∙ sym (one_member ms k t))

-- the frame that is on top
abbrev pub counted : Frame → Frame
counted f = record f { len = f.len + 1 }

pub after_value-stack : (ws : List Waiting) (t : Tree) (rest : List Frame) (f : Frame) → waiting_stack ws ≡ rest ++ f ∷ [] → rest ++ counted f ∷ [] ≡ config_stack (after_value ws t)
after_value-stack [] t rest f e = absurd (no_snoc rest f e)
after_value-stack (array_of xs ∷ ws) t rest f e =
    let parts = snoc_parts (waiting_stack ws) rest (array_frame xs ws) f e in
    ap (λ (fs : List Frame). fs ++ counted f ∷ []) (sym parts.0) ∙ ap (λ (g : Frame). waiting_stack ws ++ counted g ∷ []) (sym parts.1)
    ∙ ap (λ (n : ℕ). waiting_stack ws ++ record (array_frame xs ws) { len = n } ∷ []) (sym (items_len-one xs t))
after_value-stack (object_of ms k ∷ ws) t rest f e =
    let parts = snoc_parts (waiting_stack ws) rest (object_frame ms ws) f e in
    ap (λ (fs : List Frame). fs ++ counted f ∷ []) (sym parts.0) ∙ ap (λ (g : Frame). waiting_stack ws ++ counted g ∷ []) (sym parts.1)
    ∙ ap (λ (n : ℕ). waiting_stack ws ++ record (object_frame ms ws) { len = n } ∷ []) (sym (members_len-one ms k t))

pub after_value-state : (ws : List Waiting) (t : Tree) (rest : List Frame) (f : Frame) → waiting_stack ws ≡ rest ++ f ∷ [] → (if f.is_object then MemberEnd else ItemEnd) ≡ config_state (after_value ws t)
after_value-state [] t rest f e = absurd (no_snoc rest f e)
after_value-state (array_of xs ∷ ws) t rest f e = ap (λ (g : Frame). if g.is_object then MemberEnd else ItemEnd) (sym (snoc_parts (waiting_stack ws) rest (array_frame xs ws) f e).1)
after_value-state (object_of ms k ∷ ws) t rest f e = ap (λ (g : Frame). if g.is_object then MemberEnd else ItemEnd) (sym (snoc_parts (waiting_stack ws) rest (object_frame ms ws) f e).1)

-- what a container holds is fewer than the entries
pub frame_len : (ws : List Waiting) (rest : List Frame) (f : Frame) → waiting_stack ws ≡ rest ++ f ∷ [] → f.len + 1 ≤ length (waiting_entries ws)
frame_len [] rest f e = absurd (no_snoc rest f e)
frame_len (array_of xs ∷ ws) rest f e =
    let same : items_len xs ≡ f.len = ap (λ (g : Frame). g.len) (snoc_parts (waiting_stack ws) rest (array_frame xs ws) f e).1 in
    let few = items_len-listing xs in
    let both = length-append (waiting_entries ws) (list_entry 0 0 ∷ items_listing xs) in omega arith
frame_len (object_of ms k ∷ ws) rest f e =
    let same : members_len ms ≡ f.len = ap (λ (g : Frame). g.len) (snoc_parts (waiting_stack ws) rest (object_frame ms ws) f e).1 in
    let few = members_len-listing ms in
    let inner = length-append (members_listing ms) (string_entry k ∷ []) in
    let both = length-append (waiting_entries ws) (object_entry 0 0 ∷ (members_listing ms ++ string_entry k ∷ [])) in omega arith

pub length-waiting_stack : (ws : List Waiting) → length (waiting_stack ws) ≡ length ws
length-waiting_stack [] = refl
length-waiting_stack (array_of xs ∷ ws) = let more = length-waiting_stack ws in let both = length-append (waiting_stack ws) (array_frame xs ws ∷ []) in omega arith
length-waiting_stack (object_of ms k ∷ ws) = let more = length-waiting_stack ws in let both = length-append (waiting_stack ws) (object_frame ms ws ∷ []) in omega arith

-- ---- carriers

AllZip-append : {A B : Type 0} (R : A → B → Type 0) (xs : List A) (ys : List B) (us : List A) (vs : List B) → AllZip R xs ys → AllZip R us vs → AllZip R (xs ++ us) (ys ++ vs)
AllZip-append R [] [] us vs h k = k
AllZip-append R [] (y ∷ ys) us vs h k = absurd h
AllZip-append R (x ∷ xs) [] us vs h k = absurd h
AllZip-append R (x ∷ xs) (y ∷ ys) us vs h k = (h.0, AllZip-append R xs ys us vs h.1 k)

pub carriers-one : (ts : List Token) (nodes : List Node) (t : Token) (n : Node) → makes_node t ≡ true → HasCarrier t n → HaveCarriers ts nodes → HaveCarriers (ts ++ t ∷ []) (nodes ++ n ∷ [])
carriers-one ts nodes t n makes has h =
    let made : filter makes_node (t ∷ []) ≡ t ∷ [] = ap (λ (b : Bool). if b then t ∷ [] else []) makes in
    subst (λ (us : List Token). AllZip HasCarrier us (nodes ++ n ∷ [])) (sym (filter-append makes_node ts (t ∷ []) ∙ ap (λ (us : List Token). filter makes_node ts ++ us) made))
    (AllZip-append HasCarrier (filter makes_node ts) nodes (t ∷ []) (n ∷ []) h (has, tt))

pub carriers-set : (ts : List Token) (nodes : List Node) (i : ℕ) (n : Node) → ((t : Token) → HasCarrier t n) → HaveCarriers ts nodes → HaveCarriers ts (set nodes i n)
carriers-set ts nodes i n has h = go (filter makes_node ts) nodes i h
  where
    go : (us : List Token) (ns : List Node) (j : ℕ) → AllZip HasCarrier us ns → AllZip HasCarrier us (set ns j n)
    go [] [] j k = k
    go [] (m ∷ ns) j k = absurd k
    go (u ∷ us) [] j k = absurd k
    go (u ∷ us) (m ∷ ns) zero k = (has u, k.1)
    go (u ∷ us) (m ∷ ns) (suc j) k = (k.0, go us ns j k.1)

-- ---- nodes

pub entries-one : (nodes : List Node) (n : Node) → entries (nodes ++ n ∷ []) ≡ entries nodes ++ node_entry n ∷ []
entries-one nodes n = map-append node_entry nodes (n ∷ [])

-- the entry of a container is set behind what stands before it
entries-set : (nodes : List Node) (front : List Entry) (e : Entry) (inner : List Entry) (i : ℕ) (n : Node) → entries nodes ≡ front ++ e ∷ inner → i ≡ length front → entries (set nodes i n) ≡ front ++ node_entry n ∷ inner
entries-set nodes front e inner i n is at =
    map-set node_entry nodes i n
    ∙ ap (λ (es : List Entry). set es i (node_entry n)) is
    ∙ ap (λ (k : ℕ). set (front ++ e ∷ inner) k (node_entry n)) at
    ∙ set-append_seam front e inner (node_entry n)

pub length-entries : (nodes : List Node) → length (entries nodes) ≡ length nodes
length-entries nodes = length-map nodes node_entry

-- ---- a container is opened

abbrev opening : Bool → ℕ → Frame
opening is_object start = record { start = start; len = 0; is_object = is_object }

pub opens-not : (limit : ℕ) (ws : List Waiting) (stack : List Frame) → stack ≡ waiting_stack ws → limit ≤ length stack → limit ≤ length ws
opens-not limit ws stack st full = let same = length-waiting_stack ws in let long = ap length st in omega arith

opens-room : (limit : ℕ) (ws : List Waiting) (stack : List Frame) → stack ≡ waiting_stack ws → length stack < limit → length ws < limit
opens-room limit ws stack st room = let same = length-waiting_stack ws in let long = ap length st in omega arith

start_is : (ws : List Waiting) (nodes : List Node) (start : ℕ) → entries nodes ≡ waiting_entries ws → start ≡ length nodes → start ≡ length (waiting_entries ws)
start_is ws nodes start es is = is ∙ sym (length-entries nodes) ∙ ap length es

pub opens-array : (is_object : Bool) (limit : ℕ) (ws : List Waiting) (nodes nodes_new : List Node) (stack stack_new : List Frame) (start : ℕ) → entries nodes ≡ waiting_entries ws → stack ≡ waiting_stack ws → is_object ≡ false → nodes_new ≡ nodes ++ Array 0 0 ∷ [] → stack_new ≡ stack ++ opening is_object start ∷ [] → start ≡ length nodes → length stack < limit → IsAt (opened is_object ws) FirstItem (entries nodes_new) stack_new × (length ws < limit)
opens-array is_object limit ws nodes nodes_new stack stack_new start es st array one top at room =
    let array_config : opened is_object ws ≡ first_item ws = ap (λ (b : Bool). opened b ws) array in
    let there : IsAt (first_item ws) FirstItem (entries nodes_new) stack_new = record {
      state_is = refl;
      entries_are = ap entries one ∙ entries-one nodes (Array 0 0) ∙ ap (λ (xs : List Entry). xs ++ list_entry 0 0 ∷ []) es;
      stack_is = top ∙ ap (λ (fs : List Frame). fs ++ opening is_object start ∷ []) st ∙ ap (λ (b : Bool). waiting_stack ws ++ opening b start ∷ []) array ∙ ap (λ (n : ℕ). waiting_stack ws ++ opening false n ∷ []) (start_is ws nodes start es at);
    } in
    (subst (λ (d : Config). IsAt d FirstItem (entries nodes_new) stack_new) (sym array_config) there, opens-room limit ws stack st room)

pub opens-object : (is_object : Bool) (limit : ℕ) (ws : List Waiting) (nodes nodes_new : List Node) (stack stack_new : List Frame) (start : ℕ) → entries nodes ≡ waiting_entries ws → stack ≡ waiting_stack ws → is_object ≡ true → nodes_new ≡ nodes ++ Object 0 0 ∷ [] → stack_new ≡ stack ++ opening is_object start ∷ [] → start ≡ length nodes → length stack < limit → IsAt (opened is_object ws) FirstMember (entries nodes_new) stack_new × (length ws < limit)
opens-object is_object limit ws nodes nodes_new stack stack_new start es st object_ one top at room =
    let object_config : opened is_object ws ≡ first_member ws = ap (λ (b : Bool). opened b ws) object_ in
    let there : IsAt (first_member ws) FirstMember (entries nodes_new) stack_new = record {
      state_is = refl;
      entries_are = ap entries one ∙ entries-one nodes (Object 0 0) ∙ ap (λ (xs : List Entry). xs ++ object_entry 0 0 ∷ []) es;
      stack_is = top ∙ ap (λ (fs : List Frame). fs ++ opening is_object start ∷ []) st ∙ ap (λ (b : Bool). waiting_stack ws ++ opening b start ∷ []) object_ ∙ ap (λ (n : ℕ). waiting_stack ws ++ opening true n ∷ []) (start_is ws nodes start es at);
    } in
    (subst (λ (d : Config). IsAt d FirstMember (entries nodes_new) stack_new) (sym object_config) there, opens-room limit ws stack st room)

-- ---- a container is closed

pub closes-array : (xs : Items) (ws : List Waiting) (nodes : List Node) (rest : List Frame) (f : Frame) (count : ℕ) (n : Node) → entries nodes ≡ array_entries xs ws → waiting_stack ws ++ array_frame xs ws ∷ [] ≡ rest ++ f ∷ [] → count ≡ length nodes - f.start - 1 → node_entry n ≡ frame_entry f count → entries (set nodes f.start n) ≡ waiting_entries ws ++ listing (list xs)
closes-array xs ws nodes rest f count n es top counts is =
    let parts = snoc_parts (waiting_stack ws) rest (array_frame xs ws) f top in
    let start : f.start ≡ length (waiting_entries ws) = ap (λ (g : Frame). g.start) (sym parts.1) in
    let both = length-append (waiting_entries ws) (list_entry 0 0 ∷ items_listing xs) in
    let long : length nodes ≡ length (array_entries xs ws) = sym (length-entries nodes) ∙ ap length es in
    let inner : count ≡ length (items_listing xs) = omega arith in
    let entry : node_entry n ≡ list_entry (items_len xs) (length (items_listing xs)) = is ∙ ap (λ (g : Frame). frame_entry g count) (sym parts.1) ∙ ap (λ (k : ℕ). list_entry (items_len xs) k) inner in
    entries-set nodes (waiting_entries ws) (list_entry 0 0) (items_listing xs) f.start n es start ∙ ap (λ (e : Entry). waiting_entries ws ++ e ∷ items_listing xs) entry

pub closes-object : (ms : Members) (ws : List Waiting) (nodes : List Node) (rest : List Frame) (f : Frame) (count : ℕ) (n : Node) → entries nodes ≡ object_entries ms ws → waiting_stack ws ++ object_frame ms ws ∷ [] ≡ rest ++ f ∷ [] → count ≡ length nodes - f.start - 1 → node_entry n ≡ frame_entry f count → entries (set nodes f.start n) ≡ waiting_entries ws ++ listing (object ms)
closes-object ms ws nodes rest f count n es top counts is =
    let parts = snoc_parts (waiting_stack ws) rest (object_frame ms ws) f top in
    let start : f.start ≡ length (waiting_entries ws) = ap (λ (g : Frame). g.start) (sym parts.1) in
    let both = length-append (waiting_entries ws) (object_entry 0 0 ∷ members_listing ms) in
    let long : length nodes ≡ length (object_entries ms ws) = sym (length-entries nodes) ∙ ap length es in
    let inner : count ≡ length (members_listing ms) = omega arith in
    let entry : node_entry n ≡ object_entry (members_len ms) (length (members_listing ms)) = is ∙ ap (λ (g : Frame). frame_entry g count) (sym parts.1) ∙ ap (λ (k : ℕ). object_entry (members_len ms) k) inner in
    entries-set nodes (waiting_entries ws) (object_entry 0 0) (members_listing ms) f.start n es start ∙ ap (λ (e : Entry). waiting_entries ws ++ e ∷ members_listing ms) entry
