-- One step of a look-up by key: the member that begins at a place of the nodes, and what was read.
use Rattle.std.proofs.Common.{◌≡◌, ℕ, zero, suc, ◌+◌, ◌-◌, ◌*◌, ◌<◌, ◌≤◌, Bool, true, false, cond, nat_lt, List, [], ◌∷◌, ◌++◌, Option, Some, slice_get, slice_range, take, drop, length, bytes_eq, refl, sym, ◌∙◌, ap, arith, subst, append_assoc, length-append, length-drop}
use Rattle.std.proofs.lemmas.List.{drop_more}
use Rattle.std.proofs.lemmas.Option.{slice_get-get_or}
use Rattle.std.proofs.Math.Seq.{drop-drop}
use Rattle.std.specs.Borrow.{Bor}
use Rattle.sj_base.specs.Containers.{members_len}
use Rattle.sj_base.specs.Reads.{noted}
use Rattle.sj_base.specs.Tree.{Tree, Members, no_members, member}
use Rattle.sj_tape.specs.Children.{member_nodes}
use Rattle.sj_tape.specs.Counts.{AscendWithin, ReadsAtMost}
use Rattle.sj_tape.specs.Listing.{Entry, string_entry, listing, members_listing}
use Rattle.sj_tape.specs.Nodes.{node_entry, node_count, entries}
use Rattle.sj_tape.specs.declared.node.Node.{Node}
use Rattle.sj_tape.specs.declared.node.Node.TheVariants.{String}
use Rattle.sj_tape.proofs.Cutting.{cons_parts, string_node, first_count, listing_long, front_fits, cut_back}

-- the nodes list that many members, and nothing after them
abbrev pub MembersFrom : ℕ → List Node → Type 0
MembersFrom len ns = (ms : Members) × (entries ns ≡ members_listing ms) × (members_len ms ≡ len)

-- the key of the first member, the first node of its value, and the nodes after that one
record Front (len : ℕ) (ns : List Node) : Type 0 where
  key : Bor (List ℕ)
  first : Node
  behind : List Node
  is : ns ≡ String key ∷ first ∷ behind
  fits : node_count first ≤ length behind
  rest : MembersFrom (len - 1) (drop (node_count first) behind)

front_of : (len : ℕ) (ns : List Node) → MembersFrom len ns → 0 < len → Front len ns
front_of len ns h some = front ns h.0 h.1 h.2
  where
    one : (t : Tree) (x : List Entry) (m : Node) → entries [] ≡ listing t ++ x → ⊥
    one t x m e = absurd (omega (arith, front_fits [] t x e, listing_long t))

    front : (ns' : List Node) (ms : Members) → entries ns' ≡ members_listing ms → members_len ms ≡ len → Front len ns'
    front ns' no_members e n = absurd (omega (arith, n))
    front [] (member k t ms) e n = absurd (cc)
    front (m ∷ []) (member k t ms) e n = absurd (one t (members_listing ms) m (cons_parts (node_entry m) (string_entry k) [] (listing t ++ members_listing ms) e).1)
    front (m ∷ f ∷ behind) (member k t ms) e n =
        let parts = cons_parts (node_entry m) (string_entry k) (entries (f ∷ behind)) (listing t ++ members_listing ms) e in
        let key = string_node m k parts.0 in
        let count : node_count f + 1 ≡ length (listing t) = first_count (f ∷ behind) t (members_listing ms) f parts.1 refl in
        let fits : length (listing t) ≤ suc (length behind) = front_fits (f ∷ behind) t (members_listing ms) parts.1 in
        let back : entries (drop (suc (node_count f)) (f ∷ behind)) ≡ members_listing ms = cut_back (f ∷ behind) t (members_listing ms) (suc (node_count f)) parts.1 (omega (arith, count)) in
        record { key = key.0; first = f; behind = behind; is = ap (λ (x : Node). x ∷ f ∷ behind) key.1; fits = omega (arith, count, fits); rest = (ms, back, omega (arith, n)) }

-- A member that begins at a place of the nodes: its two nodes, and where it ends.
pub record MemberAt (len : ℕ) (items : List Node) (at : ℕ) : Type 0 where
  pub key : Bor (List ℕ)
  pub first : Node
  pub key_is : slice_get items at ≡ Some (String key)
  pub first_is : slice_get items (at + 1) ≡ Some first
  pub fits : at + 1 + 1 + node_count first ≤ length items
  pub rest : MembersFrom (len - 1) (drop (at + 1 + 1 + node_count first) items)
  pub found : (k : List ℕ) → member_nodes len (drop at items) k ≡ cond (bytes_eq key.now k) (Some (slice_range items (at + 1) (at + 1 + 1 + node_count first))) (member_nodes (len - 1) (drop (at + 1 + 1 + node_count first) items) k)

cut : (items : List Node) (at : ℕ) (a : Node) (ns : List Node) → drop at items ≡ a ∷ ns → (slice_get items at ≡ Some a) × (drop (at + 1) items ≡ ns) × (at + 1 + length ns ≡ length items)
cut items at a ns e =
    let long : suc (length ns) ≡ length items - at = ap (λ (xs : List Node). length xs) (sym e) ∙ length-drop at items in
    let within : at < length items = omega arith in
    let more = drop_more items at a within in
    let got = slice_get-get_or items at a within in
    (cc, cc, omega arith)

drop_further : (items : List Node) (at n : ℕ) → drop n (drop at items) ≡ drop (at + n) items
drop_further items at n = drop-drop n at items

found_step : (len : ℕ) (ns part rest : List Node) (key : Bor (List ℕ)) (first : Node) (behind : List Node) (k : List ℕ) → 0 < len → ns ≡ String key ∷ first ∷ behind → first ∷ take (node_count first) behind ≡ part → drop (node_count first) behind ≡ rest → member_nodes len ns k ≡ cond (bytes_eq key.now k) (Some part) (member_nodes (len - 1) rest k)
found_step zero ns part rest key first behind k some e p r = absurd (omega arith)
found_step (suc len) ns part rest key first behind k some e p r =
    let one : len ≡ suc len - 1 = omega arith in
    ap (λ (xs : List Node). member_nodes (suc len) xs k) e ∙ same _ _ _ p r one
  where
    same : (a b : List Node) (l : ℕ) → first ∷ take (node_count first) behind ≡ a → drop (node_count first) behind ≡ b → len ≡ l → cond (bytes_eq key.now k) (Some (first ∷ take (node_count first) behind)) (member_nodes len (drop (node_count first) behind) k) ≡ cond (bytes_eq key.now k) (Some a) (member_nodes l b k)
    same a b l x y z = cc

pub member_at_place : (len : ℕ) (items : List Node) (at : ℕ) → MembersFrom len (drop at items) → 0 < len → MemberAt len items at
member_at_place len items at h some =
    let f = front_of len (drop at items) h some in
    let c : ℕ = node_count f.first in
    let one = cut items at (String f.key) (f.first ∷ f.behind) f.is in
    let two = cut items (at + 1) f.first f.behind one.1 in
    let after : drop c f.behind ≡ drop (at + 1 + 1 + c) items = sym (ap (λ (ns : List Node). drop c ns) two.1) ∙ drop_further items (at + 1 + 1) c in
    let size : (at + 1 + 1 + c) - (at + 1) ≡ suc c = omega arith in
    let part : slice_range items (at + 1) (at + 1 + 1 + c) ≡ f.first ∷ take c f.behind = ap (λ (n : ℕ). take n (drop (at + 1) items)) size ∙ ap (λ (ns : List Node). take (suc c) ns) one.1 in
    record {
      key = f.key;
      first = f.first;
      key_is = one.0;
      first_is = two.0;
      fits = omega (arith, two.2, f.fits);
      rest = subst (λ (ns : List Node). MembersFrom (len - 1) ns) after f.rest;
      found = λ k. found_step len (drop at items) _ _ f.key f.first f.behind k some f.is (sym part) after;
    }

ascend_more : (start end place end' : ℕ) (ps : List ℕ) → start ≤ end → end ≤ place → place < end' → AscendWithin start end ps → AscendWithin start end' (ps ++ place ∷ [])
ascend_more start end place end' [] from behind within h = (omega arith, within, tt)
ascend_more start end place end' (p ∷ ps) from behind within h =
    (h.0, omega (arith, h.1), ascend_more (suc p) end place end' ps (omega (arith, h.1)) behind within h.2)

ascend_wider : (start end end' : ℕ) (ps : List ℕ) → end ≤ end' → AscendWithin start end ps → AscendWithin start end' ps
ascend_wider start end end' [] more h = tt
ascend_wider start end end' (p ∷ ps) more h = (h.0, omega (arith, h.1), ascend_wider (suc p) end end' ps more h.2)

pub no_more : (n m at len : ℕ) (old new : List ℕ) → ReadsAtMost n at old new → n ≤ m → at ≤ len → ReadsAtMost m len old new
no_more n m at len old new h some more = (h.0, h.1, omega (arith, h.2), ascend_wider 0 at len h.0 more h.3)

one_more : (n : ℕ) (old before after : List ℕ) (items : List Node) (place : ℕ) → ReadsAtMost n place old before → after ≡ noted items before place → ReadsAtMost (n + 1) (place + 1) old after
one_more n old before after items place h e = one (nat_lt place (length items)) e
  where
    one : (b : Bool) → after ≡ cond b (before ++ place ∷ []) before → ReadsAtMost (n + 1) (place + 1) old after
    one true e' = (h.0 ++ place ∷ [], e' ∙ (ap (λ (ps : List ℕ). ps ++ place ∷ []) h.1 ∙ append_assoc old h.0 (place ∷ [])), omega (arith, length-append h.0 (place ∷ []), h.2), ascend_more 0 place place (place + 1) h.0 (omega arith) (omega arith) (omega arith) h.3)
    one false e' = (h.0, e' ∙ h.1, omega (arith, h.2), ascend_wider 0 place (place + 1) h.0 (omega arith) h.3)

-- the two reads of a member
pub two_more : (len left : ℕ) (old before between after : List ℕ) (items items' : List Node) (at end : ℕ) → ReadsAtMost (2 * (len - left)) at old before → between ≡ noted items before at → after ≡ noted items' between (at + 1) → 0 < left → left ≤ len → at + 1 + 1 ≤ end → ReadsAtMost (2 * (len - (left - 1))) end old after
two_more len left old before between after items items' at end h one two some within behind =
    no_more (2 * (len - left) + 1 + 1) _ (at + 1 + 1) end old after (one_more _ old between after items' (at + 1) (one_more _ old before between items at h one) two) (omega arith) behind

-- what a read returns
pub read_back : (ns items : List Node) (place : ℕ) (r : Option Node) (n : Node) → r ≡ slice_get ns place → ns ≡ items → slice_get items place ≡ Some n → r ≡ Some n
read_back ns items place r n read same is = read ∙ (ap (λ (xs : List Node). slice_get xs place) same ∙ is)

-- the look-up among the members left, where the key of this one is the key, and where it isn't
pub found_here : (len : ℕ) (items : List Node) (at : ℕ) (m : MemberAt len items at) (k : List ℕ) → bytes_eq m.key.now k ≡ true → (count : ℕ) → count ≡ node_count m.first → Some (slice_range items (at + 1) (at + 1 + 1 + count)) ≡ member_nodes len (drop at items) k
found_here len items at m k same count e =
    ap (λ (n : ℕ). Some (slice_range items (at + 1) (at + 1 + 1 + n))) e ∙ (sym (ap (λ (b : Bool). cond b (Some (slice_range items (at + 1) (at + 1 + 1 + node_count m.first))) (member_nodes (len - 1) (drop (at + 1 + 1 + node_count m.first) items) k)) same) ∙ sym (m.found k))

pub found_further : (len : ℕ) (items : List Node) (at : ℕ) (m : MemberAt len items at) (k : List ℕ) → bytes_eq m.key.now k ≡ false → (count : ℕ) → count ≡ node_count m.first → member_nodes (len - 1) (drop (at + 1 + 1 + count) items) k ≡ member_nodes len (drop at items) k
found_further len items at m k other count e =
    ap (λ (n : ℕ). member_nodes (len - 1) (drop (at + 1 + 1 + n) items) k) e ∙ (sym (ap (λ (b : Bool). cond b (Some (slice_range items (at + 1) (at + 1 + 1 + node_count m.first))) (member_nodes (len - 1) (drop (at + 1 + 1 + node_count m.first) items) k)) other) ∙ sym (m.found k))

-- the count of a node that was read
pub count_read : (ns items : List Node) (place : ℕ) (r n : Node) (count : ℕ) → Some r ≡ slice_get ns place → ns ≡ items → slice_get items place ≡ Some n → count ≡ node_count r → count ≡ node_count n
count_read ns items place r n count read same is e =
    let found : Some r ≡ Some n = read_back ns items place (Some r) n read same is in
    let one : r ≡ n = cc in
    e ∙ ap node_count one

-- the key of a node that was read
pub key_read : (ns items : List Node) (place : ℕ) (r : Node) (text key : Bor (List ℕ)) (k : List ℕ) (b : Bool) → Some r ≡ slice_get ns place → ns ≡ items → slice_get items place ≡ Some (String key) → r ≡ String text → bytes_eq text.now k ≡ b → bytes_eq key.now k ≡ b
key_read ns items place r text key k b read same is string e =
    let found : Some r ≡ Some (String key) = read_back ns items place (Some r) (String key) read same is in
    let one : text ≡ key = cc in
    sym (ap (λ (t : Bor (List ℕ)). bytes_eq t.now k) one) ∙ e
