-- The first tree of some nodes, and the nodes after it.
use Rattle.std.proofs.Common.{◌≡◌, ◌≢◌, ℕ, suc, ◌+◌, ◌-◌, ◌<◌, ◌≤◌, List, [], ◌∷◌, ◌++◌, take, drop, get_or, length, refl, sym, ◌∙◌, ap, arith, length-append}
use Rattle.std.proofs.lemmas.List.{take-map, drop-map, take_at, drop_at}
use Rattle.sj_base.specs.Tree.{Tree, null, boolean, integer, decimal, string, list, object, Items, no_items, item, Members, no_members, member}
use Rattle.std.specs.Borrow.{Bor}
use Rattle.sj_base.specs.declared.static_node.StaticNode.{StaticNode}
use Rattle.sj_base.specs.declared.static_node.StaticNode.TheVariants.{Null, Bool as Boolean, I64, U64}
use Rattle.sj_base.specs.Containers.{items_len, members_len}
use Rattle.sj_tape.specs.Listing.{Entry, null_entry, boolean_entry, integer_entry, decimal_entry, string_entry, list_entry, object_entry, listing, items_listing, members_listing}
use Rattle.sj_tape.proofs.Listings.{IsListing}
use Rattle.sj_tape.specs.Listed.{tree_of, listed_items, listed_members}
use Rattle.sj_tape.specs.inside.Invariants.{ListsItems, ListsMembers}
use Rattle.sj_tape.specs.Nodes.{static_entry, node_entry, node_count, entries}
use Rattle.sj_tape.specs.declared.node.Node.{Node}
use Rattle.sj_tape.specs.declared.node.Node.TheVariants.{String, Object, Array, Static, Decimal}
use Rattle.sj_tape.proofs.NodeLists.{length-entries}

-- the number of entries beneath
abbrev entry_count : Entry → ℕ
entry_count null_entry = 0
entry_count (boolean_entry b) = 0
entry_count (integer_entry n) = 0
entry_count (decimal_entry literal) = 0
entry_count (string_entry s) = 0
entry_count (list_entry len count) = count
entry_count (object_entry len count) = count

static_count : (s : StaticNode) → 0 ≡ entry_count (static_entry s)
static_count Null = refl
static_count (Boolean b) = refl
static_count (I64 n) = refl
static_count (U64 n) = refl

node_count-entry : (n : Node) → node_count n ≡ entry_count (node_entry n)
node_count-entry (String s) = refl
node_count-entry (Object len count) = refl
node_count-entry (Array len count) = refl
node_count-entry (Static s) = static_count s
node_count-entry (Decimal d) = refl

counted : (e f : Entry) (n : ℕ) → e ≡ f → entry_count f + 1 ≡ n → entry_count e + 1 ≡ n
counted e f n p q = ap (λ (x : Entry). entry_count x + 1) p ∙ q

entry_count-listing : (t : Tree) (x : List Entry) (e : Entry) (es : List Entry) → e ∷ es ≡ listing t ++ x → entry_count e + 1 ≡ length (listing t)
entry_count-listing null x e es h = counted e null_entry 1 (cc) refl
entry_count-listing (boolean b) x e es h = counted e (boolean_entry b) 1 (cc) refl
entry_count-listing (integer n) x e es h = counted e (integer_entry n) 1 (cc) refl
entry_count-listing (decimal literal) x e es h = counted e (decimal_entry literal) 1 (cc) refl
entry_count-listing (string s) x e es h = counted e (string_entry s) 1 (cc) refl
entry_count-listing (list ts) x e es h = counted e (list_entry (items_len ts) (length (items_listing ts))) (suc (length (items_listing ts))) (cc) (omega arith)
entry_count-listing (object ms) x e es h = counted e (object_entry (members_len ms) (length (members_listing ms))) (suc (length (members_listing ms))) (cc) (omega arith)

-- The count of the first node gives the length of its tree.
pub first_count : (ns : List Node) (t : Tree) (x : List Entry) (n : Node) → entries ns ≡ listing t ++ x → n ≡ get_or ns 0 n → node_count n + 1 ≡ length (listing t)
first_count [] t x n h is = absurd (no_front t x h)
  where
    no_front : (u : Tree) (y : List Entry) → [] ≡ listing u ++ y → ⊥
    no_front null y e = cc
    no_front (boolean b) y e = cc
    no_front (integer m) y e = cc
    no_front (decimal literal) y e = cc
    no_front (string s) y e = cc
    no_front (list ts) y e = cc
    no_front (object ms) y e = cc
first_count (m ∷ ms) t x n h is =
    ap (λ (k : Node). node_count k + 1) is ∙ (ap (λ (k : ℕ). k + 1) (node_count-entry m) ∙ entry_count-listing t x (node_entry m) (entries ms) h)

pub listing_long : (t : Tree) → 0 < length (listing t)
listing_long null = omega arith
listing_long (boolean b) = omega arith
listing_long (integer n) = omega arith
listing_long (decimal literal) = omega arith
listing_long (string s) = omega arith
listing_long (list ts) = omega arith
listing_long (object ms) = omega arith

pub front_fits : (ns : List Node) (t : Tree) (x : List Entry) → entries ns ≡ listing t ++ x → length (listing t) ≤ length ns
front_fits ns t x h = omega (arith, length-entries ns, ap (λ (ys : List Entry). length ys) h, length-append (listing t) x)

pub cut_front : (ns : List Node) (t : Tree) (x : List Entry) (m : ℕ) → entries ns ≡ listing t ++ x → m ≡ length (listing t) → entries (take m ns) ≡ listing t
cut_front ns t x m h e = sym (take-map node_entry m ns) ∙ (ap (λ (ys : List Entry). take m ys) h ∙ take_at (listing t) x m (sym e))

pub cut_back : (ns : List Node) (t : Tree) (x : List Entry) (m : ℕ) → entries ns ≡ listing t ++ x → m ≡ length (listing t) → entries (drop m ns) ≡ x
cut_back ns t x m h e = sym (drop-map node_entry m ns) ∙ (ap (λ (ys : List Entry). drop m ys) h ∙ drop_at (listing t) x m (sym e))

-- What a tree is, by its first entry.
list_of : (t : Tree) (len count : ℕ) (es : List Entry) → listing t ≡ list_entry len count ∷ es → (ts : Items) × (t ≡ list ts) × (items_len ts ≡ len) × (es ≡ items_listing ts)
list_of null len count es h = absurd (cc)
list_of (boolean b) len count es h = absurd (cc)
list_of (integer n) len count es h = absurd (cc)
list_of (decimal literal) len count es h = absurd (cc)
list_of (string s) len count es h = absurd (cc)
list_of (list ts) len count es h = (ts, refl, cc, cc)
list_of (object ms) len count es h = absurd (cc)

pub object_of : (t : Tree) (len count : ℕ) (es : List Entry) → listing t ≡ object_entry len count ∷ es → (ms : Members) × (t ≡ object ms) × (members_len ms ≡ len) × (es ≡ members_listing ms)
object_of null len count es h = absurd (cc)
object_of (boolean b) len count es h = absurd (cc)
object_of (integer n) len count es h = absurd (cc)
object_of (decimal literal) len count es h = absurd (cc)
object_of (string s) len count es h = absurd (cc)
object_of (list ts) len count es h = absurd (cc)
object_of (object ms) len count es h = (ms, refl, cc, cc)

-- The first item or member, and the rest.
pub items_front : (len : ℕ) (es : List Entry) → ListsItems len es → 0 < len → (t : Tree) × (ts : Items) × (listed_items len es ≡ item t ts) × (es ≡ listing t ++ items_listing ts) × (items_len ts ≡ len - 1)
items_front len es h some = front (listed_items len es) h.0 h.1
  where
    front : (ts : Items) → items_listing ts ≡ es → items_len ts ≡ len → (t : Tree) × (us : Items) × (ts ≡ item t us) × (es ≡ listing t ++ items_listing us) × (items_len us ≡ len - 1)
    front no_items e n = absurd (omega (arith, n))
    front (item t us) e n = (t, us, refl, sym e, omega (arith, n))

pub members_front : (len : ℕ) (es : List Entry) → ListsMembers len es → 0 < len → (k : List ℕ) × (t : Tree) × (ms : Members) × (listed_members len es ≡ member k t ms) × (es ≡ string_entry k ∷ (listing t ++ members_listing ms)) × (members_len ms ≡ len - 1)
members_front len es h some = front (listed_members len es) h.0 h.1
  where
    front : (ms : Members) → members_listing ms ≡ es → members_len ms ≡ len → (k : List ℕ) × (t : Tree) × (ls : Members) × (ms ≡ member k t ls) × (es ≡ string_entry k ∷ (listing t ++ members_listing ls)) × (members_len ls ≡ len - 1)
    front no_members e n = absurd (omega (arith, n))
    front (member k t ls) e n = (k, t, ls, refl, sym e, omega (arith, n))

pub no_items_left : (len : ℕ) (es : List Entry) → ListsItems len es → len ≡ 0 → listed_items len es ≡ no_items
no_items_left len es h none = front (listed_items len es) h.1
  where
    front : (ts : Items) → items_len ts ≡ len → ts ≡ no_items
    front no_items n = refl
    front (item t us) n = absurd (omega (arith, n))

pub no_members_left : (len : ℕ) (es : List Entry) → ListsMembers len es → len ≡ 0 → listed_members len es ≡ no_members
no_members_left len es h none = front (listed_members len es) h.1
  where
    front : (ms : Members) → members_len ms ≡ len → ms ≡ no_members
    front no_members n = refl
    front (member k t ls) n = absurd (omega (arith, n))

pub item_same : (s t : Tree) (ss ts : Items) → s ≡ t → ss ≡ ts → item s ss ≡ item t ts
item_same s t ss ts p q = cc

pub member_same : (j k : List ℕ) (s t : Tree) (ls ms : Members) → j ≡ k → s ≡ t → ls ≡ ms → member j s ls ≡ member k t ms
member_same j k s t ls ms o p q = cc

static_not_string : (s : StaticNode) (k : List ℕ) → static_entry s ≢ string_entry k
static_not_string Null k = λ e. cc
static_not_string (Boolean b) k = λ e. cc
static_not_string (I64 n) k = λ e. cc
static_not_string (U64 n) k = λ e. cc

pub string_node : (n : Node) (k : List ℕ) → node_entry n ≡ string_entry k → (s : Bor (List ℕ)) × (n ≡ String s)
string_node (String s) k e = (s, refl)
string_node (Object l c) k e = absurd (cc)
string_node (Array l c) k e = absurd (cc)
string_node (Static s) k e = absurd (static_not_string s k e)
string_node (Decimal d) k e = absurd (cc)

pub cons_parts : (a b : Entry) (xs ys : List Entry) → a ∷ xs ≡ b ∷ ys → (a ≡ b) × (xs ≡ ys)
cons_parts a b xs ys e = (cc, cc)

pub array_inside : (ns rest : List Node) (n : Node) (len count : ℕ) → IsListing (entries ns) → ns ≡ n ∷ rest → n ≡ Array len count → (ts : Items) × (tree_of (entries ns) ≡ list ts) × (items_len ts ≡ len) × (entries rest ≡ items_listing ts)
array_inside ns rest n len count h e is =
    list_of (tree_of (entries ns)) len count (entries rest) (h ∙ (ap entries e ∙ ap (λ (k : Node). node_entry k ∷ entries rest) is))

pub object_inside : (ns rest : List Node) (n : Node) (len count : ℕ) → IsListing (entries ns) → ns ≡ n ∷ rest → n ≡ Object len count → (ms : Members) × (tree_of (entries ns) ≡ object ms) × (members_len ms ≡ len) × (entries rest ≡ members_listing ms)
object_inside ns rest n len count h e is =
    object_of (tree_of (entries ns)) len count (entries rest) (h ∙ (ap entries e ∙ ap (λ (k : Node). node_entry k ∷ entries rest) is))
