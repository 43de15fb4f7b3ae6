-- The first child that the counts find, and the children after it.
use Rattle.std.proofs.Common.{◌≡◌, ℕ, zero, suc, ◌+◌, ◌-◌, ◌<◌, ◌≤◌, Bool, true, false, cond, List, [], ◌∷◌, ◌++◌, Option, Some, None, option_map, drop, bytes_eq, length, refl, sym, ◌∙◌, ap, arith, append-nil}
use Rattle.std.proofs.lemmas.List.{take_at, drop_at}
use Rattle.sj_base.specs.Tree.{Tree, Items, no_items, item}
use Rattle.sj_base.specs.Path.{item_at}
use Rattle.sj_base.specs.Containers.{items_len}
use Rattle.sj_tape.specs.Laws.{ItemsByPlace, MembersByKey}
use Rattle.sj_tape.specs.Children.{key_text, member_nodes, item_nodes, item_runs, member_runs}
use Rattle.sj_tape.specs.Listing.{Entry, listing}
use Rattle.sj_tape.specs.Nodes.{node_count, entries}
use Rattle.sj_tape.specs.declared.node.Node.{Node}
use Rattle.sj_tape.proofs.Tapes.{no_listing}
use Rattle.sj_tape.proofs.NodeLists.{length-entries}
use Rattle.sj_tape.proofs.Cutting.{first_count}

-- the count of the first node of a tree is the number of nodes beneath
beneath_count : (n : Node) (ns : List Node) (t : Tree) → entries (n ∷ ns) ≡ listing t → length ns ≡ node_count n
beneath_count n ns t e =
    let counted : node_count n + 1 ≡ length (listing t) = first_count (n ∷ ns) t [] n (e ∙ sym (append-nil (listing t))) refl in
    let long : length (entries (n ∷ ns)) ≡ length (listing t) = ap (λ (es : List Entry). length es) e in
    omega (arith, counted, long, length-entries ns)

pub member_nodes-step : (len : ℕ) (ns front rest : List Node) (m : Node) (t : Tree) (k : List ℕ) → ns ≡ m ∷ (front ++ rest) → entries front ≡ listing t → 0 < len → member_nodes len ns k ≡ cond (bytes_eq (key_text m) k) (Some front) (member_nodes (len - 1) rest k)
member_nodes-step zero ns front rest m t k h e some = absurd (omega arith)
member_nodes-step (suc len) ns [] rest m t k h e some = absurd (no_listing t e)
member_nodes-step (suc len) ns (n ∷ beneath) rest m t k h e some =
    let count : length beneath ≡ node_count n = beneath_count n beneath t e in
    let one : suc len - 1 ≡ len = omega arith in
    ap (λ (xs : List Node). member_nodes (suc len) xs k) h ∙ found _ _ _ _ _ (take_at beneath rest (node_count n) count) (drop_at beneath rest (node_count n) count) (sym one)
  where
    found : (a b : List Node) (c d : List Node) (l : ℕ) → a ≡ c → b ≡ d → len ≡ l → cond (bytes_eq (key_text m) k) (Some (n ∷ a)) (member_nodes len b k) ≡ cond (bytes_eq (key_text m) k) (Some (n ∷ c)) (member_nodes l d k)
    found a b c d l p q r = cc

pub item_nodes-step : (len : ℕ) (ns front rest : List Node) (t : Tree) (i : ℕ) → ns ≡ front ++ rest → entries front ≡ listing t → 0 < len → 0 < i → item_nodes len ns i ≡ item_nodes (len - 1) rest (i - 1)
item_nodes-step zero ns front rest t i h e some behind = absurd (omega arith)
item_nodes-step (suc len) ns [] rest t i h e some behind = absurd (no_listing t e)
item_nodes-step (suc len) ns (n ∷ beneath) rest t zero h e some behind = absurd (omega arith)
item_nodes-step (suc len) ns (n ∷ beneath) rest t (suc i) h e some behind =
    let count : length beneath ≡ node_count n = beneath_count n beneath t e in
    let one : len ≡ suc len - 1 = omega arith in
    let other : i ≡ suc i - 1 = omega arith in
    ap (λ (xs : List Node). item_nodes (suc len) xs (suc i)) h ∙ left _ _ _ _ (drop_at beneath rest (node_count n) count) one other
  where
    left : (a b : List Node) (l j : ℕ) → a ≡ b → len ≡ l → i ≡ j → item_nodes len a i ≡ item_nodes l b j
    left a b l j p q r = cc

pub item_nodes-first : (len : ℕ) (ns front rest : List Node) (t : Tree) → ns ≡ front ++ rest → entries front ≡ listing t → 0 < len → item_nodes len ns 0 ≡ Some front
item_nodes-first zero ns front rest t h e some = absurd (omega arith)
item_nodes-first (suc len) ns [] rest t h e some = absurd (no_listing t e)
item_nodes-first (suc len) ns (n ∷ beneath) rest t h e some =
    let count : length beneath ≡ node_count n = beneath_count n beneath t e in
    ap (λ (xs : List Node). item_nodes (suc len) xs 0) h ∙ ap (λ (xs : List Node). Some (n ∷ xs)) (take_at beneath rest (node_count n) count)

pub member_nodes-none : (len : ℕ) (ns : List Node) (k : List ℕ) → len ≡ 0 → member_nodes len ns k ≡ None
member_nodes-none len ns k e = ap (λ (l : ℕ). member_nodes l ns k) e

pub item_nodes-none : (len : ℕ) (ns : List Node) (i : ℕ) → len ≤ i → item_nodes len ns i ≡ None
item_nodes-none zero ns i past = refl
item_nodes-none (suc len) [] i past = refl
item_nodes-none (suc len) (n ∷ ns) zero past = absurd (omega (arith, past))
item_nodes-none (suc len) (n ∷ ns) (suc i) past = item_nodes-none len (drop (node_count n) ns) i (omega (arith, past))

pub item_at-none : (ts : Items) (i : ℕ) → items_len ts ≤ i → item_at ts i ≡ None
item_at-none no_items i past = refl
item_at-none (item t ts) zero past = absurd (omega (arith, past))
item_at-none (item t ts) (suc i) past = item_at-none ts i (omega (arith, past))

pub item_runs-step : (len : ℕ) (ns front rest : List Node) (t : Tree) → ns ≡ front ++ rest → entries front ≡ listing t → 0 < len → item_runs len ns ≡ front ∷ item_runs (len - 1) rest
item_runs-step zero ns front rest t h e some = absurd (omega arith)
item_runs-step (suc len) ns [] rest t h e some = absurd (no_listing t e)
item_runs-step (suc len) ns (n ∷ beneath) rest t h e some =
    let count : length beneath ≡ node_count n = beneath_count n beneath t e in
    let one : len ≡ suc len - 1 = omega arith in
    ap (item_runs (suc len)) h ∙ split _ _ _ _ _ (take_at beneath rest (node_count n) count) (drop_at beneath rest (node_count n) count) one
  where
    split : (a b c d : List Node) (l : ℕ) → a ≡ c → b ≡ d → len ≡ l → (n ∷ a) ∷ item_runs len b ≡ (n ∷ c) ∷ item_runs l d
    split a b c d l p q r = cc

pub member_runs-step : (len : ℕ) (ns front rest : List Node) (m : Node) (t : Tree) → ns ≡ m ∷ (front ++ rest) → entries front ≡ listing t → 0 < len → member_runs len ns ≡ (key_text m, front) ∷ member_runs (len - 1) rest
member_runs-step zero ns front rest m t h e some = absurd (omega arith)
member_runs-step (suc len) ns [] rest m t h e some = absurd (no_listing t e)
member_runs-step (suc len) ns (n ∷ beneath) rest m t h e some =
    let count : length beneath ≡ node_count n = beneath_count n beneath t e in
    let one : len ≡ suc len - 1 = omega arith in
    ap (member_runs (suc len)) h ∙ split _ _ _ _ _ (take_at beneath rest (node_count n) count) (drop_at beneath rest (node_count n) count) one
  where
    split : (a b c d : List Node) (l : ℕ) → a ≡ c → b ≡ d → len ≡ l → (key_text m, n ∷ a) ∷ member_runs len b ≡ (key_text m, n ∷ c) ∷ member_runs l d
    split a b c d l p q r = cc

pub item_runs-none : (len : ℕ) (ns : List Node) → len ≡ 0 → item_runs len ns ≡ []
item_runs-none len ns e = ap (λ (l : ℕ). item_runs l ns) e

pub member_runs-none : (len : ℕ) (ns : List Node) → len ≡ 0 → member_runs len ns ≡ []
member_runs-none len ns e = ap (λ (l : ℕ). member_runs l ns) e

pub items_by_place : ItemsByPlace
items_by_place zero ns i = refl
items_by_place (suc len) [] i = refl
items_by_place (suc len) (n ∷ ns) zero = refl
items_by_place (suc len) (n ∷ ns) (suc i) = items_by_place len (drop (node_count n) ns) i

found_first : (b : Bool) (x : List ℕ × List Node) (v : Option (List ℕ × List Node)) (o : Option (List Node)) → o ≡ option_map (λ p. p.1) v → cond b (Some x.1) o ≡ option_map (λ p. p.1) (cond b (Some x) v)
found_first true x v o e = refl
found_first false x v o e = e

pub members_by_key : MembersByKey
members_by_key zero ns k = refl
members_by_key (suc len) [] k = refl
members_by_key (suc len) (m ∷ []) k = refl
members_by_key (suc len) (m ∷ n ∷ ns) k = found_first _ _ _ _ (members_by_key len (drop (node_count n) ns) k)
