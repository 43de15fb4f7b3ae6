-- A hash table. The pairs stand in chains: each chain has a head, and each pair has a link.
use Rattle.std.specs.Prelude.{◌≡◌, ℕ, zero, suc, ◌<◌, ◌≤◌, ◌*◌, ◌/◌, ◌%◌, ◌^◌, Bool, true, false, ◌&&◌, ◌||◌, eqb, ltb, if◌then◌else◌, List, length, map, Option, Some, None, bytes_eq, get_or, slice_get}
use mathlib.Core.Bool.{Bool-set}
use native.Mathlib.Nat.{ℕ_set}
use Rattle.std.specs.Vec.{vec_capacity}
use Rattle.sj_object.specs.Hash.{text_hash}
use Rattle.sj_object.specs.declared.entry.Entry.{Entry}
use Rattle.sj_object.specs.declared.table.Link.{Link}
use Rattle.sj_object.specs.declared.table.Table.{Table}

-- a hash with its bits mixed, so that the high ones depend on all: 2 ^ 64 by the golden ratio is this odd number
abbrev pub mixed : ℕ → ℕ
mixed h = (h * 0x9e3779b97f4a7c15) % 2 ^ 64

-- the chain in which a hash stands, of n chains: the mixed hash's share of 2 ^ 64
abbrev pub home : ℕ → ℕ → ℕ
home n h = (mixed h * n) / 2 ^ 64

-- where the chain of a hash begins
abbrev pub head_of : List (Option ℕ) → ℕ → Option ℕ
head_of heads h = get_or heads (home (length heads) h) None

-- whether there is such a link, and it has this hash
abbrev pub has_hash : Option Link → ℕ → Bool
has_hash None h = false
has_hash (Some l) h = eqb l.hash h

-- the place behind a link, if there is one
abbrev pub next_of : Option Link → Option ℕ
next_of None = None
next_of (Some l) = l.next

-- whether the chain from this place on comes to place p within n steps
abbrev pub reaches : ℕ → List Link → Option ℕ → ℕ → Bool
reaches zero links at p = false
reaches (suc n) links None p = false
reaches (suc n) links (Some i) p = eqb i p || reaches n links (next_of (slice_get links i)) p

-- whether the pair at place p has this hash, and stands in its chain
abbrev pub stands : List (Option ℕ) → List Link → ℕ → ℕ → Bool
stands heads links h p = has_hash (slice_get links p) h && reaches (length links) links (head_of heads h) p

-- whether there is such a link, and it belongs to the chain of this hash, of n chains
abbrev pub belongs : ℕ → Option Link → ℕ → Bool
belongs n None h = false
belongs n (Some l) h = eqb (home n l.hash) (home n h)

-- There is a link for each of the keys, and each stands in the chain of its hash. A chain begins at a link of its own, and each
-- link leads to an earlier one of its chain, or to none.
abbrev pub AreChained : List (Option ℕ) → List Link → List (List ℕ) → Type 0
AreChained heads links ks =
    (ltb 0 (length heads) ≡ true)
    × (length links ≡ length ks)
    × ((p : ℕ) (k : List ℕ) → slice_get ks p ≡ Some k → stands heads links (text_hash k) p ≡ true)
    × ((h i : ℕ) → head_of heads h ≡ Some i → belongs (length heads) (slice_get links i) h ≡ true)
    × ((p i : ℕ) (l : Link) → slice_get links p ≡ Some l → l.next ≡ Some i → (ltb i p && belongs (length heads) (slice_get links i) l.hash) ≡ true)

-- the links have the hashes of the keys
abbrev pub HaveHashes : List Link → List (List ℕ) → Type 0
HaveHashes links ks = map (λ (l : Link). l.hash) links ≡ map text_hash ks

-- a table of the keys
abbrev pub IsTable : Table → List (List ℕ) → Type 0
IsTable t ks = AreChained t.heads.items t.links.items ks

pub IsTable-prop : (t : Table) (ks : List (List ℕ)) → IsProp (IsTable t ks)
IsTable-prop t ks = λ x y i. (
  Bool-set _ _ x.0 y.0 i,
  ℕ_set _ _ x.1 y.1 i,
  λ p k e. Bool-set _ _ (x.2 p k e) (y.2 p k e) i,
  λ h j e. Bool-set _ _ (x.3 h j e) (y.3 h j e) i,
  λ p j l e f. Bool-set _ _ (x.4 p j l e f) (y.4 p j l e f) i,
)

-- a table has a chain at least, and room for n links
abbrev pub HasRoomFor : ℕ → Table → Type 0
HasRoomFor n t = (0 < length t.heads.items) × (n ≤ vec_capacity t.links)

module _ {K V : Type 0} (text : K → List ℕ) where
  abbrev pair_has_key : Option (Entry K V) → List ℕ → Bool
  pair_has_key None k = false
  pair_has_key (Some e) k = bytes_eq (text e.key) k

  -- whether the pair at place i has the key k
  abbrev pub has_key : List (Entry K V) → ℕ → List ℕ → Bool
  has_key es i k = pair_has_key (slice_get es i) k

  -- the place of the key k with the hash h, if one comes to it within n steps
  abbrev pub sought : List (Entry K V) → ℕ → List ℕ → ℕ → List Link → Option ℕ → Option ℕ
  sought es h k zero links at = None
  sought es h k (suc n) links None = None
  sought es h k (suc n) links (Some i) = if has_hash (slice_get links i) h && has_key es i k then Some i else sought es h k n links (next_of (slice_get links i))
