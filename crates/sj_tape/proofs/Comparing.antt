-- Equal listings are equal trees.
use Rattle.std.proofs.Common.{◌≡◌, ◌≢◌, ℕ, ◌==◌, ℤ, true, false, cond, List, [], ◌∷◌, refl, sym, ◌∙◌, ap, append-nil}
use Rattle.std.specs.Bool.{Decides}
use Rattle.std.specs.Cmp.{first_so, second_so, unsigned_Decides, signed_Decides}
use Rattle.std.specs.Cmp.Lexicographic.{pointwise_decides, bytes_decides}
use Rattle.std.specs.List.{slice_index}
use Rattle.std.specs.Ordering.{int_eq}
use Rattle.sj_base.specs.Tree.{Tree}
use Rattle.sj_tape.specs.Listing.{Entry, null_entry, boolean_entry, integer_entry, decimal_entry, string_entry, list_entry, object_entry, listing}
use Rattle.sj_tape.specs.Listed.{tree_of, IsTape}
use Rattle.sj_tape.specs.Nodes.{node_entry, entries}
use Rattle.sj_tape.specs.Compare.{entry_rank, entry_number, entry_words, entry_eq, value_eq, entry_eq_equiv}
use Rattle.sj_tape.specs.Views.{value_tree}
use Rattle.sj_tape.specs.declared.node.Node.{Node}
use Rattle.sj_tape.specs.declared.value.Value.{Value}
use Rattle.sj_tape.proofs.Listings.{one_listing}
use Rattle.sj_tape.proofs.Cutting.{cons_parts}
use Rattle.sj_tape.proofs.Tapes.{tape_is_listing, entries_nil}

-- the entry of such a rank, number and words
abbrev entry_of : ℕ → ℤ → List ℕ → Entry
entry_of rank n ws =
    cond (rank == 0) null_entry
    (cond (rank == 1) (boolean_entry (slice_index ws 0 == 1))
    (cond (rank == 2) (integer_entry n)
    (cond (rank == 3) (decimal_entry ws)
    (cond (rank == 4) (string_entry ws)
    (cond (rank == 5) (list_entry (slice_index ws 0) (slice_index ws 1)) (object_entry (slice_index ws 0) (slice_index ws 1)))))))

entry_of-parts : (e : Entry) → entry_of (entry_rank e) (entry_number e) (entry_words e) ≡ e
entry_of-parts null_entry = refl
entry_of-parts (boolean_entry true) = refl
entry_of-parts (boolean_entry false) = refl
entry_of-parts (integer_entry n) = refl
entry_of-parts (decimal_entry literal) = refl
entry_of-parts (string_entry s) = refl
entry_of-parts (list_entry len count) = refl
entry_of-parts (object_entry len count) = refl

entry_eq-Decides : (a b : Entry) → Decides (entry_eq a b) (a ≡ b)
entry_eq-Decides a b = (same, λ e. ap (entry_eq a) (sym e) ∙ entry_eq_equiv.refl a)
  where
    same : entry_eq a b ≡ true → a ≡ b
    same h =
        let rank : entry_rank a ≡ entry_rank b = (unsigned_Decides (entry_rank a) (entry_rank b)).0 (first_so _ _ h) in
        let both = second_so (entry_rank a == entry_rank b) _ h in
        let number : entry_number a ≡ entry_number b = (signed_Decides (entry_number a) (entry_number b)).0 (first_so _ _ both) in
        let words : entry_words a ≡ entry_words b = (bytes_decides (entry_words a) (entry_words b)).0 (second_so (int_eq (entry_number a) (entry_number b)) _ both) in
        sym (entry_of-parts a) ∙ ((λ i. entry_of (rank i) (number i) (words i)) ∙ entry_of-parts b)

-- A listing has one tree.
listing_tells : (s t : Tree) → listing s ≡ listing t → s ≡ t
listing_tells s t e = (one_listing s t [] [] (append-nil (listing s) ∙ (e ∙ sym (append-nil (listing t))))).0

pub value_eq-Decides : (v w : Value) → Decides (value_eq v w) (value_tree v ≡ value_tree w)
value_eq-Decides v w =
    let same = pointwise_decides entry_eq-Decides (listing (value_tree v)) (listing (value_tree w)) in
    (λ h. listing_tells (value_tree v) (value_tree w) (same.0 h), λ e. same.1 (ap listing e))

-- Nodes of two trees stand for the same entries exactly where the trees are equal.
pub same_listed : (ms ns : List Node) → IsTape (entries ms) → IsTape (entries ns) → ms ≢ [] → ns ≢ [] → tree_of (entries ms) ≡ tree_of (entries ns) → entries ms ≡ entries ns
same_listed ms ns m n some_m some_n e =
    let a : listing (tree_of (entries ms)) ≡ entries ms = tape_is_listing (entries ms) m (λ nil. some_m (entries_nil ms nil)) in
    let b : listing (tree_of (entries ns)) ≡ entries ns = tape_is_listing (entries ns) n (λ nil. some_n (entries_nil ns nil)) in
    sym a ∙ (ap listing e ∙ b)

-- Two lists of nodes, by their first ones.
pub same_fronts : (ms ns ms' ns' : List Node) (x y : Node) → ms ≡ x ∷ ms' → ns ≡ y ∷ ns' → entries ms ≡ entries ns → (node_entry x ≡ node_entry y) × (entries ms' ≡ entries ns')
same_fronts ms ns ms' ns' x y m n e =
    cons_parts (node_entry x) (node_entry y) (entries ms') (entries ns') (sym (ap entries m) ∙ (e ∙ ap entries n))

pub same_by_fronts : (ms ns ms' ns' : List Node) (x y : Node) → ms ≡ x ∷ ms' → ns ≡ y ∷ ns' → node_entry x ≡ node_entry y → entries ms' ≡ entries ns' → entries ms ≡ entries ns
same_by_fronts ms ns ms' ns' x y m n first behind =
    ap entries m ∙ ((λ j. first j ∷ behind j) ∙ sym (ap entries n))
