-- Entries that are a whole tree, or none at all.
use Rattle.std.proofs.Common.{◌≡◌, ◌≢◌, ◌⊎◌, inl, inr, ℕ, ◌<◌, ◌≤◌, List, [], ◌∷◌, ◌++◌, drop, length, Option, Some, None, IfSome, option_map, refl, sym, ◌∙◌, ap, subst, arith, append-nil, length-drop}
use Rattle.std.proofs.lemmas.List.{drop_all}
use Rattle.sj_base.specs.Tree.{Tree, null, IsValidTree}
use Rattle.sj_tape.specs.Listing.{Entry, listing}
use Rattle.sj_tape.proofs.Listings.{IsListing}
use Rattle.sj_tape.specs.Listed.{tree_of, listed_tree, option_listing, IsPreorder, IsTape}
use Rattle.sj_tape.specs.Nodes.{entries}
use Rattle.sj_tape.specs.inside.Passing.{PassesTree}
use Rattle.sj_tape.specs.declared.node.Node.{Node}
use Rattle.sj_tape.proofs.NodeLists.{length-entries}
use Rattle.sj_tape.proofs.Listings.{one_listing, tree_from}
use Rattle.sj_tape.proofs.Passings.{no_tree}

pub no_listing : (t : Tree) → [] ≢ listing t
no_listing t = λ e. no_tree [] refl t [] (e ∙ sym (append-nil (listing t)))

pub listed_tree-nil : listed_tree [] ≡ None
unfolding listed_tree
listed_tree-nil = refl

pub listed_tree-some : (es : List Entry) → es ≢ [] → listed_tree es ≡ Some (tree_of es)
unfolding listed_tree
listed_tree-some [] h = absurd (h refl)
listed_tree-some (x ∷ xs) h = refl

pub listed_tree-listing : (es : List Entry) (t : Tree) → es ≡ listing t → listed_tree es ≡ Some t
listed_tree-listing es t e =
    listed_tree-some es (λ nil. no_listing t (sym nil ∙ e)) ∙ ap (λ (u : Tree). Some u) (tree_from es t e)

pub is_tape_nil : (es : List Entry) → es ≡ [] → IsTape es
is_tape_nil es e = subst (λ (ys : List Entry). IsTape ys) (sym e) (ap option_listing listed_tree-nil)

pub is_tape : (es : List Entry) (t : Tree) → es ≡ listing t → IsTape es
is_tape es t e = ap option_listing (listed_tree-listing es t e) ∙ sym e

pub nodes_are_tape : (ns : List Node) → (ns ≡ []) ⊎ IsPreorder (entries ns) → IsTape (entries ns)
nodes_are_tape ns (inl e) = is_tape_nil (entries ns) (ap entries e)
nodes_are_tape ns (inr h) = is_tape (entries ns) h.0 h.2

pub tape_is_listing : (es : List Entry) → IsTape es → es ≢ [] → IsListing es
tape_is_listing es h some = sym (ap option_listing (listed_tree-some es some)) ∙ h

pub entries_nil : (ns : List Node) → entries ns ≡ [] → ns ≡ []
entries_nil [] e = refl
entries_nil (n ∷ ns) e = cc

-- The nodes of a tape that is not empty are the listing of a tree.
pub listed_front : (ns rest : List Node) (n : Node) → IsTape (entries ns) → ns ≡ n ∷ rest → IsListing (entries ns)
listed_front ns rest n h e = tape_is_listing (entries ns) h (λ nil. nonempty (sym e ∙ entries_nil ns nil))
  where
    nonempty : n ∷ rest ≡ [] → ⊥
    nonempty same = cc

pub null_of-nil : (ns : List Node) → ns ≡ [] → tree_of (entries ns) ≡ null
unfolding tree_of
null_of-nil ns e = ap (λ (ms : List Node). tree_of (entries ms)) e

-- The tree of a tape has no more entries than the tape, or one for the null of an empty tape.
pub tree_fits : (ns : List Node) (m : ℕ) → IsTape (entries ns) → length ns < m → 1 < m → length (listing (tree_of (entries ns))) < m
tree_fits [] m h fits two = omega (arith, two, ap (λ (t : Tree). length (listing t)) (null_of-nil [] refl))
tree_fits (n ∷ ns) m h fits two = omega (arith, fits, ap (λ (es : List Entry). length es) (listed_front (n ∷ ns) ns n h refl), length-entries (n ∷ ns))

-- A tree that ends at the last entry is the whole document.
pub whole : (es : List Entry) (n : ℕ) (r : Option ℕ) → PassesTree (drop 0 es) (option_map (λ (end : ℕ). drop end es) r) → r ≡ Some n → n ≡ length es → (t : Tree) × IsValidTree t × (es ≡ listing t)
whole es n r h e m =
    let p : PassesTree (drop 0 es) (Some (drop n es)) = subst (λ (o : Option ℕ). PassesTree (drop 0 es) (option_map (λ (end : ℕ). drop end es) o)) e h in
    (p.0, p.1, p.2 ∙ (ap (λ (ys : List Entry). listing p.0 ++ ys) (drop_all n es (omega (arith, m))) ∙ append-nil (listing p.0)))

pub not_whole : (es : List Entry) (n : ℕ) (r : Option ℕ) → PassesTree (drop 0 es) (option_map (λ (end : ℕ). drop end es) r) → IfSome r (λ end. end ≤ n) → r ≢ Some n → n ≡ length es → (t : Tree) → es ≢ listing t
not_whole es n None h low ne m t = λ e. h t [] (e ∙ sym (append-nil (listing t)))
not_whole es n (Some x) h low ne m t = λ e.
    let same = one_listing h.0 t (drop x es) [] (sym h.2 ∙ (e ∙ sym (append-nil (listing t)))) in
    let none : length (drop x es) ≡ 0 = ap (λ (ys : List Entry). length ys) same.1 in
    let end : x ≡ n = omega (arith, none, length-drop x es, low, m) in
    ne (ap (λ (k : ℕ). Some k) end)

-- A tree that the entries list is valid.
pub passed_is_valid : (es : List Entry) (r : Option ℕ) → PassesTree (drop 0 es) (option_map (λ (end : ℕ). drop end es) r) → (t : Tree) → es ≡ listing t → IsValidTree t
passed_is_valid es None h t e = absurd (h t [] (e ∙ sym (append-nil (listing t))))
passed_is_valid es (Some x) h t e =
    let same = one_listing h.0 t (drop x es) [] (sym h.2 ∙ (e ∙ sym (append-nil (listing t)))) in
    subst (λ (u : Tree). IsValidTree u) same.0 h.1
