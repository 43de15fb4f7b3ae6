-- What the entries of a tree place on a stack: what is kept of the tree.
use Rattle.std.proofs.Common.{◌≡◌, List, [], ◌∷◌, ◌++◌, drop, length, refl, sym, ap, ap₂, ◌∙◌, append_assoc, append-nil}
use Rattle.sj_base.specs.Tree.{Tree, null, boolean, integer, decimal, string, list, object, Items, no_items, item, Members, no_members, member}
use Rattle.sj_base.specs.Containers.{items_len, members_len}
use Rattle.sj_base.specs.Keep.{keep, keep_items, keep_members}
use Rattle.sj_tape.specs.Listing.{Entry, list_entry, object_entry, listing, items_listing, members_listing}
use Rattle.sj_tape.specs.Listed.{IsTape, tree_of}
use Rattle.sj_tape.proofs.Tapes.{tape_is_listing}
use Rattle.sj_build.specs.inside.Building.{Shown, first_part, text, built, shown_tree, items_from, add_pairs, drop_pairs, place, placed}
use Rattle.sj_build.specs.inside.Kept.{add_member, gathered}
use Rattle.sj_build.proofs.Kept.{kept_each, gathered_keeps}

abbrev pub whole : Tree → Shown
whole null = built null
whole (boolean b) = built (boolean b)
whole (integer n) = built (integer n)
whole (decimal literal) = built (decimal literal)
whole (string s) = text s
whole (list ts) = built (list (keep_items ts))
whole (object ms) = built (object (keep_members ms))

pub shown_whole : (t : Tree) → shown_tree (whole t) ≡ keep t
shown_whole null = refl
shown_whole (boolean b) = refl
shown_whole (integer n) = refl
shown_whole (decimal literal) = refl
shown_whole (string s) = refl
shown_whole (list ts) = refl
shown_whole (object ms) = refl

-- these items, and then the parts
abbrev wholes : Items → List Shown → List Shown
wholes no_items ps = ps
wholes (item t ts) ps = whole t ∷ wholes ts ps

-- these members, and then the parts
abbrev pairs : Members → List Shown → List Shown
pairs no_members ps = ps
pairs (member k t ms) ps = text k ∷ whole t ∷ pairs ms ps

items_taken : (ts : Items) (ps : List Shown) → items_from (items_len ts) (wholes ts ps) ≡ keep_items ts
items_taken no_items ps = refl
items_taken (item t ts) ps = ap₂ item (shown_whole t) (items_taken ts ps)

items_dropped : (ts : Items) (ps : List Shown) → drop (items_len ts) (wholes ts ps) ≡ ps
items_dropped no_items ps = refl
items_dropped (item t ts) ps = items_dropped ts ps

members_taken : (ms ks : Members) (ps : List Shown) → add_pairs (members_len ms) ks (pairs ms ps) ≡ gathered ks (kept_each ms)
members_taken no_members ks ps = refl
members_taken (member k t ms) ks ps =
    ap (λ u. add_pairs (members_len ms) (add_member ks k u) (pairs ms ps)) (shown_whole t) ∙ members_taken ms (add_member ks k (keep t)) ps

members_dropped : (ms : Members) (ps : List Shown) → drop_pairs (members_len ms) (pairs ms ps) ≡ ps
members_dropped no_members ps = refl
members_dropped (member k t ms) ps = members_dropped ms ps

mutual
  pub placed_tree : (t : Tree) (es : List Entry) (ps : List Shown) → placed (listing t ++ es) ps ≡ whole t ∷ placed es ps
  placed_tree null es ps = refl
  placed_tree (boolean b) es ps = refl
  placed_tree (integer n) es ps = refl
  placed_tree (decimal literal) es ps = refl
  placed_tree (string s) es ps = refl
  placed_tree (list ts) es ps =
      let more = placed es ps in
      ap (place (list_entry (items_len ts) (length (items_listing ts)))) (placed_items ts es ps)
      ∙ ap₂ (λ is rest. built (list is) ∷ rest) (items_taken ts more) (items_dropped ts more)
  placed_tree (object ms) es ps =
      let more = placed es ps in
      ap (place (object_entry (members_len ms) (length (members_listing ms)))) (placed_members ms es ps)
      ∙ ap₂ (λ ns rest. built (object ns) ∷ rest) (members_taken ms no_members more) (members_dropped ms more)
      ∙ ap (λ ns. built (object ns) ∷ more) (gathered_keeps ms)

  placed_items : (ts : Items) (es : List Entry) (ps : List Shown) → placed (items_listing ts ++ es) ps ≡ wholes ts (placed es ps)
  placed_items no_items es ps = refl
  placed_items (item t ts) es ps =
      ap (λ l. placed l ps) (append_assoc (listing t) (items_listing ts) es)
      ∙ placed_tree t (items_listing ts ++ es) ps
      ∙ ap (λ l. whole t ∷ l) (placed_items ts es ps)

  placed_members : (ms : Members) (es : List Entry) (ps : List Shown) → placed (members_listing ms ++ es) ps ≡ pairs ms (placed es ps)
  placed_members no_members es ps = refl
  placed_members (member k t ms) es ps =
      ap (λ l. text k ∷ placed l ps) (append_assoc (listing t) (members_listing ms) es)
      ∙ ap (λ l. text k ∷ l) (placed_tree t (members_listing ms ++ es) ps ∙ ap (λ l. whole t ∷ l) (placed_members ms es ps))

-- The last entry is placed first.
pub placed_last : (es : List Entry) (e : Entry) (ps : List Shown) → placed (es ++ e ∷ []) ps ≡ placed es (place e ps)
placed_last [] e ps = refl
placed_last (d ∷ es) e ps = ap (place d) (placed_last es e ps)

listing_placed : (es : List Entry) (t : Tree) → es ≡ listing t → placed es [] ≡ whole t ∷ []
listing_placed es t is = ap (λ l. placed l []) (is ∙ sym (append-nil (listing t))) ∙ placed_tree t [] []

-- The first part of what a tape's entries place is what is kept of its tree.
pub built_whole : (es : List Entry) (ps : List Shown) → IsTape es → ps ≡ placed es [] → shown_tree (first_part ps) ≡ keep (tree_of es)
unfolding tree_of
built_whole [] ps tape same = ap (λ qs. shown_tree (first_part qs)) same
built_whole (e ∷ es) ps tape same =
    let t = tree_of (e ∷ es) in
    let listed : listing t ≡ e ∷ es = tape_is_listing (e ∷ es) tape (λ h. cc) in
    ap (λ qs. shown_tree (first_part qs)) (same ∙ listing_placed (e ∷ es) t (sym listed)) ∙ shown_whole t
