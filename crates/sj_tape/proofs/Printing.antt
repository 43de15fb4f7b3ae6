-- Going over a container: the entries that are left grow fewer, a child has no more than its container, and what is printed.
use Rattle.std.proofs.Common.{◌≡◌, ◌+◌, ◌<◌, ◌≤◌, List, ℕ, Result, Ok, Err, length, ap, arith, length-append}
use Rattle.sj_base.specs.declared.layout.Layout.{Layout}
use Rattle.sj_base.specs.declared.layout.Layout.TheVariants.{Compact, Indented}
use Rattle.sj_base.specs.Layout.{inside, level_of}
use Rattle.sj_base.specs.Output.{Prints}
use Rattle.sj_base.proofs.Towards.{Toward}
use Rattle.sj_base.specs.Tree.{Tree, Items, item, Members, member}
use Rattle.sj_tape.specs.Listing.{listing, items_listing, members_listing}
use Rattle.sj_tape.proofs.Cutting.{listing_long}

pub fewer_items : (us : Items) (t : Tree) (ts : Items) → us ≡ item t ts → length (items_listing ts) < length (items_listing us)
fewer_items us t ts is = omega (arith, ap (λ (vs : Items). length (items_listing vs)) is, length-append (listing t) (items_listing ts), listing_long t)

pub fewer_members : (us : Members) (k : List ℕ) (t : Tree) (ms : Members) → us ≡ member k t ms → length (members_listing ms) < length (members_listing us)
fewer_members us k t ms is = omega (arith, ap (λ (vs : Members). length (members_listing vs)) is, length-append (listing t) (members_listing ms), listing_long t)

pub nested_item : (us : Items) (t : Tree) (ts : Items) → us ≡ item t ts → length (listing t) ≤ length (items_listing us)
nested_item us t ts is = omega (arith, ap (λ (vs : Items). length (items_listing vs)) is, length-append (listing t) (items_listing ts))

pub nested_member : (us : Members) (k : List ℕ) (t : Tree) (ms : Members) → us ≡ member k t ms → length (listing t) < length (members_listing us)
nested_member us k t ms is = omega (arith, ap (λ (vs : Members). length (members_listing vs)) is, length-append (listing t) (members_listing ms))

-- a level further in
pub level_inside : (x y : Layout) → x ≡ inside y → level_of x ≤ level_of y + 1
level_inside x Compact is = omega (arith, ap level_of is)
level_inside x (Indented level) is = omega (arith, ap level_of is)

-- what is left is printed, or its printing fails
pub finishes : {S X E : Type 0} {A B : S → S → List ℕ → Type 0} {start now : S} {left whole : List ℕ} (r : Result X E) (end : S) → Toward A B start now left whole → Prints A B r now end left → Prints A B r start end whole
finishes (Ok done) end h printed = h.appended end printed
finishes (Err fault) end h begun = h.begun end begun
