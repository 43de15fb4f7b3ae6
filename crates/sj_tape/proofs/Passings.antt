-- Where trees, items and members end: the steps of the test for a preorder.
use Rattle.std.proofs.Common.{◌≡◌, ◌≢◌, ℕ, suc, ◌+◌, ◌-◌, ◌<◌, ◌≤◌, Bool, true, false, List, [], ◌∷◌, ◌++◌, drop, length, Option, Some, None, MatchOption, option_map, refl, sym, ◌∙◌, ap, subst, arith, append_assoc, length-append, length-drop}
use Rattle.sj_base.specs.Tree.{null, boolean, integer, decimal, string, list, object, no_items, item, no_members, member}
use Rattle.sj_tape.specs.Listing.{Entry, string_entry, list_entry, object_entry, listing, items_listing, members_listing}
use Rattle.sj_tape.specs.inside.Passing.{Contents, contents_len, contents_listing, PassesTree, PassesContents, PassesPart}
use Rattle.sj_tape.proofs.Listings.{one_listing, one_items, one_members}

-- One part, and the others.
no_more : (has_keys : Bool) (n : ℕ) (es rest : List Entry) → PassesPart has_keys es (Some rest) → PassesContents has_keys n rest None → PassesContents has_keys (suc n) es None
no_more false n es rest h g no_items x m = absurd (omega (arith, m))
no_more false n es rest h g (item t ts) x m = λ e.
    let same = one_listing h.0 t rest (items_listing ts ++ x) (sym h.2 ∙ (e ∙ append_assoc (listing t) (items_listing ts) x)) in
    g ts x (omega (arith, m)) same.1
no_more true n es rest h g no_members x m = absurd (omega (arith, m))
no_more true n es rest h g (member name t ms) x m = λ e.
    let both : string_entry h.0 ∷ (listing h.1 ++ rest) ≡ string_entry name ∷ ((listing t ++ members_listing ms) ++ x) = sym h.4 ∙ e in
    let behind : listing h.1 ++ rest ≡ (listing t ++ members_listing ms) ++ x = cc in
    let same = one_listing h.1 t rest (members_listing ms ++ x) (behind ∙ append_assoc (listing t) (members_listing ms) x) in
    g ms x (omega (arith, m)) same.1

more : (has_keys : Bool) (n : ℕ) (es rest : List Entry) (r : Option (List Entry)) → PassesPart has_keys es (Some rest) → PassesContents has_keys n rest r → PassesContents has_keys (suc n) es r
more false n es rest (Some x) h g = (item h.0 g.0, (h.1, g.1), ap (λ (k : ℕ). suc k) g.2, h.2 ∙ (ap (λ (ys : List Entry). listing h.0 ++ ys) g.3 ∙ sym (append_assoc (listing h.0) (items_listing g.0) x)))
more true n es rest (Some x) h g = (member h.0 h.1 g.0, (h.2, h.3, g.1), ap (λ (m : ℕ). suc m) g.2, h.4 ∙ ap (λ (ys : List Entry). string_entry h.0 ∷ ys) (ap (λ (ys : List Entry). listing h.1 ++ ys) g.3 ∙ sym (append_assoc (listing h.1) (members_listing g.0) x)))
more has_keys n es rest None h g = no_more has_keys n es rest h g

no_part : (has_keys : Bool) (n : ℕ) (es : List Entry) → PassesPart has_keys es None → PassesContents has_keys (suc n) es None
no_part false n es h no_items x m = absurd (omega (arith, m))
no_part false n es h (item t ts) x m = λ e. h t (items_listing ts ++ x) (e ∙ append_assoc (listing t) (items_listing ts) x)
no_part true n es h no_members x m = absurd (omega (arith, m))
no_part true n es h (member name t ms) x m = λ e.
    h name t (members_listing ms ++ x) (e ∙ ap (λ (ys : List Entry). string_entry name ∷ ys) (append_assoc (listing t) (members_listing ms) x))

all_passed : (has_keys : Bool) (es : List Entry) → PassesContents has_keys 0 es (Some es)
all_passed false es = (no_items, tt, refl, refl)
all_passed true es = (no_members, tt, refl, refl)

-- Steps of the loop: if what is left from `at` on gives `r`, then all of it gives `r`.
pub loop_failed : (has_keys : Bool) (len i : ℕ) (from at : List Entry) → i < len → ((r : Option (List Entry)) → PassesContents has_keys (len - i) at r → PassesContents has_keys len from r) → PassesPart has_keys at None → PassesContents has_keys len from None
loop_failed has_keys len i from at h steps none =
    let e : suc (len - (i + 1)) ≡ len - i = omega arith in
    steps None (subst (λ (n : ℕ). PassesContents has_keys n at None) e (no_part has_keys (len - (i + 1)) at none))

pub loop_step : (has_keys : Bool) (len i : ℕ) (from at next : List Entry) → i < len → ((r : Option (List Entry)) → PassesContents has_keys (len - i) at r → PassesContents has_keys len from r) → PassesPart has_keys at (Some next) → (r : Option (List Entry)) → PassesContents has_keys (len - (i + 1)) next r → PassesContents has_keys len from r
loop_step has_keys len i from at next h steps one r left =
    let e : suc (len - (i + 1)) ≡ len - i = omega arith in
    steps r (subst (λ (n : ℕ). PassesContents has_keys n at r) e (more has_keys (len - (i + 1)) at next r one left))

pub loop_finished : (has_keys : Bool) (len i : ℕ) (from at : List Entry) → len ≤ i → ((r : Option (List Entry)) → PassesContents has_keys (len - i) at r → PassesContents has_keys len from r) → PassesContents has_keys len from (Some at)
loop_finished has_keys len i from at h steps =
    let e : 0 ≡ len - i = omega arith in
    steps (Some at) (subst (λ (n : ℕ). PassesContents has_keys n at (Some at)) e (all_passed has_keys at))

-- No tree stands at the front of an empty list.
pub no_tree : (es : List Entry) → es ≡ [] → PassesTree es None
no_tree es h null x = λ e. cc
no_tree es h (boolean b) x = λ e. cc
no_tree es h (integer n) x = λ e. cc
no_tree es h (decimal literal) x = λ e. cc
no_tree es h (string s) x = λ e. cc
no_tree es h (list ts) x = λ e. cc
no_tree es h (object ms) x = λ e. cc

-- The entry of a container.
abbrev pub container_entry : Bool → ℕ → ℕ → Entry
container_entry true len count = object_entry len count
container_entry false len count = list_entry len count

-- A container stands at the front if its contents do, and if they are `count` entries.
container_passes : (has_keys : Bool) (len count : ℕ) (es rest : List Entry) → PassesContents has_keys len es (Some rest) → length es ≡ count + length rest → PassesTree (container_entry has_keys len count ∷ es) (Some rest)
container_passes false len count es rest h n =
    let a = ap (λ (ys : List Entry). length ys) h.3 ∙ length-append (items_listing h.0) rest in
    let same : count ≡ length (items_listing h.0) = omega (arith, a, n) in
    let is_len : len ≡ contents_len false h.0 = sym h.2 in
    let is_rest : es ≡ items_listing h.0 ++ rest = h.3 in
    (list h.0, h.1, cc (same, is_len, is_rest))
container_passes true len count es rest h n =
    let a = ap (λ (ys : List Entry). length ys) h.3 ∙ length-append (members_listing h.0) rest in
    let same : count ≡ length (members_listing h.0) = omega (arith, a, n) in
    let is_len : len ≡ contents_len true h.0 = sym h.2 in
    let is_rest : es ≡ members_listing h.0 ++ rest = h.3 in
    (object h.0, h.1, cc (same, is_len, is_rest))

-- No tree stands there if no contents of that length and count do.
no_container : (has_keys : Bool) (len count : ℕ) (es : List Entry) → ((c : Contents has_keys) (x : List Entry) → contents_len has_keys c ≡ len → length (contents_listing has_keys c) ≡ count → es ≢ contents_listing has_keys c ++ x) → PassesTree (container_entry has_keys len count ∷ es) None
no_container false len count es h null x = λ e. cc
no_container false len count es h (boolean b) x = λ e. cc
no_container false len count es h (integer n) x = λ e. cc
no_container false len count es h (decimal literal) x = λ e. cc
no_container false len count es h (string s) x = λ e. cc
no_container false len count es h (object ms) x = λ e. cc
no_container false len count es h (list ts) x = λ e.
    let n : contents_len false ts ≡ len = cc in
    let m : length (items_listing ts) ≡ count = cc in
    let behind : es ≡ items_listing ts ++ x = cc in
    h ts x n m behind
no_container true len count es h null x = λ e. cc
no_container true len count es h (boolean b) x = λ e. cc
no_container true len count es h (integer n) x = λ e. cc
no_container true len count es h (decimal literal) x = λ e. cc
no_container true len count es h (string s) x = λ e. cc
no_container true len count es h (list ts) x = λ e. cc
no_container true len count es h (object ms) x = λ e.
    let n : contents_len true ms ≡ len = cc in
    let m : length (members_listing ms) ≡ count = cc in
    let behind : es ≡ members_listing ms ++ x = cc in
    h ms x n m behind

one_contents : (has_keys : Bool) (c d : Contents has_keys) (a b : List Entry) → contents_len has_keys c ≡ contents_len has_keys d → contents_listing has_keys c ++ a ≡ contents_listing has_keys d ++ b → a ≡ b
one_contents false c d a b n e = (one_items c d a b n e).1
one_contents true c d a b n e = (one_members c d a b n e).1

container_miscounted : (has_keys : Bool) (len count : ℕ) (es rest : List Entry) → PassesContents has_keys len es (Some rest) → length es ≢ count + length rest → PassesTree (container_entry has_keys len count ∷ es) None
container_miscounted has_keys len count es rest h wrong = no_container has_keys len count es (λ c x n m e.
    let same : rest ≡ x = one_contents has_keys h.0 c rest x (h.2 ∙ sym n) (sym h.3 ∙ e) in
    let a = ap (λ (ys : List Entry). length ys) e ∙ length-append (contents_listing has_keys c) x in
    let b : length rest ≡ length x = ap (λ (ys : List Entry). length ys) same in
    wrong (omega (arith, a, b, m)))

-- A container at an index, by what its contents give.
pub container_failed : (has_keys : Bool) (es beneath : List Entry) (len count : ℕ) → es ≡ container_entry has_keys len count ∷ beneath → PassesContents has_keys len beneath None → PassesTree es None
container_failed has_keys es beneath len count e h = subst (λ (ys : List Entry). PassesTree ys None) (sym e) (no_container has_keys len count beneath (λ c x n m. h c x n))

pub container_counted : (has_keys : Bool) (es : List Entry) (start end len count : ℕ) (r : Option ℕ) → drop start es ≡ container_entry has_keys len count ∷ drop (start + 1) es → start + 1 ≤ end → end ≤ length es → PassesContents has_keys len (drop (start + 1) es) (Some (drop end es)) → MatchOption r (end - (start + 1) ≢ count) (λ x. (x ≡ end) × (end - (start + 1) ≡ count)) → PassesTree (drop start es) (option_map (λ (x : ℕ). drop x es) r)
container_counted has_keys es start end len count None e low high h m =
    let wrong : length (drop (start + 1) es) ≢ count + length (drop end es) = λ same. m (omega (arith, same, length-drop (start + 1) es, length-drop end es)) in
    subst (λ (ys : List Entry). PassesTree ys None) (sym e) (container_miscounted has_keys len count (drop (start + 1) es) (drop end es) h wrong)
container_counted has_keys es start end len count (Some x) e low high h m =
    let at_x : PassesContents has_keys len (drop (start + 1) es) (Some (drop x es)) = subst (λ (k : ℕ). PassesContents has_keys len (drop (start + 1) es) (Some (drop k es))) (sym m.0) h in
    let same : length (drop (start + 1) es) ≡ count + length (drop x es) = omega (arith, m.0, m.1, length-drop (start + 1) es, length-drop x es) in
    subst (λ (ys : List Entry). PassesTree ys (Some (drop x es))) (sym e) (container_passes has_keys len count (drop (start + 1) es) (drop x es) at_x same)
