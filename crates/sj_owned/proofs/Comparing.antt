-- Arrays are compared item by item, and objects by their numbers of members and by one look-up for each.
use Rattle.std.proofs.Common.{◌≡◌, ◌&&◌, eqb, ℕ, suc, Bool, true, false, cond, List, [], ◌∷◌, length, map, Option, Some, None, is_some, refl, sym, ap, ap₂, ◌∙◌, arith}
use Rattle.std.specs.Prelude.{option_map, bytes_eq}
use Rattle.std.specs.Option.{option_map_or}
use Rattle.std.specs.Cmp.{both_ways}
use Rattle.std.proofs.lemmas.Bool.{true≢false, and_parts, and_from, and_right, eqb-true, eq-eqb, ne_eqb, cond-false, or_parts}
use Rattle.sj_base.specs.Tree.{Tree, null, list, object, item, Members, member}
use Rattle.sj_base.specs.Keep.{keep, keep_items, keep_members, without}
use Rattle.sj_base.specs.Path.{member_at}
use Rattle.sj_base.specs.Containers.{members_len}
use Rattle.sj_base.specs.Alike.{alike, alike_items, alike_members, keys_within}
use Rattle.sj_base.proofs.KeyCounts.{no_more, no_other_key}
use Rattle.sj_object.specs.Pairs.{keys_of, value_at, has_text, AreDistinct}
use Rattle.sj_object.specs.declared.entry.Entry.{Entry}
use Rattle.sj_build.specs.Trees.{items_of, members_of, on_values}
use Rattle.sj_owned.specs.inside.Comparing.{Compares}

-- the items that are kept
pub keep_items-of : {V : Type 0} (t : V → Tree) (vs : List V) → keep_items (items_of (map t vs)) ≡ items_of (map (λ v. keep (t v)) vs)
keep_items-of t [] = refl
keep_items-of t (v ∷ vs) = ap (item (keep (t v))) (keep_items-of t vs)

module _ {V W : Type 0} (t : V → Tree) (u : W → Tree) where
  -- whether the trees of two lists are alike
  abbrev pub alike_lists : List V → List W → Bool
  alike_lists vs ws = alike_items (items_of (map t vs)) (items_of (map u ws))

  other_length : (vs : List V) (ws : List W) → (length vs ≡ length ws → ⊥) → false ≡ alike_lists vs ws
  other_length [] [] n = absurd (n refl)
  other_length [] (w ∷ ws) n = refl
  other_length (v ∷ vs) [] n = refl
  other_length (v ∷ vs) (w ∷ ws) n = sym (and_right (alike (t v) (u w)) (alike_lists vs ws) (sym (other_length vs ws (λ e. n (ap (λ k. suc k) e)))))

  module _ (vs at more : List V) (ws there others : List W) (v : V) (w : W) (left : alike_lists at there ≡ alike_lists vs ws) (a : at ≡ v ∷ more) (b : there ≡ w ∷ others) where
    -- The first items differ.
    item_differs : false ≡ alike (t v) (u w) → false ≡ alike_lists vs ws
    item_differs h = ap (λ p. p && alike_lists more others) h ∙ sym (ap₂ alike_lists a b) ∙ left

    -- They are alike, so those behind them decide.
    item_passed : true ≡ alike (t v) (u w) → alike_lists more others ≡ alike_lists vs ws
    item_passed h = ap (λ p. p && alike_lists more others) h ∙ sym (ap₂ alike_lists a b) ∙ left

-- what is kept of each tree
abbrev kept : {V : Type 0} → (V → Tree) → V → Tree
kept t v = keep (t v)

module _ {V W : Type 0} (t : V → Tree) (u : W → Tree) (vs : List V) (ws : List W) where
  -- Items that are left decide on the whole lists, as they are and as they are kept.
  abbrev pub Left : List V → List W → Type 0
  Left at there = (alike_lists t u at there ≡ alike_lists t u vs ws) × (alike_lists (kept t) (kept u) at there ≡ alike_lists (kept t) (kept u) vs ws)

  lists_compared : (r : Bool) → r ≡ alike_lists t u vs ws → r ≡ alike_lists (kept t) (kept u) vs ws → Compares r (list (items_of (map t vs))) (list (items_of (map u ws)))
  lists_compared r h k = (h, k ∙ sym (ap₂ alike_items (keep_items-of t vs) (keep_items-of u ws)))

  pub lists_of_other_lengths : (length vs ≡ length ws → ⊥) → Compares false (list (items_of (map t vs))) (list (items_of (map u ws)))
  lists_of_other_lengths n = lists_compared false (other_length t u vs ws n) (other_length (kept t) (kept u) vs ws n)

  pub lists_differ : (at more : List V) (there others : List W) (v : V) (w : W) → Left at there → at ≡ v ∷ more → there ≡ w ∷ others → Compares false (t v) (u w)
      → Compares false (list (items_of (map t vs))) (list (items_of (map u ws)))
  lists_differ at more there others v w left a b h =
      lists_compared false (item_differs t u vs at more ws there others v w left.0 a b h.0) (item_differs (kept t) (kept u) vs at more ws there others v w left.1 a b h.1)

  pub items_passed : (at more : List V) (there others : List W) (v : V) (w : W) → Left at there → at ≡ v ∷ more → there ≡ w ∷ others → Compares true (t v) (u w) → Left more others
  items_passed at more there others v w left a b h =
      (item_passed t u vs at more ws there others v w left.0 a b h.0, item_passed (kept t) (kept u) vs at more ws there others v w left.1 a b h.1)

  pub lists_equal : (at : List V) (there : List W) → Left at there → at ≡ [] → there ≡ [] → Compares true (list (items_of (map t vs))) (list (items_of (map u ws)))
  lists_equal at there left a b =
      lists_compared true (sym (ap₂ (alike_lists t u) a b) ∙ left.0) (sym (ap₂ (alike_lists (kept t) (kept u)) a b) ∙ left.1)

module _ {K V : Type 0} (text : K → List ℕ) where
  -- the members of the pairs
  abbrev pub named : (V → Tree) → List (Entry K V) → Members
  named t es = members_of text (on_values t es)

  -- the keys alone
  abbrev bare : List (Entry K V) → Members
  bare = named (λ v. null)

  pub members_len-named : (t : V → Tree) (es : List (Entry K V)) → members_len (named t es) ≡ length es
  members_len-named t [] = refl
  members_len-named t (e ∷ es) = ap (λ n. suc n) (members_len-named t es)

  found_first : (t : V → Tree) (b : Bool) (v : V) (o : Option V) → cond b (Some (t v)) (option_map t o) ≡ option_map t (cond b (Some v) o)
  found_first t true v o = refl
  found_first t false v o = refl

  -- A look-up in the members is one in the pairs.
  pub member_at-named : (t : V → Tree) (es : List (Entry K V)) (k : List ℕ) → member_at (named t es) k ≡ option_map t (value_at text es k)
  member_at-named t [] k = refl
  member_at-named t (e ∷ es) k =
      ap (cond (bytes_eq (text e.key) k) (Some (t e.value))) (member_at-named t es k) ∙ found_first t (bytes_eq (text e.key) k) e.value (value_at text es k)

  without-other : (t : V → Tree) (es : List (Entry K V)) (k : List ℕ) → has_text (keys_of text es) k ≡ false → without k (named t es) ≡ named t es
  without-other t [] k h = refl
  without-other t (e ∷ es) k h =
      let s = or_parts (bytes_eq (text e.key) k) (has_text (keys_of text es) k) h in
      cond-false (bytes_eq (text e.key) k) (without k (named t es)) (member (text e.key) (t e.value) (without k (named t es))) s.0 ∙ ap (member (text e.key) (t e.value)) (without-other t es k s.1)

  -- Where no key stands twice, each member is kept.
  pub keep_members-named : (t : V → Tree) (es : List (Entry K V)) → AreDistinct (keys_of text es) → keep_members (named t es) ≡ named (λ v. keep (t v)) es
  keep_members-named t [] d = refl
  keep_members-named t (e ∷ es) d =
      ap (λ ms. member (text e.key) (keep (t e.value)) (without (text e.key) ms)) (keep_members-named t es d.1)
      ∙ ap (member (text e.key) (keep (t e.value))) (without-other (λ v. keep (t v)) es (text e.key) d.0)

some_mapped : {A : Type 0} (t u : A → Tree) (o : Option A) → is_some (option_map t o) ≡ is_some (option_map u o)
some_mapped t u None = refl
some_mapped t u (Some x) = refl

tested_is_some : {A : Type 0} (test : Tree → Bool) (t u : A → Tree) (o : Option A) → option_map_or test (option_map t o) false ≡ true → is_some (option_map u o) ≡ true
tested_is_some test t u None h = absurd (true≢false (sym h))
tested_is_some test t u (Some x) h = refl

module _ {K V L W : Type 0} (text : K → List ℕ) (name : L → List ℕ) (t : V → Tree) (u : W → Tree) where
  -- Which keys stand in others doesn't depend on the values.
  keys_within-bare : (es : List (Entry K V)) (fs : List (Entry L W)) → keys_within (named text t es) (named name u fs) ≡ keys_within (bare text es) (bare name fs)
  keys_within-bare [] fs = refl
  keys_within-bare (e ∷ es) fs =
      let none : W → Tree = λ w. null in
      let here = ap is_some (member_at-named name u fs (text e.key)) ∙ some_mapped u none (value_at name fs (text e.key)) ∙ sym (ap is_some (member_at-named name none fs (text e.key))) in
      ap₂ (λ a b. a && b) here (keys_within-bare es fs)

  -- Members that are alike to others have their keys there.
  keys_alike : (es : List (Entry K V)) (fs : List (Entry L W)) → alike_members (named text t es) (named name u fs) ≡ true → keys_within (bare text es) (bare name fs) ≡ true
  keys_alike [] fs h = refl
  keys_alike (e ∷ es) fs h =
      let k = text e.key in
      let none : W → Tree = λ w. null in
      let test = alike (t e.value) in
      let parts = and_parts (option_map_or test (member_at (named name u fs) k) false) (alike_members (named text t es) (named name u fs)) h in
      let there = sym (ap (λ o. option_map_or test o false) (member_at-named name u fs k)) ∙ parts.0 in
      and_from (is_some (member_at (bare name fs) k)) (keys_within (bare text es) (bare name fs))
      (ap is_some (member_at-named name none fs k) ∙ tested_is_some test u none (value_at name fs k) there)
      (keys_alike es fs parts.1)

module _ {K V L W : Type 0} (text : K → List ℕ) (name : L → List ℕ) (t : V → Tree) (u : W → Tree) where
  -- Objects in which no key stands twice are alike if they have equally many members, and those of the first are alike.
  pub alike_objects : (es : List (Entry K V)) (fs : List (Entry L W)) → AreDistinct (keys_of text es) → AreDistinct (keys_of name fs)
      → alike (object (named text t es)) (object (named name u fs)) ≡ (eqb (length es) (length fs) && alike_members (named text t es) (named name u fs))
  alike_objects es fs d f =
      let like = alike_members (named text t es) (named name u fs) in
      let within = keys_within (named name u fs) (named text t es) in
      let equal = eqb (length es) (length fs) in
      let none : V → Tree = λ v. null in
      let no : W → Tree = λ w. null in
      let first : keep_members (bare text es) ≡ bare text es = keep_members-named text none es d in
      let second : keep_members (bare name fs) ≡ bare name fs = keep_members-named name no fs f in
      let many = members_len-named text none es in
      let others = members_len-named name no fs in
      both_ways (like && within) (equal && like)
      (λ h. let parts = and_parts like within h in
      let up = no_more (bare text es) (bare name fs) first (keys_alike text name t u es fs parts.0) in
      let down = no_more (bare name fs) (bare text es) second (sym (keys_within-bare name text u t fs es) ∙ parts.1) in
      and_from equal like (eq-eqb (length es) (length fs) (omega (arith, up, down, many, others))) parts.0)
      (λ h. let parts = and_parts equal like h in
      let same = eqb-true (length es) (length fs) parts.0 in
      and_from like within parts.1
      (keys_within-bare name text u t fs es ∙ no_other_key (bare text es) (bare name fs) first (keys_alike text name t u es fs parts.1) (many ∙ same ∙ sym others)))

  -- The first member decides, or else those behind it.
  first_member : (es more : List (Entry K V)) (fs : List (Entry L W)) (e : Entry K V) (found : Option W) → es ≡ e ∷ more → value_at name fs (text e.key) ≡ found
      → alike_members (named text t es) (named name u fs) ≡ (option_map_or (alike (t e.value)) (option_map u found) false && alike_members (named text t more) (named name u fs))
  first_member es more fs e found is r =
      ap (λ l. alike_members (named text t l) (named name u fs)) is
      ∙ ap (λ o. option_map_or (alike (t e.value)) o false && alike_members (named text t more) (named name u fs)) (member_at-named name u fs (text e.key) ∙ ap (option_map u) r)

module _ {K V L W : Type 0} (text : K → List ℕ) (name : L → List ℕ) (t : V → Tree) (u : W → Tree) (es : List (Entry K V)) (fs : List (Entry L W)) where
  -- whether each of these members finds an alike one among the others, as they are, or as they are kept
  abbrev found_alike : List (Entry K V) → Bool
  found_alike at = alike_members (named text t at) (named name u fs)

  abbrev kept_found_alike : List (Entry K V) → Bool
  kept_found_alike at = alike_members (named text (kept t) at) (named name (kept u) fs)

  -- Members that are left decide on all.
  abbrev pub LeftMembers : List (Entry K V) → Type 0
  LeftMembers at = (found_alike at ≡ found_alike es) × (kept_found_alike at ≡ kept_found_alike es)

  pub all_left : (at : List (Entry K V)) → at ≡ es → LeftMembers at
  all_left at is = (ap found_alike is, ap kept_found_alike is)

  pub members_passed : (at more : List (Entry K V)) (e : Entry K V) (w : W) → LeftMembers at → at ≡ e ∷ more → value_at name fs (text e.key) ≡ Some w → Compares true (t e.value) (u w) → LeftMembers more
  members_passed at more e w left is found h = (
    ap (λ p. p && found_alike more) h.0 ∙ sym (first_member text name t u at more fs e (Some w) is found) ∙ left.0,
    ap (λ p. p && kept_found_alike more) h.1 ∙ sym (first_member text name (kept t) (kept u) at more fs e (Some w) is found) ∙ left.1,
  )

  module _ (d : AreDistinct (keys_of text es)) (f : AreDistinct (keys_of name fs)) where
    objects_compared : (r : Bool) → r ≡ (eqb (length es) (length fs) && found_alike es) → r ≡ (eqb (length es) (length fs) && kept_found_alike es) → Compares r (object (named text t es)) (object (named name u fs))
    objects_compared r h k = (
      h ∙ sym (alike_objects text name t u es fs d f),
      k ∙ sym (alike_objects text name (kept t) (kept u) es fs d f) ∙ sym (ap₂ (λ ms ns. alike (object ms) (object ns)) (keep_members-named text t es d) (keep_members-named name u fs f)),
    )

    pub objects_of_other_lengths : (length es ≡ length fs → ⊥) → Compares false (object (named text t es)) (object (named name u fs))
    objects_of_other_lengths n =
        let other = sym (ne_eqb (length es) (length fs) n) in
        objects_compared false (ap (λ p. p && found_alike es) other) (ap (λ p. p && kept_found_alike es) other)

    decided : false ≡ found_alike es → false ≡ kept_found_alike es → Compares false (object (named text t es)) (object (named name u fs))
    decided h k =
        objects_compared false (sym (and_right (eqb (length es) (length fs)) (found_alike es) (sym h))) (sym (and_right (eqb (length es) (length fs)) (kept_found_alike es) (sym k)))

    pub objects_differ : (at more : List (Entry K V)) (e : Entry K V) (w : W) → LeftMembers at → at ≡ e ∷ more → value_at name fs (text e.key) ≡ Some w → Compares false (t e.value) (u w)
        → Compares false (object (named text t es)) (object (named name u fs))
    objects_differ at more e w left is found h =
        decided
        (ap (λ p. p && found_alike more) h.0 ∙ sym (first_member text name t u at more fs e (Some w) is found) ∙ left.0)
        (ap (λ p. p && kept_found_alike more) h.1 ∙ sym (first_member text name (kept t) (kept u) at more fs e (Some w) is found) ∙ left.1)

    pub objects_of_other_keys : (at more : List (Entry K V)) (e : Entry K V) → LeftMembers at → at ≡ e ∷ more → value_at name fs (text e.key) ≡ None
        → Compares false (object (named text t es)) (object (named name u fs))
    objects_of_other_keys at more e left is none =
        decided
        (sym (first_member text name t u at more fs e None is none) ∙ left.0)
        (sym (first_member text name (kept t) (kept u) at more fs e None is none) ∙ left.1)

    pub objects_equal : (at : List (Entry K V)) → LeftMembers at → at ≡ [] → length es ≡ length fs → Compares true (object (named text t es)) (object (named name u fs))
    objects_equal at left is same =
        let equal = sym (eq-eqb (length es) (length fs) same) in
        let all = sym (ap found_alike is) ∙ left.0 in
        let kept_all = sym (ap kept_found_alike is) ∙ left.1 in
        objects_compared true (ap₂ (λ a b. a && b) equal all) (ap₂ (λ a b. a && b) equal kept_all)
