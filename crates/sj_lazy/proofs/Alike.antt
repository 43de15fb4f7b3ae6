-- Trees compared by what is kept of them: lists from the front on, and objects with their repeated keys passed over.
use Rattle.std.proofs.Common.{◌≡◌, ◌&&◌, ◌||◌, ◌<◌, ◌≤◌, ℕ, zero, suc, Bool, true, false, cond, List, [], ◌∷◌, ◌++◌, map, length, Option, Some, None, is_some, option_map, MatchOption, refl, sym, ap, ap₂, ◌∙◌, arith}
use Rattle.std.proofs.lemmas.Bool.{and_parts, and_from, or_parts}
use Rattle.std.proofs.lemmas.Option.{none-some}
use Rattle.std.proofs.Math.Bool.{and-false, or-false, or-true}
use Rattle.std.specs.Option.{option_map_or}
use Rattle.std.specs.Str.{bytes_eq}
use Rattle.sj_base.specs.Alike.{alike, alike_items, alike_members, keys_within}
use Rattle.sj_base.specs.Containers.{items_len, members_len, item_trees, member_pairs}
use Rattle.sj_base.specs.Keep.{keep, keep_items, keep_members, without}
use Rattle.sj_base.specs.Path.{member_at}
use Rattle.sj_base.specs.Tree.{Tree, list, object, Items, no_items, item, Members, no_members, member}
use Rattle.sj_base.proofs.Keeping.{member_at-keep}
use Rattle.sj_base.proofs.Keys.{same_key, own_key, key_flip}
use Rattle.sj_owned.specs.Compare.{kept_alike}
use Rattle.sj_build.specs.Trees.{items_of}
use Rattle.sj_lazy.specs.Contents.{Contents, Value, contents}
use Rattle.sj_lazy.specs.Views.{contents_tree, lazy_tree}
use Rattle.sj_lazy.specs.inside.Comparing.{next_alike, among, first_keys, all_found}

items_back : (ts : Items) → items_of (item_trees ts) ≡ ts
items_back no_items = refl
items_back (item t ts) = ap (item t) (items_back ts)

-- whether what is kept of items is alike to what is kept of trees
abbrev pub left_alike : Items → List Tree → Bool
left_alike ts us = alike_items (keep_items ts) (keep_items (items_of us))

-- what an iterator gave, and what it has left
abbrev pub Gives : Option Value → List Contents → List Contents → Type 0
Gives r ws vs = MatchOption r ((ws ≡ []) × (vs ≡ [])) (λ x. ws ≡ contents x ∷ vs)

-- The first item and the next value are compared, and then those behind them.
pub next_item : (r : Option Value) (ws vs : List Contents) (at us : Items) (t : Tree) → Gives r ws vs → at ≡ item t us
    → left_alike at (map contents_tree ws) ≡ (next_alike t (option_map lazy_tree r) && left_alike us (map contents_tree vs))
next_item None ws vs at us t h is = ap₂ left_alike is (ap (map contents_tree) h.0)
next_item (Some x) ws vs at us t h is = ap₂ left_alike is (ap (map contents_tree) h)

-- Behind the last item no value is left.
pub none_left : (ws : List Contents) (at : Items) → at ≡ no_items → items_len at ≡ length ws → left_alike at (map contents_tree ws) ≡ true
none_left [] at is len = ap (λ l. left_alike l []) is
none_left (w ∷ ws) at is len = cc

-- the comparison of the whole lists
pub lists_alike : (ts us : Items) → left_alike ts (item_trees us) ≡ kept_alike (list ts) (list us)
lists_alike ts us = ap (λ ws. alike_items (keep_items ts) (keep_items ws)) (items_back us)

-- a member that finds an alike one
abbrev pub agrees : List ℕ → Tree → Members → Bool
agrees k t ns = option_map_or (alike (keep t)) (member_at (keep_members ns) k) false

found_next : (t : Tree) (o : Option Tree) → next_alike t o ≡ option_map_or (alike (keep t)) (option_map keep o) false
found_next t None = refl
found_next t (Some u) = refl

pub next_agrees : (k : List ℕ) (t : Tree) (ns : Members) (o : Option Tree) → o ≡ member_at ns k → next_alike t o ≡ agrees k t ns
next_agrees k t ns o h = ap (next_alike t) h ∙ found_next t (member_at ns k) ∙ ap (λ p. option_map_or (alike (keep t)) p false) (sym (member_at-keep ns k))

-- the same of each member but those whose key came before
abbrev pub rest_alike : List (List ℕ) → Members → Members → Bool
rest_alike ks no_members ns = true
rest_alike ks (member k t ms) ns = (among ks k || agrees k t ns) && rest_alike (ks ++ k ∷ []) ms ns

abbrev withouts : List (List ℕ) → Members → Members
withouts [] ms = ms
withouts (k ∷ ks) ms = without k (withouts ks ms)

none_out : (ks : List (List ℕ)) → withouts ks no_members ≡ no_members
none_out [] = refl
none_out (k ∷ ks) = ap (without k) (none_out ks)

last_out : (ks : List (List ℕ)) (k : List ℕ) (ms : Members) → withouts (ks ++ k ∷ []) ms ≡ withouts ks (without k ms)
last_out [] k ms = refl
last_out (j ∷ ks) k ms = ap (without j) (last_out ks k ms)

one_out : (j k : List ℕ) (u : Tree) (ms : Members) (h : Bool) → without j (cond h ms (member k u ms)) ≡ cond (bytes_eq k j || h) (without j ms) (member k u (without j ms))
one_out j k u ms true = sym (ap (λ b. cond b (without j ms) (member k u (without j ms))) (or-true (bytes_eq k j)))
one_out j k u ms false = sym (ap (λ b. cond b (without j ms) (member k u (without j ms))) (or-false (bytes_eq k j)))

first_out : (ks : List (List ℕ)) (k : List ℕ) (u : Tree) (ms : Members) → withouts ks (member k u ms) ≡ cond (among ks k) (withouts ks ms) (member k u (withouts ks ms))
first_out [] k u ms = refl
first_out (j ∷ ks) k u ms = ap (without j) (first_out ks k u ms) ∙ one_out j k u (withouts ks ms) (among ks k)

first_alike : (h : Bool) (k : List ℕ) (u : Tree) (ms ns : Members) → alike_members (cond h ms (member k u ms)) ns ≡ ((h || option_map_or (alike u) (member_at ns k) false) && alike_members ms ns)
first_alike true k u ms ns = refl
first_alike false k u ms ns = refl

rest_kept : (ks : List (List ℕ)) (ms ns : Members) → rest_alike ks ms ns ≡ alike_members (withouts ks (keep_members ms)) (keep_members ns)
rest_kept ks no_members ns = sym (ap (λ l. alike_members l (keep_members ns)) (none_out ks))
rest_kept ks (member k t ms) ns =
    let others = withouts ks (without k (keep_members ms)) in
    ap (λ b. (among ks k || agrees k t ns) && b) (rest_kept (ks ++ k ∷ []) ms ns ∙ ap (λ l. alike_members l (keep_members ns)) (last_out ks k (keep_members ms)))
    ∙ sym (first_alike (among ks k) k (keep t) others (keep_members ns))
    ∙ sym (ap (λ l. alike_members l (keep_members ns)) (first_out ks k (keep t) (without k (keep_members ms))))

is_some-map : {A B : Type 0} (f : A → B) (o : Option A) → is_some (option_map f o) ≡ is_some o
is_some-map f None = refl
is_some-map f (Some x) = refl

within_kept : (xs ms : Members) → keys_within xs (keep_members ms) ≡ keys_within xs ms
within_kept no_members ms = refl
within_kept (member k t xs) ms = ap₂ (λ a b. a && b) (ap is_some (member_at-keep ms k) ∙ is_some-map keep (member_at ms k)) (within_kept xs ms)

without_at : (k n : List ℕ) (t : Tree) (xs ms : Members) → is_some (member_at ms k) ≡ true → keys_within (without k xs) ms ≡ keys_within xs ms → (p : Bool) → bytes_eq n k ≡ p
    → keys_within (cond p (without k xs) (member n t (without k xs))) ms ≡ (is_some (member_at ms n) && keys_within xs ms)
without_at k n t xs ms there ind true e = ind ∙ sym (ap (λ b. b && keys_within xs ms) (ap (λ j. is_some (member_at ms j)) (same_key n k e) ∙ there))
without_at k n t xs ms there ind false e = ap (λ b. is_some (member_at ms n) && b) ind

without_within : (k : List ℕ) (xs ms : Members) → is_some (member_at ms k) ≡ true → keys_within (without k xs) ms ≡ keys_within xs ms
without_within k no_members ms there = refl
without_within k (member n t xs) ms there = without_at k n t xs ms there (without_within k xs ms there) (bytes_eq n k) refl

both_within : (b p q : Bool) → (b ≡ true → p ≡ q) → (b && p) ≡ (b && q)
both_within true p q h = h refl
both_within false p q h = refl

kept_within : (ns ms : Members) → keys_within (keep_members ns) ms ≡ keys_within ns ms
kept_within no_members ms = refl
kept_within (member k t ns) ms =
    both_within (is_some (member_at ms k)) (keys_within (without k (keep_members ns)) ms) (keys_within ns ms)
    (λ there. without_within k (keep_members ns) ms there ∙ kept_within ns ms)

-- the keys in order
abbrev pub keys_of : Members → List (List ℕ)
keys_of ms = map (λ (p : List ℕ × Tree). p.0) (member_pairs ms)

found_within : (ns ms : Members) → all_found (keys_of ns) ms ≡ keys_within ns ms
found_within no_members ms = refl
found_within (member k t ns) ms = ap (λ b. is_some (member_at ms k) && b) (found_within ns ms)

-- Objects are compared in two passes.
pub objects_alike : (ms ns : Members) → (rest_alike [] ms ns && all_found (keys_of ns) ms) ≡ kept_alike (object ms) (object ns)
objects_alike ms ns =
    ap₂ (λ a b. a && b) (rest_kept [] ms ns) (found_within ns ms ∙ sym (kept_within ns ms) ∙ sym (within_kept (keep_members ns) ms))

-- the members behind the first n
abbrev pub behind_first : ℕ → Members → Members
behind_first zero ms = ms
behind_first (suc n) no_members = no_members
behind_first (suc n) (member k t ms) = behind_first n ms

pub key_passed : (n : ℕ) (all ms : Members) (k : List ℕ) (t : Tree) → behind_first n all ≡ member k t ms → (first_keys (suc n) all ≡ first_keys n all ++ k ∷ []) × (behind_first (suc n) all ≡ ms)
key_passed zero no_members ms k t h = cc
key_passed zero (member j u all) ms k t h = (ap (λ m. first_keys 1 m) h, ap (behind_first 1) h)
key_passed (suc n) no_members ms k t h = cc
key_passed (suc n) (member j u all) ms k t h = let more = key_passed n all ms k t h in (ap (λ ks. j ∷ ks) more.0, more.1)

pub all_behind : (all : Members) → behind_first (members_len all) all ≡ no_members
all_behind no_members = refl
all_behind (member k t all) = all_behind all

pub some_behind : (n : ℕ) (all : Members) → n < members_len all → behind_first n all ≡ no_members → ⊥
some_behind n no_members h is = omega arith
some_behind zero (member k t all) h is = cc
some_behind (suc n) (member k t all) h is = some_behind n all (omega arith) is

-- Behind a front with the same keys on both sides, the next members have one key.
in_front : (n front : ℕ) (ms ns : Members) (k : List ℕ) (t : Tree) (more : Members) → n < front → first_keys front ms ≡ first_keys front ns → behind_first n ms ≡ member k t more
    → (u : Tree) × (others : Members) × (behind_first n ns ≡ member k u others) × (first_keys n ms ≡ first_keys n ns)
in_front n zero ms ns k t more lt e is = absurd (omega (arith, lt))
in_front zero (suc f) no_members ns k t more lt e is = cc
in_front zero (suc f) (member j v ms) no_members k t more lt e is = cc
in_front zero (suc f) (member j v ms) (member i u ns) k t more lt e is = (u, ns, cc, refl)
in_front (suc n) (suc f) no_members ns k t more lt e is = cc
in_front (suc n) (suc f) (member j v ms) no_members k t more lt e is = cc
in_front (suc n) (suc f) (member j v ms) (member i u ns) k t more lt e is =
    let tail : first_keys f ms ≡ first_keys f ns = cc in
    let same : j ≡ i = cc in
    let found = in_front n f ms ns k t more (omega (arith, lt)) tail is in
    (found.0, found.1, found.2, ap₂ (λ a b. a ∷ b) same found.3)

-- The first member with a key is the one there, if no member before has it.
first_there : (n : ℕ) (ns : Members) (k : List ℕ) (u : Tree) (more : Members) → behind_first n ns ≡ member k u more → among (first_keys n ns) k ≡ false → member_at ns k ≡ Some u
first_there zero ns k u more is none = ap (λ l. member_at l k) is ∙ ap (λ b. cond b (Some u) (member_at more k)) (own_key k)
first_there (suc n) no_members k u more is none = cc
first_there (suc n) (member j v ns) k u more is none =
    let parts = or_parts (bytes_eq k j) (among (first_keys n ns) k) none in
    ap (λ b. cond b (Some v) (member_at ns k)) (key_flip k j false parts.0) ∙ first_there n ns k u more is parts.1

-- A value that is compared with one member is compared with the first of its key, or the key came before.
pub or_agrees : (p : Bool) (k : List ℕ) (t : Tree) (ns : Members) (o : Option Tree) → (p ≡ false → o ≡ member_at ns k) → (p || next_alike t o) ≡ (p || agrees k t ns)
or_agrees true k t ns o h = refl
or_agrees false k t ns o h = next_agrees k t ns o (h refl)

pub key_next : (n : ℕ) (ms : Members) (k : List ℕ) (ks : List (List ℕ)) → keys_of (behind_first n ms) ≡ k ∷ ks → (first_keys (suc n) ms ≡ first_keys n ms ++ k ∷ []) × (keys_of (behind_first (suc n) ms) ≡ ks)
key_next zero no_members k ks h = cc
key_next zero (member j t ms) k ks h = (cc, cc)
key_next (suc n) no_members k ks h = cc
key_next (suc n) (member j t ms) k ks h = let more = key_next n ms k ks h in (ap (λ l. j ∷ l) more.0, more.1)

-- Each key of an object has a member in it.
some_or : {A : Type 0} (b : Bool) (x : A) (o : Option A) → is_some o ≡ true → is_some (cond b (Some x) o) ≡ true
some_or true x o h = refl
some_or false x o h = h

within_more : (xs ms : Members) (k : List ℕ) (t : Tree) → keys_within xs ms ≡ true → keys_within xs (member k t ms) ≡ true
within_more no_members ms k t h = refl
within_more (member j u xs) ms k t h =
    let parts = and_parts (is_some (member_at ms j)) (keys_within xs ms) h in
    and_from _ _ (some_or (bytes_eq k j) t (member_at ms j) parts.0) (within_more xs ms k t parts.1)

pub within_itself : (ms : Members) → keys_within ms ms ≡ true
within_itself no_members = refl
within_itself (member k t ms) =
    and_from _ _ (ap (λ b. is_some (cond b (Some t) (member_at ms k))) (own_key k)) (within_more ms ms k t (within_itself ms))

front_within : (front : ℕ) (ms ns all : Members) → first_keys front ms ≡ first_keys front ns → members_len ns ≤ front → keys_within ms all ≡ true → keys_within ns all ≡ true
front_within front ms no_members all e few within = refl
front_within zero ms (member k t ns) all e few within = absurd (omega (arith, few))
front_within (suc f) no_members (member k t ns) all e few within = cc
front_within (suc f) (member j v ms) (member k t ns) all e few within =
    let same : k ≡ j = cc in
    let tail : first_keys f ms ≡ first_keys f ns = cc in
    let parts = and_parts (is_some (member_at all j)) (keys_within ms all) within in
    and_from _ _ (ap (λ i. is_some (member_at all i)) same ∙ parts.0) (front_within f ms ns all tail (omega (arith, few)) parts.1)

-- Where the front with the same keys is all of the second, the first has each of its keys.
pub front_found : (front : ℕ) (ms ns : Members) → first_keys front ms ≡ first_keys front ns → members_len ns ≤ front → all_found (keys_of ns) ms ≡ true
front_found front ms ns e few = found_within ns ms ∙ front_within front ms ns ms e few (within_itself ms)

-- A key of the first is a key of the second, if all are.
found_also : (o : Option Tree) (k n : List ℕ) (t : Tree) (ms : Members) → is_some (member_at ms n) ≡ true → (is_some o ≡ true → is_some (member_at ms k) ≡ true)
    → (b : Bool) → bytes_eq n k ≡ b → is_some (cond b (Some t) o) ≡ true → is_some (member_at ms k) ≡ true
found_also o k n t ms first behind true e h = ap (λ j. is_some (member_at ms j)) (sym (same_key n k e)) ∙ first
found_also o k n t ms first behind false e h = behind h

pub also_within : (xs ms : Members) (k : List ℕ) → keys_within xs ms ≡ true → is_some (member_at xs k) ≡ true → is_some (member_at ms k) ≡ true
also_within no_members ms k w h = cc
also_within (member n t xs) ms k w h =
    let parts = and_parts (is_some (member_at ms n)) (keys_within xs ms) w in
    found_also (member_at xs k) k n t ms parts.0 (also_within xs ms k parts.1) (bytes_eq n k) refl h

-- Lists of other lengths aren't alike.
pub other_lengths : (ts us : Items) → (items_len ts ≡ items_len us → ⊥) → kept_alike (list ts) (list us) ≡ false
other_lengths no_items no_items n = absurd (n refl)
other_lengths no_items (item u us) n = refl
other_lengths (item t ts) no_items n = refl
other_lengths (item t ts) (item u us) n =
    ap (λ b. alike (keep t) (keep u) && b) (other_lengths ts us (λ e. n (ap suc e))) ∙ and-false (alike (keep t) (keep u))

-- the values in order
abbrev pub values_of : Members → List Tree
values_of ms = map (λ (p : List ℕ × Tree). p.1) (member_pairs ms)

cons_parts : {A : Type 0} {x y : A} {xs ys : List A} → x ∷ xs ≡ y ∷ ys → (x ≡ y) × (xs ≡ ys)
cons_parts e = (cc, cc)

next_value : (r : Option Value) (ws vs : List Contents) (u : Tree) (us : List Tree) → Gives r ws vs → map contents_tree ws ≡ u ∷ us → (option_map lazy_tree r ≡ Some u) × (map contents_tree vs ≡ us)
next_value None ws vs u us h e = absurd (nothing_first (sym (ap (map contents_tree) h.0) ∙ e))
  where
    nothing_first : [] ≡ u ∷ us → ⊥
    nothing_first i = cc
next_value (Some x) ws vs u us h e = let parts = cons_parts (sym (ap (map contents_tree) h) ∙ e) in (ap Some parts.0, parts.1)

-- The next value on the other side is the first of its key, if the key didn't come before, and the values behind it are next.
pub next_in_front : (n front : ℕ) (all ns : Members) (k : List ℕ) (t : Tree) (more : Members) (r : Option Value) (ws vs : List Contents) → n < front → first_keys front all ≡ first_keys front ns
    → behind_first n all ≡ member k t more → Gives r ws vs → map contents_tree ws ≡ values_of (behind_first n ns)
    → (among (first_keys n all) k ≡ false → option_map lazy_tree r ≡ member_at ns k) × (map contents_tree vs ≡ values_of (behind_first (suc n) ns))
next_in_front n front all ns k t more r ws vs lt same is gives left =
    let there = in_front n front all ns k t more lt same is in
    let next = next_value r ws vs there.0 (values_of there.1) gives (left ∙ ap values_of there.2) in (
      (λ none. next.0 ∙ sym (first_there n ns k there.0 there.1 there.2 (ap (λ l. among l k) (sym there.3) ∙ none))),
      next.1 ∙ sym (ap values_of (key_passed n ns there.1 k there.0 there.2).1),
    )

nothing_behind : (ms : Members) → keys_of ms ≡ [] → ms ≡ no_members
nothing_behind no_members e = refl
nothing_behind (member k t ms) e = cc

some_parts : {A : Type 0} {x y : A} → Some x ≡ Some y → x ≡ y
some_parts e = cc

-- what an iterator of keys gave, and what it has left
abbrev GivesKey : {A : Type 0} → (A → List ℕ) → Option A → List (List ℕ) → List (List ℕ) → Type 0
GivesKey text r ws vs = MatchOption r ((ws ≡ []) × (vs ≡ [])) (λ k. ws ≡ text k ∷ vs)

-- Where the next keys on both sides are equal, the front with the same keys is longer by one.
pub front_passed : {A : Type 0} (text : A → List ℕ) (n : ℕ) (ms ns : Members) (r q : Option A) (ws vs xs us : List (List ℕ)) → n < members_len ms → first_keys n ms ≡ first_keys n ns
    → keys_of (behind_first n ms) ≡ ws → keys_of (behind_first n ns) ≡ xs → GivesKey text r ws vs → GivesKey text q xs us → option_map text r ≡ option_map text q
    → (first_keys (suc n) ms ≡ first_keys (suc n) ns) × (keys_of (behind_first (suc n) ms) ≡ vs) × (keys_of (behind_first (suc n) ns) ≡ us)
front_passed text n ms ns None q ws vs xs us lt same left others h i e = absurd (some_behind n ms lt (nothing_behind (behind_first n ms) (left ∙ h.0)))
front_passed text n ms ns (Some k) None ws vs xs us lt same left others h i e = absurd (none-some (text k) (sym e))
front_passed text n ms ns (Some k) (Some j) ws vs xs us lt same left others h i e =
    let a = key_next n ms (text k) vs (left ∙ h) in
    let b = key_next n ns (text j) us (others ∙ i) in
    (a.0 ∙ ap₂ (λ ks l. ks ++ l ∷ []) same (some_parts e) ∙ sym b.0, a.1, b.1)
