-- On kept trees `alike` is an equivalence, and objects may be compared by counts.
use Rattle.std.proofs.Common.{◌≡◌, ◌&&◌, eqb, ℕ, Bool, true, false, cond, List, Option, Some, None, is_some, refl, sym, ap, subst, ◌∙◌, arith}
use Rattle.std.specs.Option.{option_map_or}
use Rattle.std.specs.Cmp.{both_ways, bool_eq_equiv, int_eq_equiv}
use Rattle.std.specs.Str.{bytes_eq}
use Rattle.std.proofs.lemmas.Bool.{true≢false, and_parts, and_from, eqb-true, eq-eqb}
use Rattle.std.proofs.lemmas.Bool.Decides.{Decides-int_eq}
use Rattle.std.proofs.lemmas.Option.{none-some}
use Rattle.sj_base.specs.Tree.{Tree, null, boolean, integer, decimal, string, list, object, Items, no_items, item, Members, no_members, member}
use Rattle.sj_base.specs.Keep.{keep, keep_items, keep_members, IsKept}
use Rattle.sj_base.specs.Path.{member_at}
use Rattle.sj_base.specs.Alike.{alike, alike_items, alike_members, keys_within}
use Rattle.sj_base.specs.Containers.{members_len}
use Rattle.sj_base.specs.Laws.{AlikeToItself, AlikeBothWays, AlikeInTurn, AlikeByCount}
use Rattle.sj_base.proofs.Keys.{same_key, own_key, found_either, some_is}
use Rattle.sj_base.proofs.Kept.{list_parts, object_parts, item_parts, kept_member, kept_found}
use Rattle.sj_base.proofs.KeyCounts.{no_more, no_other_key}

-- The tree has the first one's form: the same scalar, a list with alike items, or an object with alike members.
abbrev IsLike : Tree → Tree → Type 0
IsLike (list ts) t = (us : Items) × (t ≡ list us) × (alike_items ts us ≡ true)
IsLike (object ms) t = (ns : Members) × (t ≡ object ns) × (alike_members ms ns ≡ true) × (keys_within ns ms ≡ true)
IsLike s t = s ≡ t

-- An alike tree has that form.
opened : (s t : Tree) → alike s t ≡ true → IsLike s t
opened null null h = refl
opened (boolean true) (boolean true) h = refl
opened (boolean false) (boolean false) h = refl
opened (integer m) (integer n) h = ap integer ((Decides-int_eq m n).0 h)
opened (decimal a) (decimal b) h = ap decimal (same_key a b h)
opened (string a) (string b) h = ap string (same_key a b h)
opened (list ts) (list us) h = (us, refl, h)
opened (object ms) (object ns) h = let parts = and_parts (alike_members ms ns) (keys_within ns ms) h in (ns, refl, parts.0, parts.1)
opened _ _ h = absurd (true≢false (sym h))

-- the value that passes the test
tested : {A : Type 0} (test : A → Bool) (o : Option A) → option_map_or test o false ≡ true → (x : A) × (o ≡ Some x) × (test x ≡ true)
tested test None h = absurd (true≢false (sym h))
tested test (Some x) h = (x, refl, h)

-- Each member of the first finds an alike one in the second.
matched : (ms ns : Members) (k : List ℕ) (t : Tree) → alike_members ms ns ≡ true → member_at ms k ≡ Some t → option_map_or (alike t) (member_at ns k) false ≡ true
matched no_members ns k t h found = absurd (none-some t found)
matched (member n s ms) ns k t h found =
    let parts = and_parts (option_map_or (alike s) (member_at ns n) false) (alike_members ms ns) h in
    found_either (λ u. option_map_or (alike u) (member_at ns k) false ≡ true) (bytes_eq n k) s t (member_at ms k) found
    (λ same. subst (λ j. option_map_or (alike s) (member_at ns j) false ≡ true) (same_key n k same) parts.0)
    (λ behind. matched ms ns k t parts.1 behind)

-- Each key of the first is found in the second.
key_found : (ns ms : Members) (k : List ℕ) (u : Tree) → keys_within ns ms ≡ true → member_at ns k ≡ Some u → is_some (member_at ms k) ≡ true
key_found no_members ms k u h found = absurd (none-some u found)
key_found (member n s ns) ms k u h found =
    let parts = and_parts (is_some (member_at ms n)) (keys_within ns ms) h in
    found_either (λ _. is_some (member_at ms k) ≡ true) (bytes_eq n k) s u (member_at ns k) found
    (λ same. subst (λ j. is_some (member_at ms j) ≡ true) (same_key n k same) parts.0)
    (λ behind. key_found ns ms k u parts.1 behind)

-- Alike members have their keys in the second.
keys_alike : (ms ns : Members) → alike_members ms ns ≡ true → keys_within ms ns ≡ true
keys_alike no_members ns h = refl
keys_alike (member k t ms) ns h =
    let parts = and_parts (option_map_or (alike t) (member_at ns k) false) (alike_members ms ns) h in
    let there = tested (alike t) (member_at ns k) parts.0 in
    and_from (is_some (member_at ns k)) (keys_within ms ns) (ap is_some there.1) (keys_alike ms ns parts.1)

-- Keys within others are within all that have those.
keys_in_turn : (os ns ms : Members) → keys_within os ns ≡ true → keys_within ns ms ≡ true → keys_within os ms ≡ true
keys_in_turn no_members ns ms h g = refl
keys_in_turn (member k t os) ns ms h g =
    let parts = and_parts (is_some (member_at ns k)) (keys_within os ns) h in
    let there = some_is (member_at ns k) parts.0 in
    and_from (is_some (member_at ms k)) (keys_within os ms) (key_found ns ms k there.0 g there.1) (keys_in_turn os ns ms parts.1 g)

-- Behind a member with another key the same is found.
found_behind : (n k : List ℕ) (t u : Tree) (ns : Members) → member_at ns n ≡ None → member_at ns k ≡ Some u → (test : Bool) → bytes_eq n k ≡ test → cond test (Some t) (member_at ns k) ≡ Some u
found_behind n k t u ns none found true e = absurd (none-some u (sym none ∙ ap (member_at ns) (same_key n k e) ∙ found))
found_behind n k t u ns none found false e = found

-- Kept members are alike to those in which each of them finds an alike one.
matching : (ns ms : Members) → keep_members ns ≡ ns → ((k : List ℕ) (u : Tree) → member_at ns k ≡ Some u → option_map_or (alike u) (member_at ms k) false ≡ true) → alike_members ns ms ≡ true
matching no_members ms kept each = refl
matching (member n t ns) ms kept each =
    let parts = kept_member n t ns kept in
    and_from (option_map_or (alike t) (member_at ms n) false) (alike_members ns ms)
    (each n t (ap (λ b. cond b (Some t) (member_at ns n)) (own_key n)))
    (matching ns ms parts.2 (λ k u found. each k u (found_behind n k t u ns parts.1 found (bytes_eq n k) refl)))

-- A kept tree is alike to itself, and so are kept items, and what is found among kept members.
mutual
  pub alike_to_itself : AlikeToItself
  alike_to_itself null kept = refl
  alike_to_itself (boolean b) kept = bool_eq_equiv.refl b
  alike_to_itself (integer n) kept = int_eq_equiv.refl n
  alike_to_itself (decimal literal) kept = own_key literal
  alike_to_itself (string s) kept = own_key s
  alike_to_itself (list ts) kept = items_to_themselves ts (list_parts (keep_items ts) ts kept)
  alike_to_itself (object ms) kept =
      let kept_members = object_parts (keep_members ms) ms kept in
      let members = matching ms ms kept_members (λ k u found. ap (λ o. option_map_or (alike u) o false) found ∙ found_to_itself ms kept_members k u found) in
      and_from (alike_members ms ms) (keys_within ms ms) members (keys_alike ms ms members)

  items_to_themselves : (ts : Items) → keep_items ts ≡ ts → alike_items ts ts ≡ true
  items_to_themselves no_items kept = refl
  items_to_themselves (item t ts) kept =
      let parts = item_parts (keep t) t (keep_items ts) ts kept in
      and_from (alike t t) (alike_items ts ts) (alike_to_itself t parts.0) (items_to_themselves ts parts.1)

  found_to_itself : (ms : Members) → keep_members ms ≡ ms → (k : List ℕ) (u : Tree) → member_at ms k ≡ Some u → alike u u ≡ true
  found_to_itself no_members kept k u found = absurd (none-some u found)
  found_to_itself (member n t ms) kept k u found =
      let parts = kept_member n t ms kept in
      found_either (λ v. alike v v ≡ true) (bytes_eq n k) t u (member_at ms k) found (λ same. alike_to_itself t parts.0) (λ behind. found_to_itself ms parts.2 k u behind)

-- what is alike to a kept tree, the other way round
abbrev IsTurned : Tree → Type 0
IsTurned s = (t : Tree) → IsKept t → alike s t ≡ true → alike t s ≡ true

-- Members may be turned round if what is alike to each of their values may be.
turned_members : (ms ns : Members) → keep_members ns ≡ ns → alike_members ms ns ≡ true → keys_within ns ms ≡ true → ((k : List ℕ) (t : Tree) → member_at ms k ≡ Some t → IsTurned t) → alike_members ns ms ≡ true
turned_members ms ns kept h keys each = matching ns ms kept turned
  where
    -- Each of the second finds an alike one in the first.
    turned : (k : List ℕ) (u : Tree) → member_at ns k ≡ Some u → option_map_or (alike u) (member_at ms k) false ≡ true
    turned k u found =
        let there = some_is (member_at ms k) (key_found ns ms k u keys found) in
        let same : alike there.0 u ≡ true = sym (ap (λ o. option_map_or (alike there.0) o false) found) ∙ matched ms ns k there.0 h there.1 in
        ap (λ o. option_map_or (alike u) o false) there.1 ∙ each k there.0 there.1 u (kept_found ns k u kept found) same

-- What is alike to a tree may be turned round, and so may items, and what is alike to a value that is found.
mutual
  turn : (s : Tree) → IsTurned s
  turn null t kept h = subst (λ u. alike u null ≡ true) (opened null t h) refl
  turn (boolean b) t kept h = subst (λ u. alike u (boolean b) ≡ true) (opened (boolean b) t h) (bool_eq_equiv.refl b)
  turn (integer n) t kept h = subst (λ u. alike u (integer n) ≡ true) (opened (integer n) t h) (int_eq_equiv.refl n)
  turn (decimal literal) t kept h = subst (λ u. alike u (decimal literal) ≡ true) (opened (decimal literal) t h) (own_key literal)
  turn (string s) t kept h = subst (λ u. alike u (string s) ≡ true) (opened (string s) t h) (own_key s)
  turn (list ts) t kept h =
      let like = opened (list ts) t h in
      let us = like.0 in
      subst (λ u. alike u (list ts) ≡ true) (sym like.1) (turn_items ts us (list_parts (keep_items us) us (subst IsKept like.1 kept)) like.2)
  turn (object ms) t kept h =
      let like = opened (object ms) t h in
      let ns = like.0 in
      let members = turned_members ms ns (object_parts (keep_members ns) ns (subst IsKept like.1 kept)) like.2 like.3 (λ k u found. turn_found ms k u found) in
      subst (λ u. alike u (object ms) ≡ true) (sym like.1) (and_from (alike_members ns ms) (keys_within ms ns) members (keys_alike ms ns like.2))

  turn_items : (ts us : Items) → keep_items us ≡ us → alike_items ts us ≡ true → alike_items us ts ≡ true
  turn_items no_items no_items kept h = refl
  turn_items (item t ts) (item u us) kept h =
      let parts = and_parts (alike t u) (alike_items ts us) h in
      let kept_parts = item_parts (keep u) u (keep_items us) us kept in
      and_from (alike u t) (alike_items us ts) (turn t u kept_parts.0 parts.0) (turn_items ts us kept_parts.1 parts.1)
  turn_items _ _ kept h = absurd (true≢false (sym h))

  turn_found : (ms : Members) (k : List ℕ) (t : Tree) → member_at ms k ≡ Some t → IsTurned t
  turn_found no_members k t found = absurd (none-some t found)
  turn_found (member n s ms) k t found = found_either IsTurned (bytes_eq n k) s t (member_at ms k) found (λ same. turn s) (λ behind. turn_found ms k t behind)

-- Of two kept trees each is alike to the other, or neither is.
pub alike_both_ways : AlikeBothWays
alike_both_ways s t kept_s kept_t = both_ways (alike s t) (alike t s) (turn s t kept_t) (turn t s kept_s)

-- Trees that are alike in turn are alike, and so are items and members.
mutual
  pub alike_in_turn : AlikeInTurn
  alike_in_turn null t u h g = subst (λ s. alike s u ≡ true) (sym (opened null t h)) g
  alike_in_turn (boolean b) t u h g = subst (λ s. alike s u ≡ true) (sym (opened (boolean b) t h)) g
  alike_in_turn (integer n) t u h g = subst (λ s. alike s u ≡ true) (sym (opened (integer n) t h)) g
  alike_in_turn (decimal literal) t u h g = subst (λ s. alike s u ≡ true) (sym (opened (decimal literal) t h)) g
  alike_in_turn (string s) t u h g = subst (λ x. alike x u ≡ true) (sym (opened (string s) t h)) g
  alike_in_turn (list ts) t u h g =
      let like = opened (list ts) t h in
      let next = opened (list like.0) u (subst (λ s. alike s u ≡ true) like.1 g) in
      subst (λ x. alike (list ts) x ≡ true) (sym next.1) (items_in_turn ts like.0 next.0 like.2 next.2)
  alike_in_turn (object ms) t u h g =
      let like = opened (object ms) t h in
      let next = opened (object like.0) u (subst (λ s. alike s u ≡ true) like.1 g) in
      subst (λ x. alike (object ms) x ≡ true) (sym next.1)
      (and_from (alike_members ms next.0) (keys_within next.0 ms) (members_in_turn ms like.0 next.0 like.2 next.2) (keys_in_turn next.0 like.0 ms next.3 like.3))

  items_in_turn : (ts us vs : Items) → alike_items ts us ≡ true → alike_items us vs ≡ true → alike_items ts vs ≡ true
  items_in_turn no_items no_items no_items h g = refl
  items_in_turn (item t ts) (item u us) (item v vs) h g =
      let first = and_parts (alike t u) (alike_items ts us) h in
      let next = and_parts (alike u v) (alike_items us vs) g in
      and_from (alike t v) (alike_items ts vs) (alike_in_turn t u v first.0 next.0) (items_in_turn ts us vs first.1 next.1)
  items_in_turn no_items (item u us) vs h g = absurd (true≢false (sym h))
  items_in_turn (item t ts) no_items vs h g = absurd (true≢false (sym h))
  items_in_turn no_items no_items (item v vs) h g = absurd (true≢false (sym g))
  items_in_turn (item t ts) (item u us) no_items h g = absurd (true≢false (sym g))

  members_in_turn : (ms ns os : Members) → alike_members ms ns ≡ true → alike_members ns os ≡ true → alike_members ms os ≡ true
  members_in_turn no_members ns os h g = refl
  members_in_turn (member k t ms) ns os h g =
      let parts = and_parts (option_map_or (alike t) (member_at ns k) false) (alike_members ms ns) h in
      let middle = tested (alike t) (member_at ns k) parts.0 in
      let last = tested (alike middle.0) (member_at os k) (matched ns os k middle.0 g middle.1) in
      and_from (option_map_or (alike t) (member_at os k) false) (alike_members ms os)
      (ap (λ o. option_map_or (alike t) o false) last.1 ∙ alike_in_turn t middle.0 last.0 middle.2 last.2)
      (members_in_turn ms ns os parts.1 g)

-- Kept objects are alike if they have equally many members, and those of the first are alike.
pub alike_by_count : AlikeByCount
alike_by_count ms ns kept_ms kept_ns = both_ways (alike_members ms ns && keys_within ns ms) (eqb (members_len ms) (members_len ns) && alike_members ms ns) there back
  where
    first : keep_members ms ≡ ms
    first = object_parts (keep_members ms) ms kept_ms

    there : (alike_members ms ns && keys_within ns ms) ≡ true → (eqb (members_len ms) (members_len ns) && alike_members ms ns) ≡ true
    there h =
        let parts = and_parts (alike_members ms ns) (keys_within ns ms) h in
        let up = no_more ms ns first (keys_alike ms ns parts.0) in
        let down = no_more ns ms (object_parts (keep_members ns) ns kept_ns) parts.1 in
        and_from (eqb (members_len ms) (members_len ns)) (alike_members ms ns) (eq-eqb (members_len ms) (members_len ns) (omega arith)) parts.0

    back : (eqb (members_len ms) (members_len ns) && alike_members ms ns) ≡ true → (alike_members ms ns && keys_within ns ms) ≡ true
    back h =
        let parts = and_parts (eqb (members_len ms) (members_len ns)) (alike_members ms ns) h in
        and_from (alike_members ms ns) (keys_within ns ms) parts.1
        (no_other_key ms ns first (keys_alike ms ns parts.1) (eqb-true (members_len ms) (members_len ns) parts.0))
