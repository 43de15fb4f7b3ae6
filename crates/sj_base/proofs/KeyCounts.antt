-- How many members there are, if one list of members has every key of another.
use Rattle.std.proofs.Common.{◌≡◌, ◌&&◌, ℕ, suc, ◌≤◌, Bool, true, false, cond, List, Option, Some, None, is_some, refl, ap, ◌∙◌, sym, arith}
use Rattle.std.specs.Str.{bytes_eq}
use Rattle.std.proofs.lemmas.Bool.{cond_both, cond-true, cond-false, and_parts, and_from}
use Rattle.std.proofs.lemmas.Option.{none-some}
use Rattle.sj_base.specs.Tree.{Tree, Members, no_members, member}
use Rattle.sj_base.specs.Keep.{keep_members}
use Rattle.sj_base.specs.Path.{member_at}
use Rattle.sj_base.specs.Containers.{members_len}
use Rattle.sj_base.specs.Edit.{drop_member}
use Rattle.sj_base.specs.Alike.{keys_within}
use Rattle.sj_base.proofs.Keys.{same_key, key_flip, found_nowhere, some_is}
use Rattle.sj_base.proofs.Kept.{kept_member}

-- If a key is found, dropping it leaves one member less.
one_less : (ms : Members) (k : List ℕ) (u : Tree) → member_at ms k ≡ Some u → members_len ms ≡ suc (members_len (drop_member ms k))
one_less no_members k u found = absurd (none-some u found)
one_less (member n t ms) k u found =
    cond_both (bytes_eq n k) ms (member n t (drop_member ms k)) (λ ns. suc (members_len ms) ≡ suc (members_len ns))
    (λ _. refl) (λ e. ap suc (one_less ms k u (sym (cond-false (bytes_eq n k) (Some t) (member_at ms k) e) ∙ found)))

-- Each other key is still found.
still_found : (n k : List ℕ) (ms : Members) → bytes_eq n k ≡ false → member_at (drop_member ms k) n ≡ member_at ms n
still_found n k no_members other = refl
still_found n k (member m t ms) other =
    let more = drop_member ms k in
    cond_both (bytes_eq m k) ms (member m t more) (λ ns. member_at ns n ≡ cond (bytes_eq m n) (Some t) (member_at ms n))
    (λ e. sym (cond-false (bytes_eq m n) (Some t) (member_at ms n) (ap (λ j. bytes_eq j n) (same_key m k e) ∙ key_flip n k false other)))
    (λ _. ap (cond (bytes_eq m n) (Some t)) (still_found n k ms other))

-- A key that isn't used isn't missed.
within_dropped : (ms ns : Members) (k : List ℕ) → keys_within ms ns ≡ true → member_at ms k ≡ None → keys_within ms (drop_member ns k) ≡ true
within_dropped no_members ns k within none = refl
within_dropped (member n t ms) ns k within none =
    let parts = and_parts (is_some (member_at ns n)) (keys_within ms ns) within in
    let absent = found_nowhere (bytes_eq n k) t (member_at ms k) none in
    and_from (is_some (member_at (drop_member ns k) n)) (keys_within ms (drop_member ns k))
    (ap is_some (still_found n k ns absent.0) ∙ parts.0) (within_dropped ms ns k parts.1 absent.1)

-- Kept members are no more than those that have all their keys.
pub no_more : (ms ns : Members) → keep_members ms ≡ ms → keys_within ms ns ≡ true → members_len ms ≤ members_len ns
no_more no_members ns kept within = omega arith
no_more (member k t ms) ns kept within =
    let parts = and_parts (is_some (member_at ns k)) (keys_within ms ns) within in
    let there = some_is (member_at ns k) parts.0 in
    let kept_parts = kept_member k t ms kept in
    let less = one_less ns k there.0 there.1 in
    let rest = no_more ms (drop_member ns k) kept_parts.2 (within_dropped ms ns k parts.1 kept_parts.1) in
    omega arith

-- Something is still found if one more is looked at first.
found_still : (test : Bool) (t : Tree) (o : Option Tree) → is_some o ≡ true → is_some (cond test (Some t) o) ≡ true
found_still true t o found = refl
found_still false t o found = found

-- One more member hides no key.
within_more : (k : List ℕ) (t : Tree) (ns ms : Members) → keys_within ns ms ≡ true → keys_within ns (member k t ms) ≡ true
within_more k t no_members ms within = refl
within_more k t (member n u ns) ms within =
    let parts = and_parts (is_some (member_at ms n)) (keys_within ns ms) within in
    and_from (is_some (cond (bytes_eq k n) (Some t) (member_at ms n))) (keys_within ns (member k t ms))
    (found_still (bytes_eq k n) t (member_at ms n) parts.0) (within_more k t ns ms parts.1)

-- Keys that are within others but for one key are within those and that key.
within_put_back : (k : List ℕ) (t : Tree) (ns ms : Members) → keys_within (drop_member ns k) ms ≡ true → keys_within ns (member k t ms) ≡ true
within_put_back k t no_members ms within = refl
within_put_back k t (member n u ns) ms within =
    let here = is_some (cond (bytes_eq k n) (Some t) (member_at ms n)) in
    let more = keys_within ns (member k t ms) in
    cond_both (bytes_eq n k) ns (member n u (drop_member ns k)) (λ xs. keys_within xs ms ≡ true → (here && more) ≡ true)
    (λ e rest. and_from here more (ap is_some (cond-true (bytes_eq k n) (Some t) (member_at ms n) (key_flip n k true e))) (within_more k t ns ms rest))
    (λ _ both. let parts = and_parts (is_some (member_at ms n)) (keys_within (drop_member ns k) ms) both in
    and_from here more (found_still (bytes_eq k n) t (member_at ms n) parts.0) (within_put_back k t ns ms parts.1))
    within

-- If there are equally many members, the others have no other key.
pub no_other_key : (ms ns : Members) → keep_members ms ≡ ms → keys_within ms ns ≡ true → members_len ms ≡ members_len ns → keys_within ns ms ≡ true
no_other_key no_members no_members kept within count = refl
no_other_key no_members (member k t ns) kept within count = absurd (omega arith)
no_other_key (member k t ms) ns kept within count =
    let parts = and_parts (is_some (member_at ns k)) (keys_within ms ns) within in
    let there = some_is (member_at ns k) parts.0 in
    let kept_parts = kept_member k t ms kept in
    let less = one_less ns k there.0 there.1 in
    let rest : members_len ms ≡ members_len (drop_member ns k) = omega arith in
    within_put_back k t ns ms (no_other_key ms (drop_member ns k) kept_parts.2 (within_dropped ms ns k parts.1 kept_parts.1) rest)
