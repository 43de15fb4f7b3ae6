-- Members that are added one by one are those that `keep_members` keeps.
use Rattle.std.proofs.Common.{◌≡◌, ℕ, Bool, true, false, cond, ◌||◌, List, Option, Some, is_some, refl, sym, ap, ◌∙◌}
use Rattle.std.proofs.lemmas.Slice.Eq.{bytes_eq-Decides}
use Rattle.std.specs.Cmp.Lexicographic.{nat_list_eq_equiv}
use Rattle.std.specs.Str.{bytes_eq}
use Rattle.sj_base.specs.Tree.{Tree, Members, no_members, member}
use Rattle.sj_base.specs.Path.{member_at}
use Rattle.sj_base.specs.Keep.{keep, keep_members, without}
use Rattle.sj_build.specs.inside.Kept.{has_key, with_last, add_member, gathered}

-- the members with what is kept of each value
abbrev pub kept_each : Members → Members
kept_each no_members = no_members
kept_each (member k t ms) = member k (keep t) (kept_each ms)

-- one list of members behind another
abbrev joined : Members → Members → Members
joined no_members ms = ms
joined (member k t ks) ms = member k t (joined ks ms)

-- the members whose keys ks does not have
abbrev beside : Members → Members → Members
beside ks no_members = no_members
beside ks (member k t ms) = cond (has_key ks k) (beside ks ms) (member k t (beside ks ms))

joined-no_members : (ks : Members) → joined ks no_members ≡ ks
joined-no_members no_members = refl
joined-no_members (member k t ks) = ap (member k t) (joined-no_members ks)

joined-with_last : (ks : Members) (k : List ℕ) (t : Tree) (ms : Members) → joined (with_last ks k t) ms ≡ joined ks (member k t ms)
joined-with_last no_members k t ms = refl
joined-with_last (member n u ks) k t ms = ap (member n u) (joined-with_last ks k t ms)

beside-no_members : (ms : Members) → beside no_members ms ≡ ms
beside-no_members no_members = refl
beside-no_members (member k t ms) = ap (member k t) (beside-no_members ms)

or_assoc : (a b c : Bool) → (a || (b || c)) ≡ ((a || b) || c)
or_assoc true b c = refl
or_assoc false b c = refl

or-false : (b : Bool) → (b || false) ≡ (false || b)
or-false true = refl
or-false false = refl

found_first : (b : Bool) (u : Tree) (o : Option Tree) → is_some (cond b (Some u) o) ≡ (b || is_some o)
found_first true u o = refl
found_first false u o = refl

has_key-member : (n : List ℕ) (u : Tree) (ms : Members) (k : List ℕ) → has_key (member n u ms) k ≡ (bytes_eq n k || has_key ms k)
has_key-member n u ms k = found_first (bytes_eq n k) u (member_at ms k)

pub has_key-with_last : (ks : Members) (k : List ℕ) (t : Tree) (n : List ℕ) → has_key (with_last ks k t) n ≡ (has_key ks n || bytes_eq k n)
has_key-with_last no_members k t n = has_key-member k t no_members n ∙ or-false (bytes_eq k n)
has_key-with_last (member m u ks) k t n =
    has_key-member m u (with_last ks k t) n
    ∙ ap (λ b. bytes_eq m n || b) (has_key-with_last ks k t n)
    ∙ or_assoc (bytes_eq m n) (has_key ks n) (bytes_eq k n)
    ∙ ap (λ b. b || bytes_eq k n) (sym (has_key-member m u ks n))

beside-without_at : (ks : Members) (k : List ℕ) → has_key ks k ≡ true → (n : List ℕ) (u : Tree) (ms : Members) → beside ks (without k ms) ≡ beside ks ms → (b : Bool) → bytes_eq n k ≡ b
    → beside ks (cond b (without k ms) (member n u (without k ms))) ≡ beside ks (member n u ms)
beside-without_at ks k had n u ms ind true same =
    ind ∙ sym (ap (λ b. cond b (beside ks ms) (member n u (beside ks ms))) (ap (has_key ks) ((bytes_eq-Decides n k).0 same) ∙ had))
beside-without_at ks k had n u ms ind false other = ap (λ r. cond (has_key ks n) r (member n u r)) ind

-- a key that ks has need not be taken out before
beside-without : (ks : Members) (k : List ℕ) → has_key ks k ≡ true → (ms : Members) → beside ks (without k ms) ≡ beside ks ms
beside-without ks k had no_members = refl
beside-without ks k had (member n u ms) = beside-without_at ks k had n u ms (beside-without ks k had ms) (bytes_eq n k) refl

one_of_two : (h b : Bool) (n : List ℕ) (u : Tree) (ms : Members) → cond (h || b) ms (member n u ms) ≡ cond b ms (cond h ms (member n u ms))
one_of_two true true n u ms = refl
one_of_two true false n u ms = refl
one_of_two false true n u ms = refl
one_of_two false false n u ms = refl

beside-cond : (ks : Members) (b : Bool) (n : List ℕ) (u : Tree) (ms : Members)
    → cond b (beside ks ms) (cond (has_key ks n) (beside ks ms) (member n u (beside ks ms))) ≡ beside ks (cond b ms (member n u ms))
beside-cond ks true n u ms = refl
beside-cond ks false n u ms = refl

-- one more key
beside-with_last : (ks : Members) (k : List ℕ) (t : Tree) (ms : Members) → beside (with_last ks k t) ms ≡ beside ks (without k ms)
beside-with_last ks k t no_members = refl
beside-with_last ks k t (member n u ms) =
    ap (λ b. cond b (beside (with_last ks k t) ms) (member n u (beside (with_last ks k t) ms))) (has_key-with_last ks k t n ∙ ap (λ b. has_key ks n || b) (nat_list_eq_equiv.symm k n))
    ∙ ap (λ r. cond (has_key ks n || bytes_eq n k) r (member n u r)) (beside-with_last ks k t ms)
    ∙ one_of_two (has_key ks n) (bytes_eq n k) n u (beside ks (without k ms))
    ∙ beside-cond ks (bytes_eq n k) n u (without k ms)

joined-added : (ks : Members) (k : List ℕ) (t : Tree) (ms : Members) (b : Bool) → has_key ks k ≡ b
    → joined (cond b ks (with_last ks k t)) (beside (cond b ks (with_last ks k t)) ms) ≡ joined ks (cond b (beside ks (without k ms)) (member k t (beside ks (without k ms))))
joined-added ks k t ms true had = ap (joined ks) (sym (beside-without ks k had ms))
joined-added ks k t ms false new = joined-with_last ks k t (beside (with_last ks k t) ms) ∙ ap (λ r. joined ks (member k t r)) (beside-with_last ks k t ms)

gathered-joined : (ks ms : Members) → gathered ks (kept_each ms) ≡ joined ks (beside ks (keep_members ms))
gathered-joined ks no_members = sym (joined-no_members ks)
gathered-joined ks (member k t ms) =
    gathered-joined (add_member ks k (keep t)) ms ∙ joined-added ks k (keep t) (keep_members ms) (has_key ks k) refl

pub gathered_keeps : (ms : Members) → gathered no_members (kept_each ms) ≡ keep_members ms
gathered_keeps ms = gathered-joined no_members ms ∙ beside-no_members (keep_members ms)
