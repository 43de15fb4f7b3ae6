-- The stack of a document that is built, as parts are pushed and taken.
use Rattle.std.proofs.Common.{◌≡◌, ℕ, zero, suc, ◌-◌, ◌<◌, List, [], ◌∷◌, ◌++◌, drop, length, refl, sym, ap, ◌∙◌, arith}
use Rattle.sj_base.specs.Tree.{Tree, Items, no_items, item, Members}
use Rattle.sj_build.specs.Trees.{items_of}
use Rattle.sj_build.specs.inside.Building.{Shown, shown_tree, first_part, items_from, add_pair, add_pairs, drop_pairs}

pub nothing : {A : Type 0} (xs : List A) → length xs ≡ 0 → xs ≡ []
nothing [] none = refl
nothing (x ∷ xs) none = absurd (omega (arith, none))

pub one_fewer : (n : ℕ) → 0 < n → n ≡ suc (n - 1)
one_fewer n some = omega arith

-- these values, and then the items
abbrev pub after : List Tree → Items → Items
after [] ts = ts
after (x ∷ xs) ts = item x (after xs ts)

after-none : (xs : List Tree) → after xs no_items ≡ items_of xs
after-none [] = refl
after-none (x ∷ xs) = ap (item x) (after-none xs)

after-last : (xs : List Tree) (x : Tree) (ts : Items) → after (xs ++ x ∷ []) ts ≡ after xs (item x ts)
after-last [] x ts = refl
after-last (y ∷ xs) x ts = ap (item y) (after-last xs x ts)

-- all items are taken
pub all_taken : (xs : List Tree) (n : ℕ) (ps : List Shown) → n ≡ 0 → items_of xs ≡ after xs (items_from n ps)
all_taken xs n ps none = sym (after-none xs) ∙ ap (λ m. after xs (items_from m ps)) (sym none)

-- one item is taken, and then the others
pub item_then : (xs : List Tree) (n m : ℕ) (ps : List Shown) → n ≡ suc m → after (xs ++ shown_tree (first_part ps) ∷ []) (items_from m (drop 1 ps)) ≡ after xs (items_from n ps)
item_then xs n m ps is = after-last xs (shown_tree (first_part ps)) (items_from m (drop 1 ps)) ∙ ap (λ k. after xs (items_from k ps)) (sym is)

drop_more : (n : ℕ) (ps : List Shown) → drop n (drop 1 ps) ≡ drop (suc n) ps
drop_more zero [] = refl
drop_more (suc n) [] = refl
drop_more n (p ∷ ps) = refl

pub drop_then : (n m : ℕ) (ps : List Shown) → n ≡ suc m → drop m (drop 1 ps) ≡ drop n ps
drop_then n m ps is = drop_more m ps ∙ ap (λ k. drop k ps) (sym is)

-- one member is taken, and then the others
pub member_then : (ms : Members) (n m : ℕ) (ps : List Shown) → n ≡ suc m → add_pairs m (add_pair ms ps) (drop_pairs 1 ps) ≡ add_pairs n ms ps
member_then ms n m ps is = ap (λ k. add_pairs k ms ps) (sym is)

pub pairs_then : (n m : ℕ) (ps : List Shown) → n ≡ suc m → drop_pairs m (drop_pairs 1 ps) ≡ drop_pairs n ps
pairs_then n m ps is = ap (λ k. drop_pairs k ps) (sym is)
