-- What a write that was not refused has done.
use Rattle.std.proofs.Common.{◌≡◌, ℕ, Bool, true, false, List, Option, Some, None, Result, Ok, Err, refl, ap}
use Rattle.std.specs.Prelude.{ok_or, codes}
use Rattle.std.proofs.lemmas.Option.{none-some, same_Some}
use Rattle.sj_base.specs.Tree.{Tree, null, boolean, integer, decimal, string, list, object, Items, Members}
use Rattle.sj_base.specs.Path.{Part, member_at, at, put}
use Rattle.sj_base.specs.Containers.{items_in, members_in}
use Rattle.sj_base.specs.Edit.{put_member, drop_member, push_item, last_item, pop_item}
use Rattle.sj_scripts.specs.Command.{◌>>=◌}
use Rattle.sj_documents.specs.Step.{Rewrite, if_fits, part_at, reply_of, insertion, removal, pushing, popping, write_at}

pub same_ok : {A F : Type 0} (x y : A) (r s : Result A F) → r ≡ Ok x → s ≡ Ok y → r ≡ s → x ≡ y
same_ok x y r s f g e = cc

pub bind_ok : {A B F : Type 0} (r : Result A F) (f : A → Result B F) (y : B) → (r >>= f) ≡ Ok y → (x : A) × (r ≡ Ok x) × (f x ≡ Ok y)
bind_ok (Ok x) f y e = (x, refl, e)
bind_ok (Err w) f y e = absurd cc

pub there : {A F : Type 0} (o : Option A) (w : F) (x : A) → ok_or o w ≡ Ok x → o ≡ Some x
there (Some y) w x e = cc
there None w x e = absurd cc

pub within : {A : Type 0} (test : Bool) (x y : A) → if_fits test x ≡ Ok y → (test ≡ true) × (x ≡ y)
within true x y e = (refl, cc)
within false x y e = absurd cc

-- the tree of its members, and of its items
pub an_object : (t : Tree) (ms : Members) → members_in t ≡ Some ms → t ≡ object ms
an_object (object ns) ms e = ap object (same_Some ns ms e)
an_object null ms e = absurd (none-some ms e)
an_object (boolean b) ms e = absurd (none-some ms e)
an_object (integer n) ms e = absurd (none-some ms e)
an_object (decimal literal) ms e = absurd (none-some ms e)
an_object (string s) ms e = absurd (none-some ms e)
an_object (list ts) ms e = absurd (none-some ms e)

pub a_list : (t : Tree) (ts : Items) → items_in t ≡ Some ts → t ≡ list ts
a_list (list us) ts e = ap list (same_Some us ts e)
a_list null ts e = absurd (none-some ts e)
a_list (boolean b) ts e = absurd (none-some ts e)
a_list (integer n) ts e = absurd (none-some ts e)
a_list (decimal literal) ts e = absurd (none-some ts e)
a_list (string s) ts e = absurd (none-some ts e)
a_list (object ms) ts e = absurd (none-some ts e)

pub inserted : (test : Bool) (k : List ℕ) (v part : Tree) (w : Tree × Tree) → insertion test k v part ≡ Ok w
    → (ms : Members) × (part ≡ object ms) × (test ≡ true) × ((reply_of (member_at ms k), object (put_member ms k v)) ≡ w)
inserted test k v part w e =
    let inside = bind_ok (ok_or (members_in part) (codes "NotAnObject")) _ w e in
    let fit = within test _ w inside.2 in
    (inside.0, an_object part inside.0 (there (members_in part) _ inside.0 inside.1), fit.0, fit.1)

pub removed : (k : List ℕ) (part : Tree) (w : Tree × Tree) → removal k part ≡ Ok w → (ms : Members) × (part ≡ object ms) × ((reply_of (member_at ms k), object (drop_member ms k)) ≡ w)
removed k part w e =
    let inside = bind_ok (ok_or (members_in part) (codes "NotAnObject")) _ w e in
    (inside.0, an_object part inside.0 (there (members_in part) _ inside.0 inside.1), same_ok _ w _ _ refl refl inside.2)

pub pushed : (test : Bool) (v part : Tree) (w : Tree × Tree) → pushing test v part ≡ Ok w → (ts : Items) × (part ≡ list ts) × (test ≡ true) × ((reply_of None, list (push_item ts v)) ≡ w)
pushed test v part w e =
    let inside = bind_ok (ok_or (items_in part) (codes "NotAnArray")) _ w e in
    let fit = within test _ w inside.2 in
    (inside.0, a_list part inside.0 (there (items_in part) _ inside.0 inside.1), fit.0, fit.1)

pub popped : (part : Tree) (w : Tree × Tree) → popping part ≡ Ok w → (ts : Items) × (part ≡ list ts) × ((reply_of (last_item ts), list (pop_item ts)) ≡ w)
popped part w e =
    let inside = bind_ok (ok_or (items_in part) (codes "NotAnArray")) _ w e in
    (inside.0, a_list part inside.0 (there (items_in part) _ inside.0 inside.1), same_ok _ w _ _ refl refl inside.2)

-- the whole tree after a write
pub write_done : (t : Tree) (path : List Part) (change : Rewrite) (w : Tree × Tree) → write_at t path change ≡ Ok w
    → (part : Tree) × (at t path ≡ Some part) × (n : Tree × Tree) × (change part ≡ Ok n) × ((n.0, put t path n.1) ≡ w)
write_done t path change w e =
    let found = bind_ok (part_at t path) _ w e in
    let done = bind_ok (change found.0) _ w found.2 in
    (found.0, there (at t path) _ found.0 found.1, done.0, done.1, same_ok _ w _ _ refl refl done.2)
