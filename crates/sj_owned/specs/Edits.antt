-- Documents and trees after an edit of one part.
use Rattle.std.specs.Prelude.{◌-◌, ℕ, List, Option, Some, None, option_map, slice_get, take, length}
use Rattle.sj_base.specs.Containers.{items_in, members_in}
use Rattle.sj_base.specs.Edit.{put_member, drop_member, push_item, pop_item}
use Rattle.sj_base.specs.Tree.{Tree, list, object}
use Rattle.sj_base.specs.declared.fault.AccessError.{AccessError}
use Rattle.sj_base.specs.declared.fault.AccessError.TheVariants.{Memory}

-- the tree with a member put, or with one dropped, if it is an object
abbrev pub with_member : Tree → List ℕ → Tree → Option Tree
with_member t k u = option_map (λ ms. object (put_member ms k u)) (members_in t)

abbrev pub without_member : Tree → List ℕ → Option Tree
without_member t k = option_map (λ ms. object (drop_member ms k)) (members_in t)

-- the tree with one more item, or without its last one, if it is a list
abbrev pub with_item : Tree → Tree → Option Tree
with_item t u = option_map (λ ts. list (push_item ts u)) (items_in t)

abbrev pub without_last : Tree → Option Tree
without_last t = option_map (λ ts. list (pop_item ts)) (items_in t)

-- why an edit was refused: the document is no such container, or there was no memory
abbrev pub refusal : {A : Type 0} → AccessError → Option A → AccessError
refusal other (Some x) = Memory
refusal other None = other

-- the last one, and those before it
abbrev pub last_of : {A : Type 0} → List A → Option A
last_of vs = slice_get vs (length vs - 1)

abbrev pub before_last : {A : Type 0} → List A → List A
before_last vs = take (length vs - 1) vs
