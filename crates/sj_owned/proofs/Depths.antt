-- Documents whose objects repeat no key, part by part.
use Rattle.std.proofs.Common.{◌≡◌, ℕ, List, ◌∷◌, ap₂, ◌∙◌}
use Rattle.sj_base.specs.Keep.{keep, IsKept}
use Rattle.sj_base.specs.Tree.{member}
use Rattle.sj_object.specs.Pairs.{keys_of, AreDistinct}
use Rattle.sj_object.specs.declared.entry.Entry.{Entry}
use Rattle.sj_owned.proofs.Comparing.{named, keep_members-named}
use Rattle.sj_owned.specs.Views.{value_tree, members_view}
use Rattle.sj_owned.specs.declared.value.Value.{Value}
use Rattle.sj_owned.specs.inside.Depths.{KeepMembers}

module _ {K D : Type 0} (text : K → List ℕ) (literal : D → List ℕ) where
  -- each value is kept
  abbrev pub KeepEach : List (Entry K (Value K D)) → Type 0
  KeepEach es = named text (λ d. keep (value_tree text literal d)) es ≡ members_view text literal es

  pub one_member_more : (e : Entry K (Value K D)) (es : List (Entry K (Value K D))) → IsKept (value_tree text literal e.value) → KeepEach es → KeepEach (e ∷ es)
  one_member_more e es first rest = ap₂ (member (text e.key)) first rest

  pub distinct_kept : (es : List (Entry K (Value K D))) → AreDistinct (keys_of text es) → KeepEach es → KeepMembers text literal es
  distinct_kept es distinct each = keep_members-named text (value_tree text literal) es distinct ∙ each
