-- Items and members whose objects repeat no key.
use Rattle.std.specs.Prelude.{◌≡◌, ℕ, List}
use Rattle.sj_base.specs.Keep.{keep_items, keep_members}
use Rattle.sj_object.specs.declared.entry.Entry.{Entry}
use Rattle.sj_owned.specs.Views.{items_view, members_view}
use Rattle.sj_owned.specs.declared.value.Value.{Value}

module _ {K D : Type 0} (text : K → List ℕ) (literal : D → List ℕ) where
  abbrev pub KeepItems : List (Value K D) → Type 0
  KeepItems vs = keep_items (items_view text literal vs) ≡ items_view text literal vs

  abbrev pub KeepMembers : List (Entry K (Value K D)) → Type 0
  KeepMembers es = keep_members (members_view text literal es) ≡ members_view text literal es
