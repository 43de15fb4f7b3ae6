-- What copies and conversions of a document keep beside its tree: the scalars and keys in order, each in its carrier.
use Rattle.std.specs.Prelude.{ℕ, Bool, false, List, [], ◌∷◌}
use Rattle.std.specs.Cow.{cow_str_bytes}
use Rattle.std.specs.List.{flat_map}
use Rattle.std.specs.declared.borrow.CowStr.{CowStr}
use Rattle.sj_base.specs.Copied.{is_borrowed_text}
use Rattle.sj_base.specs.Scalar.{decimal_cow_text, is_borrowed}
use Rattle.sj_base.specs.declared.decimal.DecimalCow.{DecimalCow}
use Rattle.sj_base.specs.declared.static_node.StaticNode.{StaticNode}
use Rattle.sj_owned.specs.declared.value.Value.{Value, fold-Value}
use Rattle.sj_owned.specs.declared.value.Value.TheOpen.{Value-F}

-- a scalar or a key. Strings and keys are of the type T, decimal literals of the type L
pub data Leaf (T L : Type 0) : Type 0 where
  static_leaf : StaticNode → Leaf T L
  decimal_leaf : L → Leaf T L
  text_leaf : T → Leaf T L

-- the leaf with its text or its literal mapped
abbrev pub on_leaf : {T U L M : Type 0} → (T → U) → (L → M) → Leaf T L → Leaf U M
on_leaf text literal (static_leaf n) = static_leaf n
on_leaf text literal (decimal_leaf d) = decimal_leaf (literal d)
on_leaf text literal (text_leaf s) = text_leaf (text s)

module _ {K D T L : Type 0} (text : K → T) (literal : D → L) where
  abbrev pub leaves_step : Value-F K D (List (Leaf T L)) → List (Leaf T L)
  leaves_step (Value-F.Static n) = static_leaf n ∷ []
  leaves_step (Value-F.Decimal d) = decimal_leaf (literal d) ∷ []
  leaves_step (Value-F.String s) = text_leaf (text s) ∷ []
  leaves_step (Value-F.Array v) = flat_map (λ ls. ls) v.items
  leaves_step (Value-F.Object es) = flat_map (λ e. text_leaf (text e.key) ∷ e.value) es

  -- the scalars and keys of a document in order, a key before those of its value
  abbrev pub leaves : Value K D → List (Leaf T L)
  leaves = fold-Value K D (List (Leaf T L)) leaves_step

-- a text or a literal, and whether it is borrowed
abbrev pub held_text : {Z : Type 0} → CowStr Z → Bool × List ℕ
held_text s = (is_borrowed_text s, cow_str_bytes s)

abbrev pub held_literal : DecimalCow → Bool × List ℕ
held_literal d = (is_borrowed d, decimal_cow_text d)

-- an owned text, and what a text or a literal is after it was made owned
abbrev pub owned_text : List ℕ → Bool × List ℕ
owned_text s = (false, s)

abbrev pub made_owned : Bool × List ℕ → Bool × List ℕ
made_owned c = owned_text c.1
