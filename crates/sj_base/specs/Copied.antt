-- What a copy of a text keeps.
use Rattle.std.specs.Prelude.{Bool, true, false}
use Rattle.std.specs.declared.borrow.CowStr.{CowStr}
use Rattle.std.specs.declared.borrow.CowStr.TheVariants.{Borrowed, Owned}

abbrev pub is_borrowed_text : {Z : Type 0} → CowStr Z → Bool
is_borrowed_text (Borrowed s) = true
is_borrowed_text (Owned s) = false
