-- The node of a number, and what is known of its text.
use Rattle.std.specs.Prelude.{◌≡◌, ℕ, true, false, List, pos}
use Rattle.sj_base.specs.Scalar.{decimal_text}
use Rattle.sj_base.specs.declared.static_node.StaticNode.TheVariants.{Null, Bool as Boolean, I64, U64}
use Rattle.sj_tape.specs.declared.node.Node.{Node}
use Rattle.sj_tape.specs.declared.node.Node.TheVariants.{String, Object, Array, Static, Decimal}
use Rattle.sj_base.specs.NumberTests.{is_negative, magnitude, is_whole, is_integer, integer_value, is_decimal}
use Rattle.sj_parse.specs.declared.numbers.Shape.{Shape}
use Rattle.sj_parse.specs.declared.numbers.Shape.TheVariants.{Whole, Decimal as DecimalLiteral}

-- An integer is an `I64` exactly where it begins with a minus.
abbrev pub IsNumberNode : List ℕ → Node → Type 0
IsNumberNode text (Static (I64 n)) = (is_negative text ≡ true) × (is_integer text ≡ true) × (n ≡ integer_value text)
IsNumberNode text (Static (U64 n)) = (is_negative text ≡ false) × (is_integer text ≡ true) × (pos n ≡ integer_value text)
IsNumberNode text (Static Null) = ⊥
IsNumberNode text (Static (Boolean b)) = ⊥
IsNumberNode text (Decimal d) = (is_integer text ≡ false) × (is_decimal text ≡ true) × (decimal_text d ≡ text)
IsNumberNode text (String s) = ⊥
IsNumberNode text (Object len count) = ⊥
IsNumberNode text (Array len count) = ⊥

-- What is known of a number.
abbrev pub HasShape : List ℕ → Shape → Type 0
HasShape text Whole = is_whole (magnitude text) ≡ true
HasShape text DecimalLiteral = is_decimal text ≡ true
