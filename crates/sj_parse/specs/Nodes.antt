-- The nodes of a text: each token that is none of `]`, `}`, `:` and `,` makes one, in order.
use Rattle.std.specs.Prelude.{◌≡◌, ◌≢◌, Bool, not, ◌||◌, ◌==◌, List, filter, ⊤}
use Rattle.std.specs.List.{AllZip}
use Rattle.sj_base.specs.declared.static_node.StaticNode.TheVariants.{Null, Bool as Boolean, I64, U64}
use Rattle.sj_tape.specs.declared.node.Node.{Node}
use Rattle.sj_tape.specs.declared.node.Node.TheVariants.{String, Object, Array, Static, Decimal}
use Rattle.sj_parse.specs.Token.{Token}

abbrev pub makes_node : Token → Bool
makes_node t = not (t.byte == 0x5d || t.byte == 0x7d || t.byte == 0x3a || t.byte == 0x2c)

-- An integer is an `I64` exactly where its token begins with a minus. What else a node is, its entry in the listing says.
abbrev pub HasCarrier : Token → Node → Type 0
HasCarrier t (Static (I64 n)) = t.byte ≡ 0x2d
HasCarrier t (Static (U64 n)) = t.byte ≢ 0x2d
HasCarrier t (Static Null) = ⊤
HasCarrier t (Static (Boolean b)) = ⊤
HasCarrier t (String s) = ⊤
HasCarrier t (Object len count) = ⊤
HasCarrier t (Array len count) = ⊤
HasCarrier t (Decimal d) = ⊤

abbrev pub HaveCarriers : List Token → List Node → Type 0
HaveCarriers ts nodes = AllZip HasCarrier (filter makes_node ts) nodes
