-- What lazy values hold: a part of a tape, or a document.
use Rattle.std.specs.Prelude.{Bool, true, false, List, Option, Some, None}
use Rattle.std.specs.Borrow.{Bor}
use Rattle.std.specs.declared.alloc.Global.{Global}
use Rattle.std.specs.declared.borrow.CowStr.{CowStr}
use Rattle.sj_base.specs.declared.decimal.DecimalCow.{DecimalCow}
use Rattle.sj_owned.specs.declared.value.Value.{Value as OwnedValue}
use Rattle.sj_tape.specs.Views.{value_nodes}
use Rattle.sj_tape.specs.declared.value.Value.{Value as TapeValue}
use Rattle.sj_tape.specs.declared.node.Node.{Node}
use Rattle.sj_lazy.specs.declared.held.Held.{Held as HeldOf}
use Rattle.sj_lazy.specs.declared.held.Held.TheVariants.{Borrowed, Owned}
use Rattle.sj_lazy.specs.declared.value.TapeOrDocument.{TapeOrDocument}
use Rattle.sj_lazy.specs.declared.value.TapeOrDocument.TheVariants as lazy

-- a borrowed document
abbrev pub Document : Type 0
Document = OwnedValue (CowStr Global) DecimalCow

-- a document that is held, and a lazy value
abbrev pub Held : Type 0
Held = HeldOf (Bor Document) Document

abbrev pub Value : Type 0
Value = TapeOrDocument TapeValue (Bor Document) Document

-- the document of its own that is held, and that of a lazy value
abbrev pub owned_in : {B D : Type 0} → HeldOf B D → Option D
owned_in (Owned d) = Some d
owned_in _ = None

abbrev pub own_document : {T B D : Type 0} → TapeOrDocument T B D → Option D
own_document (lazy.Value h) = owned_in h
own_document _ = None

-- the nodes of a part of a tape, or a document, whoever owns it
pub data Contents : Type 0 where
  nodes : List Node → Contents
  document : Document → Contents

abbrev pub is_tape : Contents → Bool
is_tape (nodes ns) = true
is_tape (document d) = false

abbrev pub is_document : Contents → Bool
is_document (nodes ns) = false
is_document (document d) = true

abbrev pub held_document : Held → Document
held_document (Borrowed d) = d.now
held_document (Owned d) = d

abbrev pub contents : Value → Contents
contents (lazy.Tape v) = nodes (value_nodes v)
contents (lazy.Value h) = document (held_document h)
