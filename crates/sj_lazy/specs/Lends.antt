-- What a lazy value is once a write through a reference to its document has ended.
use Rattle.std.specs.Prelude.{Option, Result}
use Rattle.std.specs.Borrow.{LendsIf, LendsIfOk, Fml, RattleType, MutBor}
use Rattle.sj_lazy.specs.contracts.held.Held as held
use Rattle.sj_lazy.specs.contracts.value.TapeOrDocument.{the_row}
use Rattle.sj_lazy.specs.declared.held.Held.{Held}
use Rattle.sj_lazy.specs.declared.held.Held.TheVariants.{Owned}
use Rattle.sj_lazy.specs.declared.value.TapeOrDocument.{TapeOrDocument}
use Rattle.sj_lazy.specs.declared.value.TapeOrDocument.TheVariants as lazy

module _ (B D : RattleType) (v : MutBor (Held B.Denot D.Denot)) where
  -- what is held is the document that r leaves, or without a reference what it was
  abbrev pub lends_owned : Option (MutBor D.Denot) → Fml
  lends_owned r = LendsIf (held.the_row B D) D v r Owned v.now

module _ (T B D : RattleType) (v : MutBor (TapeOrDocument T.Denot B.Denot D.Denot)) where
  -- the same of a lazy value
  abbrev pub lends_own_document : Option (MutBor D.Denot) → Fml
  lends_own_document r = LendsIf (the_row T B D) D v r (λ d. lazy.Value (Owned d)) v.now

  -- the value is the document that r leaves, and after a refusal what it was
  abbrev pub lends_document : {E : Type 0} → Result (MutBor D.Denot) E → Fml
  lends_document r = LendsIfOk (the_row T B D) D v r (λ d. lazy.Value (Owned d)) v.now
