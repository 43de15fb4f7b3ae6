-- What write calls make of a lazy value before they write.
use Rattle.std.specs.Borrow.{Bor}
use Rattle.std.specs.Prelude.{◌≡◌, ◌⊎◌, Bool, true, false}
use Rattle.sj_base.specs.Keep.{keep}
use Rattle.sj_base.specs.Tree.{Tree}
use Rattle.sj_base.specs.declared.fault.AccessError.{AccessError}
use Rattle.sj_base.specs.declared.fault.AccessError.TheVariants.{Memory}
use Rattle.sj_owned.specs.Copies.{leaves, held_text, held_literal}
use Rattle.sj_lazy.specs.Contents.{Document, Value}
use Rattle.sj_lazy.specs.Views.{document_tree, lazy_tree}
use Rattle.sj_lazy.specs.declared.held.Held.TheVariants.{Borrowed, Owned}
use Rattle.sj_lazy.specs.declared.value.TapeOrDocument.{TapeOrDocument}
use Rattle.sj_lazy.specs.declared.value.TapeOrDocument.TheVariants as lazy
use Rattle.sj_tape.specs.Views.{value_nodes, nodes_tree}
use Rattle.sj_tape.specs.declared.value.Value.{Value as TapeValue}

-- the value has a document of its own
abbrev pub owns : {T B D : Type 0} → TapeOrDocument T B D → Bool
owns (lazy.Value (Owned d)) = true
owns _ = false

-- the value has a document of another value
abbrev pub borrows : Value → Bool
borrows (lazy.Value (Borrowed d)) = true
borrows _ = false

-- the value has a document of its own, of which P holds
abbrev pub OwnsSuch : {T B D : Type 0} → (D → Type 0) → TapeOrDocument T B D → Type 0
OwnsSuch P (lazy.Value (Owned d)) = P d
OwnsSuch P _ = ⊥

-- the tree after an upgrade: what is kept of a tape's tree. A document repeats no key, so its tree stays as it is
abbrev pub upgraded : Value → Tree
upgraded (lazy.Tape v) = keep (lazy_tree (lazy.Tape v))
upgraded (lazy.Value h) = lazy_tree (lazy.Value h)

-- a document that is built of a tape's value, and one that is copied of another
abbrev pub built_of : TapeValue → Document → Type 0
built_of v d = document_tree d ≡ keep (nodes_tree (value_nodes v))

abbrev pub copied_of : Bor Document → Document → Type 0
copied_of e d = (document_tree d ≡ document_tree e.now) × (leaves held_text held_literal d ≡ leaves held_text held_literal e.now)

-- What an upgrade makes of the value: a document of its tape, or of the document that it borrows. An owned one stays.
abbrev pub UpgradesBy : {T B D : Type 0} → (T → D → Type 0) → (B → D → Type 0) → TapeOrDocument T B D → D → Type 0
UpgradesBy of_tape of_borrowed (lazy.Tape v) d = of_tape v d
UpgradesBy of_tape of_borrowed (lazy.Value (Borrowed e)) d = of_borrowed e d
UpgradesBy of_tape of_borrowed (lazy.Value (Owned e)) d = d ≡ e

abbrev pub Upgrades : Value → Document → Type 0
Upgrades = UpgradesBy built_of copied_of

-- What a write call leaves that is not refused: the value is made a document e first, and then has a document d of its own, and P
-- holds of both.
abbrev pub WritesBy : (Document → Document → Type 0) → Value → Value → Type 0
WritesBy P old new = (e : Document) × Upgrades old e × OwnsSuch (P e) new

-- the value has a document of its own with the tree of the upgrade
abbrev pub IsUpgraded : Value → Value → Type 0
IsUpgraded old new = OwnsSuch (λ d. document_tree d ≡ upgraded old) new

-- A write call was refused: there was no memory for the upgrade, and nothing has changed, or the upgrade was made, and
-- then came an error of which P holds.
abbrev pub Refuses : (AccessError → Type 0) → Value → Value → AccessError → Type 0
Refuses P old new e = ((owns old ≡ false) × (e ≡ Memory) × (new ≡ old)) ⊎ (P e × IsUpgraded old new)

-- What a value is that borrows no document: a tape as it was, or an upgraded document.
abbrev pub IsOwnedOf : Value → Value → Type 0
IsOwnedOf (lazy.Tape v) new = new ≡ lazy.Tape v
IsOwnedOf (lazy.Value h) new = OwnsSuch (Upgrades (lazy.Value h)) new
