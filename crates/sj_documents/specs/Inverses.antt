-- What the inverses of writes stand for, and what the write calls of a document leave.
use Rattle.std.specs.Prelude.{◌≡◌, ◌⊎◌, ℕ, Bool, List, [], ◌++◌, Option, Some, None, is_some, Result, Ok, Err, IsErr}
use Rattle.std.specs.Option.{unwrap_or}
use Rattle.std.specs.String.{string_bytes}
use Rattle.sj_base.specs.Tree.{Tree}
use Rattle.sj_base.specs.Path.{Part}
use Rattle.sj_base.specs.Text.{text}
use Rattle.sj_documents.specs.declared.inverse.Inverse.{Inverse}
use Rattle.sj_documents.specs.declared.inverse.Undo.{Undo}
use Rattle.sj_documents.specs.declared.inverse.Undo.TheVariants.{Possible, Impossible}
use Rattle.sj_documents.specs.declared.inverse.Change.{Change as OwnedChange}
use Rattle.sj_documents.specs.declared.inverse.Change.TheVariants.{Nothing, DropMember, SetMember, PutMember, DropItem, AddItem, SetPart}
use Rattle.sj_documents.specs.Inverse.{Change, nothing, drop_member, set_member, put_member, drop_item, add_item, set_part, back}
use Rattle.sj_scripts.specs.Script.{path_view}
use Rattle.sj_documents.specs.Step.{Keeping, Word, base, reply_of, Rewrite, settled, write_at}
use Rattle.sj_scripts.specs.Values.{owned_tree}

abbrev pub change_view : OwnedChange → Change
change_view Nothing = nothing
change_view (DropMember k) = drop_member (string_bytes k)
change_view (SetMember k v) = set_member (string_bytes k) (owned_tree v)
change_view (PutMember place k v) = put_member place (string_bytes k) (owned_tree v)
change_view DropItem = drop_item
change_view (AddItem v) = add_item (owned_tree v)
change_view (SetPart v) = set_part (owned_tree v)

-- What a write hands out, where it may be taken back: nothing if it is refused, and else its path and what takes it back, which is
-- made of the value that its reply shows. Where it won't be taken back, nothing.
abbrev pub HandsOut : Undo → Option Inverse → List Part → Result (Tree × Tree) Word → (Option Tree → Change) → Type 0
HandsOut Possible None path written inversion = IsErr written
HandsOut Possible (Some inverse) path written inversion =
    (path_view inverse.path.items ≡ path)
    × ((found : Option Tree) × (t : Tree) × (written ≡ Ok (reply_of found, t)) × (change_view inverse.change ≡ inversion found))
HandsOut Impossible inverse path written inversion = inverse ≡ None

-- What a write leaves of the vector and of the tree t of the document: the reply is appended, the tree is that after the write,
-- and what takes it back is handed out, where that may be done. On an error the vector is as it was, and the tree is t, the base
-- of the write, or that after it.
abbrev pub Settles : {E : Type 0} → Undo → Result (Option Inverse) E → List ℕ → List ℕ → Keeping → Tree → Tree → List Part → Rewrite → (Option Tree → Change) → Type 0
Settles how (Ok inverse) old new keeping t u path change inversion =
    let written = write_at (base t keeping) path change in
    let w = settled (base t keeping) [] written in
    (new ≡ old ++ text w.0) × (u ≡ w.1.tree) × HandsOut how inverse path written inversion
Settles how (Err e) old new keeping t u path change inversion =
    let w = settled (base t keeping) [] (write_at (base t keeping) path change) in
    (new ≡ old) × ((u ≡ t) ⊎ (u ≡ base t keeping) ⊎ (u ≡ w.1.tree))

-- What taking a write back leaves of the tree t: the change is made on the base, or the base stays where it can't be made. On an
-- error the tree is t, the base, or that after the change.
abbrev pub TakesBack : {E : Type 0} → Result Bool E → Keeping → Tree → Tree → List Part → Change → Type 0
TakesBack (Ok is_made) keeping t u path change =
    let undone = back path change (base t keeping) in
    (is_made ≡ is_some undone) × (u ≡ unwrap_or undone (base t keeping))
TakesBack (Err e) keeping t u path change = (u ≡ t) ⊎ (u ≡ base t keeping) ⊎ (u ≡ unwrap_or (back path change (base t keeping)) (base t keeping))
