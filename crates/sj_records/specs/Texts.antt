-- The texts that a run reads, and what reading them leaves in its buffers.
use Rattle.std.specs.Prelude.{◌≡◌, ℕ, ◌≤◌, nat_le, Bool, true, false, List, [], ◌∷◌, ◌++◌, length, map, Option}
use Rattle.sj_base.specs.Spelling.{longest}
use Rattle.sj_base.specs.Text.{text, pretty}
use Rattle.sj_base.specs.Tree.{Tree}
use Rattle.sj_parse.specs.Answers.{scanned, buffer_texts, buffer_positions}
use Rattle.sj_parse.specs.declared.buffers.Buffers.{Buffers}
use Rattle.sj_scripts.specs.Command.{Step, reload, reload_pp}
use Rattle.sj_scripts.specs.Reading.{ComesOf}
use Rattle.sj_documents.specs.Step.{Job, State, begun, step}
use Rattle.sj_records.specs.Lines.{lines}
use Rattle.sj_records.specs.Record.{refused_repeat, unless_refused, IsOutput}
use Rattle.sj_records.specs.Run.{Transfers}

-- ---- which texts are read

-- the text alone, if it is read, or none
abbrev pub if_read : Bool → List ℕ → List (List ℕ)
if_read true bytes = bytes ∷ []
if_read false bytes = []

-- the text that a command reads: that of a reload, if it isn't too long, as the reply says
abbrev pub reread : State → Step → List (List ℕ)
reread s reload = let bytes = text s.tree in if_read (nat_le (length bytes) longest) bytes
reread s reload_pp = let bytes = pretty s.tree in if_read (nat_le (length bytes) longest) bytes
reread s _ = []

-- the texts that these commands read, in order
abbrev pub reloads : Job → State → List Step → List (List ℕ)
reloads job s [] = []
reloads job s (c ∷ cs) = reread s c ++ reloads job (step job s c).1 cs

-- those that the script's reloads read on a line's tree: none if the tree is refused
abbrev pub rereads : Job → Tree → List (List ℕ)
rereads job t = unless_refused (refused_repeat job.repeats t) (λ r. []) (reloads job (begun job t) job.script)

-- The texts that are read for a line: the line itself, and where it is a document that isn't refused, those that the script's reloads
-- read.
abbrev pub AreTextsOf : Job → List ℕ → List (List ℕ) → Type 0
AreTextsOf job line texts = ComesOf (λ t. line ∷ rereads job t) (λ e. line ∷ []) line job.limit texts

-- the texts of these lines, in order
abbrev pub AreTexts : Job → List (List ℕ) → List (List ℕ) → Type 0
AreTexts job [] texts = texts ≡ []
AreTexts job (line ∷ others) texts =
    (first rest : List (List ℕ)) × (texts ≡ first ++ rest) × AreTextsOf job line first × AreTexts job others rest

-- ---- what reading leaves

-- The positions are those that a scan of the last of these texts leaves, unless it is too long to be scanned. Where no text was
-- read they are as they were.
abbrev pub LeavesPositions : List (List ℕ) → List ℕ → List ℕ → Type 0
LeavesPositions [] old new = new ≡ old
LeavesPositions (bytes ∷ []) old new = length bytes ≤ longest → new ≡ scanned bytes
LeavesPositions (bytes ∷ next ∷ others) old new = LeavesPositions (next ∷ others) old new

-- These texts were read one after the other: their lengths were noted, and the last of them left the positions.
abbrev pub HasRead : Buffers → Buffers → List (List ℕ) → Type 0
HasRead old new texts = (buffer_texts new ≡ buffer_texts old ++ map length texts) × LeavesPositions texts (buffer_positions old) (buffer_positions new)

-- so for the texts of these lines
abbrev pub HasReadLines : Job → Buffers → Buffers → List (List ℕ) → Type 0
HasReadLines job old new lines = (texts : List (List ℕ)) × AreTexts job lines texts × HasRead old new texts

-- The bytes that were read came to the output that was written, and the texts of their lines were read by the buffers.
abbrev pub HasReadStream : Job → Option (List ℕ) → Option (List ℕ) → Option (List ℕ) → Option (List ℕ) → Buffers → Buffers → Type 0
HasReadStream job unread_old unread_new held_old held_new old new =
    Transfers unread_old unread_new held_old held_new (λ input output. IsOutput job input output × HasReadLines job old new (lines input))
