-- What a call answers that reads a text, and what it leaves in its buffers.
use Rattle.std.specs.Prelude.{◌≡◌, ℕ, List, [], ◌⊎◌, ◌≤◌, Option, Some, None, Result, Ok, Err, length, min, vec_capacity}
use Rattle.sj_base.specs.Tree.{Tree}
use Rattle.sj_base.specs.Spelling.{Document}
use Rattle.sj_base.specs.declared.error.Error.{Error}
use Rattle.sj_base.specs.declared.error.ErrorType.TheVariants.{OutOfMemory}
use Rattle.sj_scan.specs.Positions.{positions}
use Rattle.sj_scan.specs.Scan.{scan_fault}
use Rattle.sj_scan.specs.declared.stage1.ScanFault.{ScanFault}
use Rattle.sj_tape.specs.Listing.{listing}
use Rattle.sj_tape.specs.Nodes.{entries}
use Rattle.sj_tape.specs.Views.{tape_nodes}
use Rattle.sj_tape.specs.declared.node.Node.{Node}
use Rattle.sj_parse.specs.declared.buffers.Buffers.{Buffers}
use Rattle.sj_parse.specs.declared.deserializer.Deserializer.{Deserializer}
use Rattle.sj_parse.specs.Token.{tokens}
use Rattle.sj_parse.specs.Nodes.{HaveCarriers}
use Rattle.sj_parse.specs.Fault.{generic}

-- ---- answers

-- The nodes list the tree that the bytes spell, and each integer has the carrier of its token.
abbrev pub IsTapeOf : List ℕ → ℕ → List Node → Type 0
IsTapeOf bytes limit nodes = (t : Tree) × Document bytes limit t × (entries nodes ≡ listing t) × HaveCarriers (tokens bytes) nodes

-- The first fault, or lack of memory. (Where lack of memory can't come, a clause of the call says so.)
abbrev pub IsErrorOf : Option Error → Error → Type 0
IsErrorOf found e = (found ≡ Some e) ⊎ (e ≡ generic OutOfMemory)

-- A call on these bytes, whose first fault this is, answers what has these nodes, or an error.
abbrev pub Answers : {X : Type 0} → (X → List Node) → List ℕ → ℕ → Option Error → Result X Error → Type 0
Answers nodes bytes limit found (Ok x) = (found ≡ None) × IsTapeOf bytes limit (nodes x)
Answers nodes bytes limit found (Err e) = IsErrorOf found e

-- ---- buffers

-- the lengths of the texts that were read with them, in bytes
abbrev pub buffer_texts : Buffers → List ℕ
buffer_texts b = b.texts.list

abbrev pub buffer_positions : Buffers → List ℕ
buffer_positions b = b.positions.items

-- in levels
abbrev pub buffer_limit : Buffers → ℕ
buffer_limit b = b.max_depth

-- the number of positions for which there is room
abbrev pub buffer_room : Buffers → ℕ
buffer_room b = vec_capacity b.positions

-- the number of open containers for which there is room
abbrev pub buffer_levels : Buffers → ℕ
buffer_levels b = vec_capacity b.stack

-- Room enough to read these bytes into a tape with room for so many nodes. A text that the scan refuses needs less.
abbrev pub HasRoomFor : List ℕ → Buffers → ℕ → Type 0
HasRoomFor bytes b nodes =
    let count = length (positions bytes) in
    (length bytes ≤ buffer_room b) × (count ≤ nodes) × (min (buffer_limit b) count ≤ buffer_levels b)

-- none after a fault of the scan
abbrev pub positions_behind : List ℕ → Option ScanFault → List ℕ
positions_behind bytes None = positions bytes
positions_behind bytes (Some f) = []

-- the positions that a scan of the bytes leaves
abbrev pub scanned : List ℕ → List ℕ
scanned bytes = positions_behind bytes (scan_fault bytes)

-- A call that scanned these bytes leaves these positions: none where the scan lacked memory.
abbrev pub Leaves : {X : Type 0} → List ℕ → Result X Error → List ℕ → Type 0
Leaves bytes (Ok x) places = places ≡ scanned bytes
Leaves bytes (Err e) places = (places ≡ scanned bytes) ⊎ ((e ≡ generic OutOfMemory) × (places ≡ []))

-- ---- deserializers

abbrev pub deserializer_nodes : Deserializer → List Node
deserializer_nodes d = tape_nodes d.tape

-- the index of the node that comes next
abbrev pub deserializer_next : Deserializer → ℕ
deserializer_next d = d.next
