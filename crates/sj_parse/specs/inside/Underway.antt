-- What holds of the descent between two tokens.
use Rattle.std.specs.Prelude.{⊤, ◌≡◌, ◌≢◌, ℕ, ◌+◌, ◌<◌, ◌≤◌, List, [], ◌∷◌, ◌++◌, length, min, drop, take, slice_index, map, None, Some, Vec, vec_capacity}
use Rattle.std.specs.List.{range_with_len}
use Rattle.std.specs.declared.alloc.Global.{Global}
use Rattle.sj_base.specs.Reads.{reads_items, reads_places}
use Rattle.sj_base.specs.declared.reads.Reads.{Reads}
use Rattle.sj_base.specs.Spelling.{longest}
use Rattle.sj_scan.specs.Positions.{positions}
use Rattle.sj_scan.specs.Scan.{scan_fault}
use Rattle.sj_tape.specs.Nodes.{entries}
use Rattle.sj_tape.specs.declared.node.Node.{Node}
use Rattle.sj_parse.specs.Token.{Token, token_at, tokens}
use Rattle.sj_parse.specs.Nodes.{HaveCarriers}
use Rattle.sj_parse.specs.Fault.{fault, descent_error}
use Rattle.sj_parse.specs.Counts.{ReadsEachOnce}
use Rattle.sj_parse.specs.declared.descent_fault.DescentKind.TheVariants.{InternalError}
use Rattle.sj_parse.specs.declared.descent_fault.DescentFault.{DescentFault}
use Rattle.sj_parse.specs.declared.containers.Frame.{Frame}
use Rattle.sj_parse.specs.declared.stage_two.State.{State}
use Rattle.sj_parse.specs.declared.stage_two.State.TheVariants.{End}
use Rattle.sj_parse.specs.declared.stage_two.Cursor.{Cursor}
use Rattle.sj_parse.specs.inside.Trees.{tree_value}
use Rattle.sj_parse.specs.inside.Machine.{Config, IsAt, reading}
use Rattle.sj_parse.specs.inside.Step.{reach}

-- The tokens stand one behind the other, from that place on.
abbrev pub Apart : ℕ → List Token → Type 0
Apart from [] = ⊤
Apart from (t ∷ ts) = (from ≤ t.place) × Apart (t.place + reach t) ts

-- Of the text whose tokens stand at these places, the first `count` are read: the document reads as it does from its start, and the rest of the text, from `from` on, holds those that follow.
pub record Between (input places : List ℕ) (limit : ℕ) (nodes : List Node) (stack : List Frame) (rest : List ℕ) (from : ℕ) (state : State) (count : ℕ) : Type 0 where
  pub config : Config
  pub at : IsAt config state (entries nodes) stack
  pub last : ℕ  -- where the last token begins
  pub reads : reading limit config last (map (token_at input) (drop count places)) ≡ tree_value limit InternalError 0 (tokens input)
  pub carriers : HaveCarriers (map (token_at input) (take count places)) nodes
  pub inside : from ≤ length input
  pub rest_is : rest ≡ drop from input
  pub apart : Apart from (map (token_at input) (drop count places))

-- The descent over a text is between two tokens, or at the end. `read` lists the places that were read before the descent. The place of the next token was read already.
pub record Underway (input : List ℕ) (limit : ℕ) (read : List ℕ) (places : Reads ℕ) (state : State) (cursor : Cursor) (nodes : Vec Node Global) (stack : Vec Frame Global) : Type 0 where
  pub scanned : scan_fault input ≡ None
  pub short : length input ≤ longest
  pub places_are : reads_items places ≡ positions input
  pub between : Between input (reads_items places) limit nodes.items stack.items cursor.tail.rest.now cursor.tail.from state cursor.count
  pub within : cursor.count ≤ length (reads_items places)
  pub more : state ≢ End → (cursor.count < length (reads_items places)) × (cursor.place ≡ slice_index (reads_items places) cursor.count) × (reads_places places ≡ read ++ range_with_len 0 (cursor.count + 1))
  pub done : state ≡ End → (cursor.count ≡ length (reads_items places)) × (reads_places places ≡ read ++ range_with_len 0 cursor.count)
  pub nodes_fit : length (reads_items places) ≤ vec_capacity nodes
  pub stack_fits : min limit (length (reads_items places)) ≤ vec_capacity stack
  pub levels : length stack.items ≤ limit

-- It stopped at the first fault.
pub record Stopped (input : List ℕ) (limit : ℕ) (read : List ℕ) (places : Reads ℕ) (nodes : Vec Node Global) (stack : Vec Frame Global) (f : DescentFault) : Type 0 where
  pub is_first : fault input limit ≡ Some (descent_error f)
  pub once : ReadsEachOnce (length (reads_items places)) read (reads_places places)
  pub nodes_few : length nodes.items ≤ length (reads_items places)
  pub stack_few : length stack.items ≤ min limit (length (reads_items places))
