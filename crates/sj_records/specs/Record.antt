-- The record of a line, and the output of a stream.
use Rattle.std.specs.Prelude.{◌≡◌, ℕ, pos, List, [], ◌∷◌, ◌++◌, Option, Some, None, codes, encode_utf8}
use Rattle.sj_base.specs.Path.{Part, key, place}
use Rattle.sj_base.specs.Tree.{Tree, null, integer, string, list, object, Items, no_items, item, no_members, member}
use Rattle.sj_base.specs.Text.{text}
use Rattle.sj_base.specs.Names.{name_of}
use Rattle.sj_base.specs.declared.error.Error.{Error}
use Rattle.sj_scripts.specs.Reading.{ComesOf}
use Rattle.sj_records.specs.Lines.{lines}
use Rattle.sj_documents.specs.Step.{Job, RepeatRule, runs_on_repeats, refuses_repeats, begun, replies, after}
use Rattle.sj_tape.specs.Repeats.{Repetition, repeated}

-- the record of replies and a document, as a tree
abbrev pub record_of : Items → Tree → Tree
record_of rs t = object (member (codes "replies") (list rs) (member (codes "document") t no_members))

abbrev pub character_of : Option ℕ → Tree
character_of None = null
character_of (Some c) = string (encode_utf8 c)

-- the record of a fault, as a tree
abbrev pub fault_record : Error → Tree
fault_record e = object (member (codes "error") (string (name_of e.error)) (member (codes "index") (integer (pos e.index)) (member (codes "character") (character_of e.character) no_members)))

-- the record of a repeated key, as a tree: the path to its object, in keys and places, and the key
abbrev pub part_tree : Part → Tree
part_tree (key k) = string k
part_tree (place n) = integer (pos n)

abbrev pub part_items : List Part → Items
part_items [] = no_items
part_items (part ∷ path) = item (part_tree part) (part_items path)

abbrev pub repeat_record : Repetition → Tree
repeat_record r = object (member (codes "error") (string (codes "RepeatedKey")) (member (codes "path") (list (part_items r.0)) (member (codes "key") (string r.1) no_members)))

-- the first repeated key of a line's tree, if the rule refuses it
abbrev pub refused_repeat : RepeatRule → Tree → Option Repetition
refused_repeat runs_on_repeats t = None
refused_repeat refuses_repeats t = repeated t

-- f of the repeated key that is refused, or else x
abbrev pub unless_refused : {A : Type 0} → Option Repetition → (Repetition → A) → A → A
unless_refused None f x = x
unless_refused (Some r) f x = f r

-- what the script of a job makes of a line's tree
abbrev pub outcome : Job → Tree → Tree
outcome job t = record_of (replies job (begun job t) job.script) (after job (begun job t) job.script).tree

-- what a job makes of a line's tree: the record of its first repeated key, if that is refused, or else the outcome of the script
abbrev pub tree_record : Job → Tree → Tree
tree_record job t = unless_refused (refused_repeat job.repeats t) repeat_record (outcome job t)

-- The record of a line: what the job makes of its tree, or its first fault.
abbrev pub IsRecord : Job → List ℕ → List ℕ → Type 0
IsRecord job line bytes = ComesOf (λ t. text (tree_record job t)) (λ e. text (fault_record e)) line job.limit bytes

-- the records of lines in order, each followed by a line feed
abbrev pub AreRecords : Job → List (List ℕ) → List ℕ → Type 0
AreRecords job [] bytes = bytes ≡ []
AreRecords job (line ∷ others) bytes =
    (first rest : List ℕ) × (bytes ≡ first ++ 0x0a ∷ rest) × IsRecord job line first × AreRecords job others rest

-- the output for a stream
abbrev pub IsOutput : Job → List ℕ → List ℕ → Type 0
IsOutput job stream bytes = AreRecords job (lines stream) bytes
