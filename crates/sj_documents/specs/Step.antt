-- What a command does: its reply, the tree, and the new state.
use Rattle.std.specs.Prelude.{ℕ, pos, ◌+◌, nat_le, Bool, true, false, if◌then◌else◌, List, [], ◌∷◌, length, Option, Some, None, is_some, ok_or, Result, Ok, Err, codes}
use Rattle.sj_base.specs.Tree.{Tree, null, boolean, integer, decimal, string, list, object, Items, no_items, item, Members, no_members, member, depth}
use Rattle.sj_base.specs.Keep.{keep}
use Rattle.sj_base.specs.Path.{Part, key, member_at, child, at, put}
use Rattle.sj_base.specs.Containers.{items_len, members_len, items_in, members_in}
use Rattle.sj_base.specs.Edit.{put_member, drop_member, push_item, last_item, pop_item}
use Rattle.sj_base.specs.Spelling.{longest}
use Rattle.sj_base.specs.Text.{text, pretty}
use Rattle.sj_scripts.specs.Command.{Step, get, contains, type_of, len, keys, insert, remove, push, pop, set_at, undo, reload, reload_pp, ◌>>=◌}

-- From when on a document keeps only the first of members with equal keys: from its start, or from the first write
-- command on, also where that is refused.
pub data Keeping : Type 0 where
  from_start : Keeping
  from_write : Keeping

-- What becomes of a line whose document repeats a key in one of its objects: the script is run on it, or it is refused.
pub data RepeatRule : Type 0 where
  runs_on_repeats : RepeatRule
  refuses_repeats : RepeatRule

-- What is done to each line of a stream.
pub record Job : Type 0 where
  pub script : List Step  -- the commands, in order
  pub limit : ℕ  -- the levels that a document may nest
  pub keeping : Keeping  -- how the document is kept meanwhile
  pub repeats : RepeatRule  -- what becomes of repeated keys

-- the document, and for each write that was neither refused nor taken back the tree on which it was tested, newest first
pub record State : Type 0 where
  pub tree : Tree
  pub bases : List Tree

-- the tree with which a document begins
abbrev pub start : Tree → Keeping → Tree
start t from_start = keep t
start t from_write = t

-- the state before the first command
abbrev pub begun : Job → Tree → State
begun job t = record { tree = start t job.keeping; bases = [] }

-- the tree on which a write command is tested
abbrev pub base : Tree → Keeping → Tree
base t from_start = t
base t from_write = keep t

-- Whether a value that is written at the end of a path stays within the depth limit, in place of what stands there, or one
-- level below it.
abbrev pub fits : List Part → Tree → ℕ → Bool
fits path v limit = nat_le (length path + depth v) limit

abbrev pub fits_below : List Part → Tree → ℕ → Bool
fits_below path v limit = nat_le (length path + 1 + depth v) limit

-- A reply that is a word, and a reply that may be one: the word says why a command is refused.
abbrev pub Word : Type 0
Word = List ℕ

abbrev pub answer : Result Tree Word → Tree
answer (Ok reply) = reply
answer (Err word) = string word

-- the part that a path selects, or the word that it selects nothing
abbrev pub part_at : Tree → List Part → Result Tree Word
part_at t path = ok_or (at t path) (codes "NoSuchPath")

-- an array of the value, or an empty array
abbrev pub reply_of : Option Tree → Tree
reply_of None = list no_items
reply_of (Some t) = list (item t no_items)

-- ---- what reads reply of a tree

abbrev pub type_name : Tree → Word
type_name null = codes "null"
type_name (boolean b) = codes "bool"
type_name (integer n) = codes "integer"
type_name (decimal literal) = codes "decimal"
type_name (string s) = codes "string"
type_name (list ts) = codes "array"
type_name (object ms) = codes "object"

-- the number of items or members
abbrev pub count : Tree → Result Tree Word
count (list ts) = Ok (integer (pos (items_len ts)))
count (object ms) = Ok (integer (pos (members_len ms)))
count _ = Err (codes "NotAContainer")

-- the keys in order, repeats included
abbrev pub key_items : Members → Items
key_items no_members = no_items
key_items (member k t ms) = item (string k) (key_items ms)

abbrev pub keys_at : Tree → List Part → Result Tree Word
keys_at t path = part_at t path >>= λ part. ok_or (members_in part) (codes "NotAnObject") >>= λ ms. Ok (list (key_items ms))

abbrev pub contains_reply : Tree → List Part → List ℕ → Tree
contains_reply t path k = answer (part_at t path >>= λ part. Ok (boolean (is_some (child part (key k)))))

abbrev pub type_reply : Tree → List Part → Tree
type_reply t path = answer (part_at t path >>= λ part. Ok (string (type_name part)))

abbrev pub len_reply : Tree → List Part → Tree
len_reply t path = answer (part_at t path >>= count)

abbrev pub keys_reply : Tree → List Part → Tree
keys_reply t path = answer (keys_at t path)

-- ---- writes: the reply, and what stands in the place of the part that the path selects

abbrev pub Rewrite : Type 0
Rewrite = Tree → Result (Tree × Tree) Word

-- x where the value fits, and otherwise the word that it doesn't
abbrev pub if_fits : {A : Type 0} → Bool → A → Result A Word
if_fits test x = if test then Ok x else Err (codes "TooDeep")

abbrev pub insertion : Bool → List ℕ → Tree → Rewrite
insertion test k v part = ok_or (members_in part) (codes "NotAnObject") >>= λ ms. if_fits test (reply_of (member_at ms k), object (put_member ms k v))

abbrev pub removal : List ℕ → Rewrite
removal k part = ok_or (members_in part) (codes "NotAnObject") >>= λ ms. Ok (reply_of (member_at ms k), object (drop_member ms k))

abbrev pub pushing : Bool → Tree → Rewrite
pushing test v part = ok_or (items_in part) (codes "NotAnArray") >>= λ ts. if_fits test (list no_items, list (push_item ts v))

abbrev pub popping : Rewrite
popping part = ok_or (items_in part) (codes "NotAnArray") >>= λ ts. Ok (reply_of (last_item ts), list (pop_item ts))

abbrev pub setting : Bool → Tree → Rewrite
setting test v part = if_fits test (reply_of (Some part), v)

-- the reply, and the whole tree after the change of the part that the path selects
abbrev pub write_at : Tree → List Part → Rewrite → Result (Tree × Tree) Word
write_at t path change = part_at t path >>= λ part. change part >>= λ w. Ok (w.0, put t path w.1)

-- the reply to a write on this base, and the state after it
abbrev pub settled : Tree → List Tree → Result (Tree × Tree) Word → Tree × State
settled t bases (Ok w) = (w.0, record { tree = w.1; bases = t ∷ bases })
settled t bases (Err word) = (string word, record { tree = t; bases = bases })

abbrev pub rewritten : Job → State → List Part → Rewrite → Tree × State
rewritten job s path change = let t = base s.tree job.keeping in settled t s.bases (write_at t path change)

-- ---- taking back: the newest base is the tree again, if there is one

abbrev pub undone : Tree → List Tree → Tree × State
undone t [] = (boolean false, record { tree = t; bases = [] })
undone t (b ∷ bs) = (boolean true, record { tree = b; bases = bs })

-- ---- reloads: whether the text of the document isn't too long to be read again

abbrev pub reload_reply : List ℕ → Tree
reload_reply bytes = boolean (nat_le (length bytes) longest)

-- ---- the reply to a command, and the state after it, which neither a read nor a reload changes
abbrev pub step : Job → State → Step → Tree × State
step job s (get path) = (reply_of (at s.tree path), s)
step job s (contains path k) = (contains_reply s.tree path k, s)
step job s (type_of path) = (type_reply s.tree path, s)
step job s (len path) = (len_reply s.tree path, s)
step job s (keys path) = (keys_reply s.tree path, s)
step job s (insert path k v) = rewritten job s path (insertion (fits_below path v job.limit) k v)
step job s (remove path k) = rewritten job s path (removal k)
step job s (push path v) = rewritten job s path (pushing (fits_below path v job.limit) v)
step job s (pop path) = rewritten job s path popping
step job s (set_at path v) = rewritten job s path (setting (fits path v job.limit) v)
step job s undo = undone s.tree s.bases
step job s reload = (reload_reply (text s.tree), s)
step job s reload_pp = (reload_reply (pretty s.tree), s)

-- the replies to these commands, in order, and the state after them
abbrev pub replies : Job → State → List Step → Items
replies job s [] = no_items
replies job s (c ∷ cs) = item (step job s c).0 (replies job (step job s c).1 cs)

abbrev pub after : Job → State → List Step → State
after job s [] = s
after job s (c ∷ cs) = after job (step job s c).1 cs
