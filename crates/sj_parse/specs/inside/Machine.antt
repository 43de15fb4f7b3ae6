-- The state of stage two between two tokens, and the tree that it comes to.
use Rattle.std.specs.Prelude.{◌≡◌, ℕ, suc, ◌-◌, ◌==◌, if◌then◌else◌, Bool, false, true, List, [], ◌∷◌, ◌++◌, length, Ok, Err}
use Rattle.sj_parse.specs.declared.descent_fault.DescentKind.{DescentKind}
use Rattle.sj_parse.specs.declared.descent_fault.DescentKind.TheVariants.{InternalError, ExpectedObjectKey, ExpectedObjectColon}
use Rattle.sj_base.specs.Tree.{Tree, list, object, Items, no_items, item, Members, no_members, member}
use Rattle.sj_base.specs.Containers.{items_len, members_len}
use Rattle.sj_tape.specs.Listing.{Entry, string_entry, list_entry, object_entry, listing, items_listing, members_listing}
use Rattle.sj_parse.specs.declared.containers.Frame.{Frame}
use Rattle.sj_parse.specs.declared.stage_two.State.{State}
use Rattle.sj_parse.specs.declared.stage_two.State.TheVariants.{Value, FirstItem, ItemEnd, FirstMember, Key, Colon, MemberEnd, End}
use Rattle.sj_parse.specs.Token.{Token}
use Rattle.sj_parse.specs.Escapes.{stop}
use Rattle.sj_parse.specs.Descent.{left}
use Rattle.sj_parse.specs.inside.Trees.{Reading, with_rest, on_token, tree_value, tree_of_items, tree_of_more_items, tree_of_members, tree_of_expected_member, tree_of_more_members}

abbrev pub append_items : Items → Items → Items
append_items no_items ys = ys
append_items (item x xs) ys = item x (append_items xs ys)

abbrev pub append_members : Members → Members → Members
append_members no_members ns = ns
append_members (member k t ms) ns = member k t (append_members ms ns)

-- an open container that waits for a value
pub data Waiting : Type 0 where
  array_of : Items → Waiting  -- with the items before the value
  object_of : Members → List ℕ → Waiting  -- with the members before, and the value's key

-- What was read so far, by what may come next; the containers that are open stand innermost first.
pub data Config : Type 0 where
  value_next : List Waiting → Config
  first_item : List Waiting → Config
  item_end : Items → List Waiting → Config
  first_member : List Waiting → Config
  key_next : Members → List Waiting → Config
  colon_next : Members → List ℕ → List Waiting → Config
  member_end : Members → List Waiting → Config
  ended : Tree → Config

abbrev pub config_state : Config → State
config_state (value_next ws) = Value
config_state (first_item ws) = FirstItem
config_state (item_end xs ws) = ItemEnd
config_state (first_member ws) = FirstMember
config_state (key_next ms ws) = Key
config_state (colon_next ms k ws) = Colon
config_state (member_end ms ws) = MemberEnd
config_state (ended t) = End

-- the entries of what was read; the entry of an open container has no counts yet
abbrev pub waiting_entries : List Waiting → List Entry
waiting_entries [] = []
waiting_entries (array_of xs ∷ ws) = waiting_entries ws ++ list_entry 0 0 ∷ items_listing xs
waiting_entries (object_of ms k ∷ ws) = waiting_entries ws ++ object_entry 0 0 ∷ (members_listing ms ++ string_entry k ∷ [])

abbrev pub array_entries : Items → List Waiting → List Entry
array_entries xs ws = waiting_entries ws ++ list_entry 0 0 ∷ items_listing xs

abbrev pub object_entries : Members → List Waiting → List Entry
object_entries ms ws = waiting_entries ws ++ object_entry 0 0 ∷ members_listing ms

abbrev pub config_entries : Config → List Entry
config_entries (value_next ws) = waiting_entries ws
config_entries (first_item ws) = array_entries no_items ws
config_entries (item_end xs ws) = array_entries xs ws
config_entries (first_member ws) = object_entries no_members ws
config_entries (key_next ms ws) = object_entries ms ws
config_entries (colon_next ms k ws) = waiting_entries (object_of ms k ∷ ws)
config_entries (member_end ms ws) = object_entries ms ws
config_entries (ended t) = listing t

abbrev pub array_frame : Items → List Waiting → Frame
array_frame xs ws = record { start = length (waiting_entries ws); len = items_len xs; is_object = false }

abbrev pub object_frame : Members → List Waiting → Frame
object_frame ms ws = record { start = length (waiting_entries ws); len = members_len ms; is_object = true }

-- the node's entry, once so many entries stand beneath
abbrev pub frame_entry : Frame → ℕ → Entry
frame_entry f count = if f.is_object then object_entry f.len count else list_entry f.len count

-- the stack, outermost first
abbrev pub waiting_stack : List Waiting → List Frame
waiting_stack [] = []
waiting_stack (array_of xs ∷ ws) = waiting_stack ws ++ array_frame xs ws ∷ []
waiting_stack (object_of ms k ∷ ws) = waiting_stack ws ++ object_frame ms ws ∷ []

abbrev pub config_stack : Config → List Frame
config_stack (value_next ws) = waiting_stack ws
config_stack (first_item ws) = waiting_stack (array_of no_items ∷ ws)
config_stack (item_end xs ws) = waiting_stack (array_of xs ∷ ws)
config_stack (first_member ws) = waiting_stack ws ++ object_frame no_members ws ∷ []
config_stack (key_next ms ws) = waiting_stack ws ++ object_frame ms ws ∷ []
config_stack (colon_next ms k ws) = waiting_stack ws ++ object_frame ms ws ∷ []
config_stack (member_end ms ws) = waiting_stack ws ++ object_frame ms ws ∷ []
config_stack (ended t) = []

-- where a container has been opened
abbrev pub opened : Bool → List Waiting → Config
opened true ws = first_member ws
opened false ws = first_item ws

-- where a value has been read that the innermost container waited for, or the root
abbrev pub after_value : List Waiting → Tree → Config
after_value [] t = ended t
after_value (array_of xs ∷ ws) t = item_end (append_items xs (item t no_items)) ws
after_value (object_of ms k ∷ ws) t = member_end (append_members ms (member k t no_members)) ws

-- The code is at this state: what may come next, the nodes' entries, and the stack.
pub record IsAt (c : Config) (state : State) (entries : List Entry) (stack : List Frame) : Type 0 where
  pub state_is : state ≡ config_state c
  pub entries_are : entries ≡ config_entries c
  pub stack_is : stack ≡ config_stack c

-- the levels that are left inside one more container than wait
abbrev pub levels_inside : ℕ → List Waiting → ℕ
levels_inside limit ws = limit - suc (length ws)

-- a token of which only the place counts
abbrev pub token_before : ℕ → Token
token_before place = record { place = place; byte = 0; text = [] }

-- the tree of the root, once the innermost container has its value
abbrev pub resume : ℕ → List Waiting → Tree → ℕ → List Token → Reading Tree
resume limit [] t last ts = Ok (t, left last ts)
resume limit (array_of xs ∷ ws) t last ts =
    with_rest (tree_of_more_items (tree_value (levels_inside limit ws)) (length ts) last ts)
    (λ ys last rest. resume limit ws (list (append_items xs (item t ys))) last rest)
resume limit (object_of ms k ∷ ws) t last ts =
    with_rest (tree_of_more_members (tree_value (levels_inside limit ws)) (length ts) last ts)
    (λ ns last rest. resume limit ws (object (append_members ms (member k t ns))) last rest)

-- the tree that the root has if these tokens follow, or the fault; the first number is where the token read last stands
abbrev pub value_reading : ℕ → DescentKind → List Waiting → ℕ → List Token → Reading Tree
value_reading limit unexpected ws last ts = with_rest (tree_value (limit - length ws) unexpected last ts) (resume limit ws)

abbrev pub colon_reading : (DescentKind → ℕ → List Token → Reading Tree) → Token → List Token → Reading Tree
colon_reading value t ts = if t.byte == 0x3a then value InternalError t.place ts else Err (stop ExpectedObjectColon t.place)

abbrev pub reading : ℕ → Config → ℕ → List Token → Reading Tree
reading limit (value_next ws) last ts = value_reading limit InternalError ws last ts
reading limit (first_item ws) last ts = with_rest (tree_of_items (tree_value (levels_inside limit ws)) (token_before last) ts) (resume limit ws)
reading limit (item_end xs ws) last ts =
    with_rest (tree_of_more_items (tree_value (levels_inside limit ws)) (length ts) last ts)
    (λ ys last rest. resume limit ws (list (append_items xs ys)) last rest)
reading limit (first_member ws) last ts = with_rest (tree_of_members (tree_value (levels_inside limit ws)) (token_before last) ts) (resume limit ws)
reading limit (key_next ms ws) last ts =
    with_rest (on_token (tree_of_expected_member (tree_value (levels_inside limit ws)) ExpectedObjectKey) last ts)
    (λ m last rest. resume limit (object_of ms m.0 ∷ ws) m.1 last rest)
reading limit (colon_next ms k ws) last ts =
    with_rest (on_token (colon_reading (tree_value (levels_inside limit ws))) last ts) (resume limit (object_of ms k ∷ ws))
reading limit (member_end ms ws) last ts =
    with_rest (tree_of_more_members (tree_value (levels_inside limit ws)) (length ts) last ts)
    (λ ns last rest. resume limit ws (object (append_members ms ns)) last rest)
reading limit (ended t) last ts = Ok (t, left last ts)
