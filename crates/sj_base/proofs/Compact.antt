-- A compact text spells its tree.
use Rattle.std.specs.Prelude.{ℕ, true, false, List, [], ◌∷◌, ◌++◌}
use Rattle.std.proofs.Common.{refl, sym, ap, append_assoc, append-nil}
use Rattle.sj_base.specs.Tree.{Tree, null, boolean, integer, decimal, string, list, object, Items, no_items, item, Members, no_members, member, IsValidTree, AreValidItems, AreValidMembers}
use Rattle.sj_base.specs.Spelling.{Padded, Pairs, SpellsString, SpellsValue, SpellsItems, SpellsMoreItems, SpellsMembers, SpellsMoreMembers}
use Rattle.sj_base.specs.Text.{quoted, text, items_text, more_items_text, members_text, more_members_text}
use Rattle.sj_base.specs.Laws.{PrintsBack}
use Rattle.sj_base.proofs.Quotes.{quoted_spells}
use Rattle.sj_base.proofs.Decimals.{integer_spells}

-- a part with no whitespace around it
pub bare : (P : List ℕ → Type 0) (bs : List ℕ) → P bs → Padded P bs
bare P bs h = record { before = []; inner = bs; after = []; parts = sym (append-nil bs); spaces_before = tt; spaces_after = tt; holds = h }

-- a key and its value
pair_spells : (k value : List ℕ) (t : Tree) → SpellsString k (quoted k) → SpellsValue t value → Pairs (SpellsString k) (SpellsValue t) (quoted k ++ 0x3a ∷ value)
pair_spells k value t h g = (quoted k, value, refl, bare (SpellsString k) (quoted k) h, bare (SpellsValue t) value g)

-- The compact text of each part spells it.
mutual
  text_spells : (t : Tree) → IsValidTree t → SpellsValue t (text t)
  text_spells null h = refl
  text_spells (boolean true) h = refl
  text_spells (boolean false) h = refl
  text_spells (integer n) h = (h, integer_spells n h)
  text_spells (decimal literal) h = (refl, h)
  text_spells (string s) h = quoted_spells s h
  text_spells (list ts) h = (items_text ts, refl, items_spell ts h)
  text_spells (object ms) h = (members_text ms, refl, members_spell ms h)

  items_spell : (ts : Items) → AreValidItems ts → SpellsItems ts (items_text ts)
  items_spell no_items h = tt
  items_spell (item t ts) h = (text t, more_items_text ts, refl, bare (SpellsValue t) (text t) (text_spells t h.0), more_items_spell ts h.1)

  more_items_spell : (ts : Items) → AreValidItems ts → SpellsMoreItems ts (more_items_text ts)
  more_items_spell no_items h = refl
  more_items_spell (item t ts) h = (text t, more_items_text ts, refl, bare (SpellsValue t) (text t) (text_spells t h.0), more_items_spell ts h.1)

  members_spell : (ms : Members) → AreValidMembers ms → SpellsMembers ms (members_text ms)
  members_spell no_members h = tt
  members_spell (member k t ms) h = (quoted k ++ 0x3a ∷ text t, more_members_text ms, sym (append_assoc (quoted k) (0x3a ∷ text t) (more_members_text ms)), pair_spells k (text t) t (quoted_spells k h.0) (text_spells t h.1), more_members_spell ms h.2)

  more_members_spell : (ms : Members) → AreValidMembers ms → SpellsMoreMembers ms (more_members_text ms)
  more_members_spell no_members h = refl
  more_members_spell (member k t ms) h = (quoted k ++ 0x3a ∷ text t, more_members_text ms, ap (λ (ys : List ℕ). 0x2c ∷ ys) (sym (append_assoc (quoted k) (0x3a ∷ text t) (more_members_text ms))), pair_spells k (text t) t (quoted_spells k h.0) (text_spells t h.1), more_members_spell ms h.2)

-- A compact text spells its tree.
pub text_back : PrintsBack text
text_back t h = bare (SpellsValue t) (text t) (text_spells t h)
