-- No byte of a record is below 0x20.
use Rattle.std.proofs.Common.{◌≡◌, ◌≢◌, ℕ, zero, suc, ◌/◌, ◌%◌, ◌≤◌, Bool, true, false, List, [], ◌∷◌, ◌++◌, Option, Some, None, Result, Ok, Err, refl, sym, ap, subst, inl, inr, arith}
use Rattle.std.specs.Prelude.{◌==◌, nat_lt, nat_le, length, codes, encode_utf8, is_some, ok_or, option_and_then, ⊤}
use Rattle.std.specs.List.{AllByRecursion}
use Rattle.std.specs.Fmt.{digits, digits_onto, digit_glyph, decimal}
use Rattle.std.proofs.lemmas.Bool.{cond_both}
use Rattle.sj_base.specs.Tree.{Tree, null, boolean, integer, decimal as a_decimal, string, list, object, Items, no_items, item, Members, no_members, member, IsValidTree}
use Rattle.sj_base.specs.Path.{Part, key, place, member_at, child, at}
use Rattle.sj_base.specs.Containers.{items_len, members_len, members_in}
use Rattle.sj_base.specs.Edit.{last_item}
use Rattle.sj_base.specs.Names.{name_of}
use Rattle.sj_base.specs.Spelling.{longest}
use Rattle.sj_base.specs.Text.{quoted, text, pretty, items_text, more_items_text}
use Rattle.sj_base.specs.declared.error.Error.{Error}
use Rattle.sj_base.proofs.Fronts.{AllByRecursion-weaker}
use Rattle.sj_base.proofs.OneLine.{Visible, visible_append, quoted_visible}
use Rattle.sj_base.specs.Laws.{OneLine}
use Rattle.sj_base.proofs.Trees.{only_trees}
use Rattle.sj_base.proofs.Valid.{valid_when_kept, valid_part, valid_last, valid_put, valid_with_member, valid_dropped, valid_pushed, valid_popped}
use Rattle.sj_scripts.specs.Command.{Step, get, contains, type_of, len, keys, insert, remove, push, pop, set_at, undo, reload, reload_pp, ◌>>=◌}
use Rattle.sj_documents.specs.Step.{Job, Keeping, from_start, from_write, State, Word, Rewrite, start, begun, base, answer, part_at, reply_of, type_name, count, key_items, fits, fits_below, insertion, removal, pushing, popping, setting, write_at, settled, undone, rewritten, step, replies, after}
use Rattle.sj_records.specs.Record.{record_of, character_of, fault_record, part_tree, part_items, repeat_record, refused_repeat, unless_refused, outcome}
use Rattle.sj_tape.specs.Repeats.{Repetition}
use Rattle.sj_records.specs.Laws.{HoldsInState, NoLineFeed}
use Rattle.sj_documents.proofs.Changes.{inserted, removed, pushed, popped, within, write_done}
use Rattle.sj_records.proofs.Accepted.{Sound, accepted_sound}

-- ---- numbers

glyph_visible : (d : ℕ) → 0x20 ≤ digit_glyph false d
glyph_visible d = cond_both (nat_lt d 10) _ _ (λ c. 0x20 ≤ c) (λ e. omega arith) (λ e. omega arith)

digits_visible : (k base n : ℕ) (acc : List ℕ) → Visible acc → Visible (digits_onto k base false n acc)
digits_visible zero base n acc h = h
digits_visible (suc k) base n acc h =
    cond_both (n / base == 0) _ _ (λ bs. Visible bs) (λ e. (glyph_visible (n % base), h)) (λ e. digits_visible k base (n / base) (digit_glyph false (n % base) ∷ acc) (glyph_visible (n % base), h))

decimal_visible : (n : ℕ) → Visible (decimal n)
unfolding digits
decimal_visible n = digits_visible 64 10 n [] tt

-- Texts of valid trees have no such byte.
module _ (text_visible : OneLine) where
  -- ---- replies

  abbrev Shown : Tree → Type 0
  Shown t = Visible (text t)

  abbrev AllShown : Items → Type 0
  AllShown no_items = ⊤
  AllShown (item t ts) = Shown t × AllShown ts

  more_shown : (ts : Items) → AllShown ts → Visible (more_items_text ts)
  more_shown no_items h = tt
  more_shown (item t ts) h = (omega arith, visible_append (text t) (more_items_text ts) h.0 (more_shown ts h.1))

  items_shown : (ts : Items) → AllShown ts → Visible (items_text ts)
  items_shown no_items h = tt
  items_shown (item t ts) h = visible_append (text t) (more_items_text ts) h.0 (more_shown ts h.1)

  list_shown : (ts : Items) → AllShown ts → Shown (list ts)
  list_shown ts h = (omega arith, visible_append (items_text ts) (0x5d ∷ []) (items_shown ts h) (omega arith, tt))

  bound_shown : (r : Result Tree Word) (f : Tree → Result Tree Word) → ((part : Tree) → Shown (answer (f part))) → Shown (answer (r >>= f))
  bound_shown (Ok part) f h = h part
  bound_shown (Err word) f h = quoted_visible word

  count_shown : (t : Tree) → Shown (answer (count t))
  count_shown (list ts) = decimal_visible (items_len ts)
  count_shown (object ms) = decimal_visible (members_len ms)
  count_shown null = quoted_visible (codes "NotAContainer")
  count_shown (boolean b) = quoted_visible (codes "NotAContainer")
  count_shown (integer n) = quoted_visible (codes "NotAContainer")
  count_shown (a_decimal literal) = quoted_visible (codes "NotAContainer")
  count_shown (string s) = quoted_visible (codes "NotAContainer")

  keys_shown : (ms : Members) → AllShown (key_items ms)
  keys_shown no_members = tt
  keys_shown (member k t ms) = (quoted_visible k, keys_shown ms)

  key_list_shown : (o : Option Members) → Shown (answer (ok_or o (codes "NotAnObject") >>= λ ms. Ok (list (key_items ms))))
  key_list_shown None = quoted_visible (codes "NotAnObject")
  key_list_shown (Some ms) = list_shown (key_items ms) (keys_shown ms)

  boolean_shown : (b : Bool) → Shown (boolean b)
  boolean_shown b = text_visible (boolean b) tt

  -- a part that may be there, in an array
  found_shown : (o : Option Tree) → ((t : Tree) → o ≡ Some t → IsValidTree t) → Shown (reply_of o)
  found_shown None h = (omega arith, (omega arith, tt))
  found_shown (Some t) h = text_visible (list (item t no_items)) (h t refl, tt)

  -- ---- what a write makes of a valid tree

  abbrev StaysValid : Rewrite → Type 0
  StaysValid change = (part : Tree) (n : Tree × Tree) → change part ≡ Ok n → IsValidTree part → Shown n.0 × IsValidTree n.1

  both : (m n : Tree × Tree) → m ≡ n → Shown m.0 × IsValidTree m.1 → Shown n.0 × IsValidTree n.1
  both m n is h = subst (λ (p : Tree × Tree). Shown p.0 × IsValidTree p.1) is h

  in_object : (ms : Members) (k : List ℕ) → IsValidTree (object ms) → Shown (reply_of (member_at ms k))
  in_object ms k h = found_shown (member_at ms k) (λ t e. valid_part (object ms) (key k ∷ []) t h (ap (λ o. option_and_then (λ u. Some u) o) e))

  insertion_valid : (test : Bool) (path : List Part) (k : List ℕ) (v : Tree) → Sound (insert path k v) → StaysValid (insertion test k v)
  insertion_valid test path k v good part n e h =
      let i = inserted test k v part n e in
      let valid = subst IsValidTree i.1 h in
      both _ n i.3 (in_object i.0 k valid, valid_with_member i.0 k v valid good.0 good.1.1)

  removal_valid : (k : List ℕ) → StaysValid (removal k)
  removal_valid k part n e h =
      let i = removed k part n e in
      let valid = subst IsValidTree i.1 h in
      both _ n i.2 (in_object i.0 k valid, valid_dropped i.0 k valid)

  pushing_valid : (test : Bool) (v : Tree) → IsValidTree v → StaysValid (pushing test v)
  pushing_valid test v good part n e h =
      let i = pushed test v part n e in
      both _ n i.3 ((omega arith, (omega arith, tt)), valid_pushed i.0 v (subst IsValidTree i.1 h) good)

  popping_valid : StaysValid popping
  popping_valid part n e h =
      let i = popped part n e in
      let valid = subst IsValidTree i.1 h in
      both _ n i.2 (found_shown (last_item i.0) (λ t e. valid_last i.0 t valid e), valid_popped i.0 valid)

  setting_valid : (test : Bool) (v : Tree) → IsValidTree v → StaysValid (setting test v)
  setting_valid test v good part n e h =
      let i = within test _ n e in
      both _ n i.1 (text_visible (list (item part no_items)) (h, tt), good)

  base_valid : (t : Tree) (keeping : Keeping) → IsValidTree t → IsValidTree (base t keeping)
  base_valid t from_start h = h
  base_valid t from_write h = valid_when_kept t h

  pub start_valid : (t : Tree) (keeping : Keeping) → IsValidTree t → IsValidTree (start t keeping)
  start_valid t from_start h = valid_when_kept t h
  start_valid t from_write h = h

  -- the reply is shown, and the new tree and its bases are valid
  abbrev pub AllValid : State → Type 0
  AllValid s = HoldsInState IsValidTree s

  abbrev Fine : Tree × State → Type 0
  Fine p = Shown p.0 × AllValid p.1

  settled_fine : (t : Tree) (bases : List Tree) (path : List Part) (change : Rewrite) (r : Result (Tree × Tree) Word) → write_at t path change ≡ r → StaysValid change → IsValidTree t → AllByRecursion IsValidTree bases → Fine (settled t bases r)
  settled_fine t bases path change (Err word) e fine h hs = (quoted_visible word, (h, hs))
  settled_fine t bases path change (Ok w) e fine h hs =
      let d = write_done t path change w e in
      let new = fine d.0 d.2 d.3 (valid_part t path d.0 h d.1) in
      let done = both _ w d.4 (new.0, valid_put t path d.2.1 h new.1) in
      (done.0, (done.1, (h, hs)))

  rewritten_fine : (job : Job) (s : State) (path : List Part) (change : Rewrite) → StaysValid change → AllValid s → Fine (rewritten job s path change)
  rewritten_fine job s path change fine h = settled_fine (base s.tree job.keeping) s.bases path change _ refl fine (base_valid s.tree job.keeping h.0) h.1

  undone_fine : (t : Tree) (bases : List Tree) → IsValidTree t → AllByRecursion IsValidTree bases → Fine (undone t bases)
  undone_fine t [] h hs = (boolean_shown false, (h, tt))
  undone_fine t (b ∷ bs) h hs = (boolean_shown true, hs)

  step_fine : (job : Job) (s : State) (c : Step) → Sound c → AllValid s → Fine (step job s c)
  step_fine job s (get path) sound h = (found_shown (at s.tree path) (λ t e. valid_part s.tree path t h.0 e), h)
  step_fine job s (contains path k) sound h = (bound_shown (part_at s.tree path) _ (λ part. boolean_shown (is_some (child part (key k)))), h)
  step_fine job s (type_of path) sound h = (bound_shown (part_at s.tree path) _ (λ part. quoted_visible (type_name part)), h)
  step_fine job s (len path) sound h = (bound_shown (part_at s.tree path) _ count_shown, h)
  step_fine job s (keys path) sound h = (bound_shown (part_at s.tree path) _ (λ part. key_list_shown (members_in part)), h)
  step_fine job s undo sound h = undone_fine s.tree s.bases h.0 h.1
  step_fine job s reload sound h = (boolean_shown (nat_le (length (text s.tree)) longest), h)
  step_fine job s reload_pp sound h = (boolean_shown (nat_le (length (pretty s.tree)) longest), h)
  step_fine job s (insert path k v) sound h = rewritten_fine job s path _ (insertion_valid (fits_below path v job.limit) path k v sound) h
  step_fine job s (remove path k) sound h = rewritten_fine job s path _ (removal_valid k) h
  step_fine job s (push path v) sound h = rewritten_fine job s path _ (pushing_valid (fits_below path v job.limit) v sound.1) h
  step_fine job s (pop path) sound h = rewritten_fine job s path _ popping_valid h
  step_fine job s (set_at path v) sound h = rewritten_fine job s path _ (setting_valid (fits path v job.limit) v sound.1) h

  replies_shown : (job : Job) (s : State) (cs : List Step) → AllByRecursion Sound cs → AllValid s → AllShown (replies job s cs)
  replies_shown job s [] sound h = tt
  replies_shown job s (c ∷ cs) sound h = let fine = step_fine job s c sound.0 h in (fine.0, replies_shown job (step job s c).1 cs sound.1 fine.1)

  pub after_valid : (job : Job) (s : State) (cs : List Step) → AllByRecursion Sound cs → AllValid s → AllValid (after job s cs)
  after_valid job s [] sound h = h
  after_valid job s (c ∷ cs) sound h = after_valid job (step job s c).1 cs sound.1 (step_fine job s c sound.0 h).1

  -- ---- records

  -- a member with its colon
  pair_shown : (k rest : List ℕ) → Visible rest → Visible (quoted k ++ 0x3a ∷ rest)
  pair_shown k rest h = visible_append (quoted k) (0x3a ∷ rest) (quoted_visible k) (omega arith, h)

  record_shown : (rs : Items) (t : Tree) → AllShown rs → IsValidTree t → Shown (record_of rs t)
  record_shown rs t h valid =
      let document = quoted (codes "document") ++ 0x3a ∷ (text t ++ []) in
      let last : Visible document = pair_shown (codes "document") (text t ++ []) (visible_append (text t) [] (text_visible t valid) tt) in
      let behind = text (list rs) ++ 0x2c ∷ document in
      let first = pair_shown (codes "replies") behind (visible_append (text (list rs)) (0x2c ∷ document) (list_shown rs h) (omega arith, last)) in
      (omega arith, visible_append (quoted (codes "replies") ++ 0x3a ∷ behind) (0x7d ∷ []) first (omega arith, tt))

  character_shown : (c : Option ℕ) → Shown (character_of c)
  character_shown None = text_visible null tt
  character_shown (Some c) = quoted_visible (encode_utf8 c)

  fault_shown : (e : Error) → Shown (fault_record e)
  fault_shown e =
      let shown = text (character_of e.character) in
      let character = quoted (codes "character") ++ 0x3a ∷ (shown ++ []) in
      let last : Visible character = pair_shown (codes "character") (shown ++ []) (visible_append shown [] (character_shown e.character) tt) in
      let index = quoted (codes "index") ++ 0x3a ∷ (decimal e.index ++ 0x2c ∷ character) in
      let middle : Visible index = pair_shown (codes "index") (decimal e.index ++ 0x2c ∷ character) (visible_append (decimal e.index) (0x2c ∷ character) (decimal_visible e.index) (omega arith, last)) in
      let behind = quoted (name_of e.error) ++ 0x2c ∷ index in
      let first = pair_shown (codes "error") behind (visible_append (quoted (name_of e.error)) (0x2c ∷ index) (quoted_visible (name_of e.error)) (omega arith, middle)) in
      (omega arith, visible_append (quoted (codes "error") ++ 0x3a ∷ behind) (0x7d ∷ []) first (omega arith, tt))

  part_shown : (part : Part) → Shown (part_tree part)
  part_shown (key k) = quoted_visible k
  part_shown (place n) = decimal_visible n

  parts_shown : (path : List Part) → AllShown (part_items path)
  parts_shown [] = tt
  parts_shown (part ∷ path) = (part_shown part, parts_shown path)

  repeat_shown : (r : Repetition) → Shown (repeat_record r)
  repeat_shown r =
      let name = quoted (codes "key") ++ 0x3a ∷ (quoted r.1 ++ []) in
      let last : Visible name = pair_shown (codes "key") (quoted r.1 ++ []) (visible_append (quoted r.1) [] (quoted_visible r.1) tt) in
      let shown = text (list (part_items r.0)) in
      let path = quoted (codes "path") ++ 0x3a ∷ (shown ++ 0x2c ∷ name) in
      let middle : Visible path = pair_shown (codes "path") (shown ++ 0x2c ∷ name) (visible_append shown (0x2c ∷ name) (list_shown (part_items r.0) (parts_shown r.0)) (omega arith, last)) in
      let behind = quoted (codes "RepeatedKey") ++ 0x2c ∷ path in
      let first = pair_shown (codes "error") behind (visible_append (quoted (codes "RepeatedKey")) (0x2c ∷ path) (quoted_visible (codes "RepeatedKey")) (omega arith, middle)) in
      (omega arith, visible_append (quoted (codes "error") ++ 0x3a ∷ behind) (0x7d ∷ []) first (omega arith, tt))

  -- what a job makes of a tree
  taken_shown : (o : Option Repetition) (t : Tree) → Shown t → Shown (unless_refused o repeat_record t)
  taken_shown None t h = h
  taken_shown (Some r) t h = repeat_shown r

  visible_free : (bytes : List ℕ) → Visible bytes → AllByRecursion (λ b. b ≢ 0x0a) bytes
  visible_free bytes h = AllByRecursion-weaker (λ b. 0x20 ≤ b) (λ b. b ≢ 0x0a) (λ b low is. omega arith) bytes h

  pub no_line_feed : NoLineFeed
  no_line_feed job line bytes accepted (inl (t, document, is)) =
      let sound = accepted_sound job.script accepted in
      let s = begun job t in
      let valid : AllValid s = (start_valid t job.keeping (only_trees line t document.spells), tt) in
      visible_free bytes (subst Visible (sym is) (taken_shown (refused_repeat job.repeats t) (outcome job t) (record_shown (replies job s job.script) (after job s job.script).tree (replies_shown job s job.script sound valid) (after_valid job s job.script sound valid).0)))
  no_line_feed job line bytes accepted (inr (e, fault, is)) = visible_free bytes (subst Visible (sym is) (fault_shown e))
