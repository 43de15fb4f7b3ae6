-- A text has no fault exactly where it is a document, and the descent reads the document's tree.
use Rattle.std.proofs.Common.{◌≡◌, ℕ, zero, suc, ◌≤◌, Bool, true, false, not, ◌||◌, List, [], ◌∷◌, ◌++◌, length, Option, Some, None, Ok, Err, append-nil, refl, sym, ap, ◌∙◌}
use Rattle.std.specs.Prelude.{if◌then◌else◌, nat_lt, map}
use Rattle.std.specs.Str.{is_utf8}
use Rattle.std.proofs.lemmas.Bool.{ltb-false, le-ltb, or_parts, not-false}
use Rattle.std.proofs.lemmas.Str.{IsUtf8-from_is_utf8, is_utf8-from_IsUtf8}
use Rattle.sj_scan.specs.declared.stage1.ScanFault.{ScanFault}
use Rattle.sj_scan.specs.declared.stage1.ScanFault.TheVariants.{Utf8, Unclosed, Control}
use Rattle.sj_scan.specs.Positions.{positions}
use Rattle.sj_scan.specs.Scan.{is_closed, has_control, if_none, scan_fault}
use Rattle.sj_parse.specs.declared.descent_fault.DescentKind.{DescentKind}
use Rattle.sj_parse.specs.declared.descent_fault.DescentKind.TheVariants.{InternalError}
use Rattle.sj_base.specs.Tree.{Tree}
use Rattle.sj_base.specs.Spelling.{Spells, SpellsValue}
use Rattle.sj_base.specs.Spelling.{longest, Document}
use Rattle.sj_base.proofs.Utf8.{only_utf8}
use Rattle.sj_parse.specs.declared.descent_fault.Stop.{Stop}
use Rattle.sj_parse.specs.Token.{Token, token_at, tokens}
use Rattle.sj_parse.specs.Escapes.{stop}
use Rattle.sj_parse.specs.Descent.{Left, left, left_kind, if_tokens, nothing_left, descent}
use Rattle.sj_parse.specs.Fault.{fault_behind, stop_fault, fault}
use Rattle.sj_parse.specs.Laws.{FaultOrTree}
use Rattle.sj_parse.specs.inside.Trees.{Reading, tree_value}
use Rattle.sj_parse.proofs.Forget.{forget, forget-tree_value}
use Rattle.sj_parse.proofs.Walk.{tokens-walk, bad-walk}
use Rattle.sj_parse.proofs.Pieces.{clean}
use Rattle.sj_parse.proofs.FirstToken.{Good, Takes}
use Rattle.sj_parse.proofs.ReadingValues.{reads_padded}
use Rattle.sj_parse.proofs.Complete.{reads_value}
use Rattle.sj_parse.proofs.Sound.{find_value, no_tokens}

-- ---- no fault, test by test

-- what no fault says
record Faultless (line : List ℕ) (limit : ℕ) : Type 0 where
  short : length line ≤ longest
  utf8 : is_utf8 line ≡ true
  closed : is_closed line ≡ true
  control : has_control line ≡ false
  some : if_none (positions line) ≡ None
  descends : descent (tokens line) limit ≡ None

unless_parts : {A : Type 0} (b : Bool) (x : A) (o : Option A) → (if b then Some x else o) ≡ None → (b ≡ false) × (o ≡ None)
unless_parts true x o e = absurd cc
unless_parts false x o e = (refl, e)

stop_parts : (line : List ℕ) (o : Option Stop) → stop_fault line o ≡ None → o ≡ None
stop_parts line None e = refl
stop_parts line (Some s) e = absurd cc

behind_parts : (line : List ℕ) (limit : ℕ) (o : Option ScanFault) → fault_behind line limit o ≡ None → (o ≡ None) × (descent (tokens line) limit ≡ None)
behind_parts line limit None e = (refl, stop_parts line (descent (tokens line) limit) e)
behind_parts line limit (Some f) e = absurd cc

faultless : (line : List ℕ) (limit : ℕ) → fault line limit ≡ None → Faultless line limit
faultless line limit e =
    let p = unless_parts (nat_lt longest (length line)) _ (fault_behind line limit (scan_fault line)) e in
    let q = behind_parts line limit (scan_fault line) p.1 in
    let utf8 = unless_parts (not (is_utf8 line)) Utf8 _ q.0 in
    let closed = unless_parts (not (is_closed line)) Unclosed _ utf8.1 in
    let control = unless_parts (has_control line) Control _ closed.1 in
    record {
      short = ltb-false longest (length line) p.0;
      utf8 = not-false (is_utf8 line) utf8.0;
      closed = not-false (is_closed line) closed.0;
      control = control.0;
      some = control.1;
      descends = q.1;
    }

no_fault : (line : List ℕ) (limit : ℕ) → Faultless line limit → fault line limit ≡ None
no_fault line limit h =
    let long = le-ltb longest (length line) h.short in
    let utf8 = h.utf8 in
    let closed = h.closed in
    let control = h.control in
    let some = h.some in
    let scanned : scan_fault line ≡ None = rw (utf8, closed, control) some in
    rw long (ap (fault_behind line limit) scanned ∙ ap (stop_fault line) h.descends)

-- ---- from no fault to a tree

-- a descent that stops nowhere read a tree and left nothing
left_nothing : (kind : DescentKind) (r : Reading Tree) → nothing_left kind (forget r) ≡ None → (t : Tree) × (last : ℕ) × (r ≡ Ok (t, left last []))
left_nothing kind (Ok p) e = (p.0, p.1.last, ap (λ ts. Ok (p.0, left p.1.last ts)) (nothing p.1.tokens (stop kind p.1.last) e))
  where
    nothing : (ts : List Token) (s : Stop) → if_tokens ts s ≡ None → ts ≡ []
    nothing [] s h = refl
    nothing (t ∷ ts) s h = absurd cc
left_nothing kind (Err s) e = absurd cc

tree_read : (line : List ℕ) (limit : ℕ) → descent (tokens line) limit ≡ None → (t : Tree) × (last : ℕ) × (tree_value limit InternalError 0 (tokens line) ≡ Ok (t, left last []))
tree_read line limit e =
    left_nothing (left_kind (tokens line)) (tree_value limit InternalError 0 (tokens line)) (ap (nothing_left (left_kind (tokens line))) (sym (forget-tree_value limit InternalError 0 (tokens line))) ∙ e)

spelled_by : (line : List ℕ) (t : Tree) (h : Takes (SpellsValue t) line []) → Spells line t
spelled_by line t h = record {
  before = h.spaces;
  inner = h.piece;
  after = h.rest;
  parts = h.parts;
  spaces_before = h.are_spaces;
  spaces_after = no_tokens h.rest h.end (sym h.left);
  holds = h.holds;
}

-- A text without a fault is a document, and its tree is what the descent reads.
pub document-of_tree_value : (line : List ℕ) (limit : ℕ) → fault line limit ≡ None → (t : Tree) × Document line limit t × ((last : ℕ) × (tree_value limit InternalError 0 (tokens line) ≡ Ok (t, left last [])))
document-of_tree_value line limit e =
    let h = faultless line limit e in
    let r = tree_read line limit h.descends in
    let closed = h.closed in
    let good : Good 0 line = record { good = sym (bad-walk line) ∙ rw (h.control, closed) refl; utf8 = IsUtf8-from_is_utf8 line h.utf8 } in
    let f = find_value limit InternalError 0 line 0 (tokens line) r.0 (left r.1 []) good (sym (tokens-walk line)) r.2 in
    (r.0, record { short = h.short; spells = spelled_by line r.0 f.0; shallow = f.1 }, (r.1, r.2))

-- ---- from a tree to no fault

some_positions : (f : ℕ → Token) (ps : List ℕ) → (map f ps ≡ [] → ⊥) → if_none ps ≡ None
some_positions f [] h = absurd (h refl)
some_positions f (p ∷ ps) h = refl

nothing_read : (limit : ℕ) (t : Tree) (l : Left) → tree_value limit InternalError 0 [] ≡ Ok (t, l) → ⊥
unfolding tree_value
nothing_read zero t l e = cc
nothing_read (suc limit) t l e = cc

-- A document has no fault.
pub no_fault-from_document : (line : List ℕ) (limit : ℕ) (t : Tree) → Document line limit t → fault line limit ≡ None
no_fault-from_document line limit t d =
    let k = reads_padded limit t line d.spells (reads_value t limit d.spells.inner d.spells.holds d.shallow) 0 [] InternalError 0 tt in
    let whole : clean 0 line ≡ clean 0 (line ++ []) = ap (clean 0) (sym (append-nil line)) in
    let good : (has_control line || not (is_closed line)) ≡ false = bad-walk line ∙ ap (λ w. w.bad) whole ∙ k.bad in
    let read : tree_value limit InternalError 0 (tokens line) ≡ Ok (t, left k.last []) = ap (tree_value limit InternalError 0) (tokens-walk line ∙ ap (λ w. w.tokens) whole) ∙ k.reads in
    let p = or_parts (has_control line) (not (is_closed line)) good in
    no_fault line limit (record {
      short = d.short;
      utf8 = is_utf8-from_IsUtf8 line (only_utf8 line t d.spells);
      closed = not-false (is_closed line) p.1;
      control = p.0;
      some = some_positions (token_at line) (positions line) (λ none. nothing_read limit t (left k.last []) (ap (tree_value limit InternalError 0) (sym none) ∙ read));
      descends = ap (nothing_left (left_kind (tokens line))) (forget-tree_value limit InternalError 0 (tokens line) ∙ ap (λ r. forget r) read);
    })

-- A text has a fault or a tree.
pub fault_or_tree : FaultOrTree
fault_or_tree line limit =
    ((λ e. let d = document-of_tree_value line limit e in (d.0, d.1)), (λ d. no_fault-from_document line limit d.0 d.1))
