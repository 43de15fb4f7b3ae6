-- The text of a record, piece by piece.
use Rattle.std.proofs.Common.{◌≡◌, ℕ, suc, ◌<◌, ◌≤◌, Bool, true, false, List, [], ◌∷◌, ◌++◌, length, Option, Some, None, codes, append_assoc, refl, sym, ap, ap₂, subst, ◌∙◌, arith}
use Rattle.std.proofs.lemmas.List.{append-nil}
use Rattle.sj_base.specs.Tree.{Tree, Items, item}
use Rattle.sj_base.specs.Text.{quoted, text, items_text, more_items_text}
use Rattle.sj_scripts.specs.declared.script.Command.{Command}
use Rattle.sj_scripts.specs.Command.{Step, get, contains, type_of, len, keys, insert, remove, push, pop, set_at, undo, reload, reload_pp}
use Rattle.sj_documents.specs.Step.{Job, Keeping, State, step, replies, after}
use Rattle.sj_documents.specs.declared.inverse.Inverse.{Inverse}
use Rattle.sj_documents.specs.declared.inverse.Undo.{Undo}
use Rattle.sj_records.specs.History.{StandFor, bare, Applied}
use Rattle.sj_records.specs.Laws.{with_script}
use Rattle.sj_tape.specs.Repeats.{Repetition}
use Rattle.sj_records.specs.Record.{record_of, part_items, repeat_record}
use Rattle.sj_scripts.specs.Script.{commands_view}
use Rattle.sj_documents.specs.inside.Documents.{items_left}
use Rattle.sj_documents.proofs.ListedKeys.{nothing_left}
use Rattle.sj_records.specs.inside.Separator.{separator}
use Rattle.sj_records.specs.inside.Reloads.{record_from, IsPrinted, Reloads, Runs}
use Rattle.sj_records.specs.Texts.{reread, reloads}

-- the text of a record whose first commands are still to be run
pub record_begun : (job : Job) (s : State) (cs : List Step) (out : List ℕ)
    → (out ++ codes "{\"replies\":[") ++ record_from job s cs true ≡ out ++ text (record_of (replies job s cs) (after job s cs).tree)
record_begun job s cs out = simp (append_assoc, append-nil)

-- what a command does hangs on no script
pub same_step : (job : Job) (script : List Step) (s : State) (c : Step) → step (with_script job script) s c ≡ step job s c
same_step job script s (get path) = refl
same_step job script s (contains path k) = refl
same_step job script s (type_of path) = refl
same_step job script s (len path) = refl
same_step job script s (keys path) = refl
same_step job script s (insert path k v) = refl
same_step job script s (remove path k) = refl
same_step job script s (push path v) = refl
same_step job script s (pop path) = refl
same_step job script s (set_at path v) = refl
same_step job script s undo = refl
same_step job script s reload = refl
same_step job script s reload_pp = refl

-- a command on a document that stands for the state
pub step-on : (how : Undo) (job : Job) (s : State) (keeping : Keeping) (u : Tree) (history : List Inverse) (old new : List ℕ) (c : Step) → keeping ≡ job.keeping → Applied how keeping job.limit s c old new u history
    → (new ≡ old ++ text (step job s c).0) × StandFor how keeping u history (step job s c).1
step-on how job s keeping u history old new c same done =
    let is : step (bare keeping job.limit) s c ≡ step job s c = ap (λ k. step (bare k job.limit) s c) same ∙ same_step job [] s c in
    subst (λ (n : Tree × State). (new ≡ old ++ text n.0) × StandFor how keeping u history n.1) is done

-- the tree of the state, in the place of the document's
pub stands_again : (how : Undo) (keeping other : Keeping) (t : Tree) (history : List Inverse) (s : State) → keeping ≡ other → StandFor how keeping t history s → StandFor how other s.tree history s
stands_again how keeping other t history s same stand =
    subst (λ (k : Keeping). StandFor how k s.tree history s) same (subst (λ (u : Tree). StandFor how keeping u history s) (sym stand.0) stand)

-- a document that was made for the state
pub stands_begun : (how : Undo) (keeping other : Keeping) (t u : Tree) (history : List Inverse) (s : State) → other ≡ keeping → u ≡ t → StandFor how keeping t history s → StandFor how other u history s
stands_begun how keeping other t u history s same is stand =
    subst (λ (k : Keeping). StandFor how k u history s) (sym same) (subst (λ (v : Tree). StandFor how keeping v history s) (sym is) stand)

-- ---- a script, one command after the other

pub after_join : (job : Job) (s : State) (cs ds : List Step) → after job s (cs ++ ds) ≡ after job (after job s cs) ds
after_join job s [] ds = refl
after_join job s (c ∷ cs) ds = after_join job (step job s c).1 cs ds

-- a reply, with what stands before it, and the replies behind it
reply_left : (b : Bool) (r : Tree) (rs : Items) → items_left b (item r rs) ≡ separator b ++ (text r ++ more_items_text rs)
reply_left true r rs = refl
reply_left false r rs = refl

-- Since the state was `first`, the commands before `left` were run, and their replies were appended to `before`. The texts are
-- those that their reloads are to read.
pub record Running (job : Job) (first : State) (cs left : List Step) (began is_first : Bool) (before out : List ℕ) (texts : List (List ℕ)) : Type 0 where
  pub ran : List Step
  pub parts : cs ≡ ran ++ left
  pub within : length left ≤ length cs
  pub written : out ++ record_from job (after job first ran) left is_first ≡ before ++ record_from job first cs began
  pub read : reloads job first cs ≡ texts ++ reloads job (after job first ran) left

module _ (how : Undo) (job : Job) (first : State) (cs : List Step) (began : Bool) (before : List ℕ) where
  pub Running-begin : (r : Running job first cs cs began began before before []) × (after job first r.ran ≡ first)
  Running-begin = (record { ran = []; parts = refl; within = omega arith; written = refl; read = refl }, refl)

  -- one more command
  pub Running-more : (left rest : List Step) (c : Step) (b : Bool) (out mid new : List ℕ) (texts : List (List ℕ)) (r : Running job first cs left began b before out []) → left ≡ c ∷ rest
      → mid ≡ out ++ separator b → new ≡ mid ++ text (step job (after job first r.ran) c).0 → reread (after job first r.ran) c ≡ texts
      → (m : Running job first cs rest began false before new texts) × (after job first m.ran ≡ (step job (after job first r.ran) c).1)
  Running-more left rest c b out mid new texts r is between replied reads =
      let s = after job first r.ran in
      let u = (step job s c).1 in
      let reached : after job first (r.ran ++ c ∷ []) ≡ u = after_join job first r.ran (c ∷ []) in
      let rs = replies job u rest in
      let t = (step job s c).0 in
      let behind = codes "],\"document\":" ++ (text (after job u rest).tree ++ 0x7d ∷ []) in
      let apart : ((out ++ separator b) ++ text t) ++ (more_items_text rs ++ behind) ≡ out ++ ((separator b ++ (text t ++ more_items_text rs)) ++ behind) = simp (append_assoc) in
      let joined : out ++ ((separator b ++ (text t ++ more_items_text rs)) ++ behind) ≡ out ++ record_from job s (c ∷ rest) b = ap (λ bs. out ++ (bs ++ behind)) (sym (reply_left b t rs)) in
      let now : new ++ record_from job u rest false ≡ out ++ record_from job s left b =
      ap (λ bs. bs ++ record_from job u rest false) (replied ∙ ap (λ bs. bs ++ text t) between) ∙ apart ∙ joined ∙ ap (λ ls. out ++ record_from job s ls b) (sym is) in
      let fewer = ap (λ (ls : List Step). length ls) is in
      let within = r.within in (
        record {
          ran = r.ran ++ c ∷ [];
          parts = r.parts ∙ ap (λ ls. r.ran ++ ls) is ∙ sym (append_assoc r.ran (c ∷ []) rest);
          within = omega arith;
          written = ap (λ (v : State). new ++ record_from job v rest false) reached ∙ now ∙ r.written;
          read = r.read ∙ ap (λ ls. reloads job s ls) is ∙ ap (λ ts. ts ++ reloads job u rest) reads ∙ ap (λ (v : State). texts ++ reloads job v rest) (sym reached);
        },
        reached,
      )

  -- up to a reload
  pub Running-stop : (left : List Step) (b : Bool) (history : List Inverse) (printed out : List ℕ) (r : Running job first cs left began b before out (printed ∷ [])) → b ≡ false → length left < length cs → IsPrinted (after job first r.ran).tree printed
      → StandFor how job.keeping (after job first r.ran).tree history (after job first r.ran) → Reloads how job first cs left began history printed before out []
  Running-stop left b history printed out r later fewer is_printed stands =
      record { ran = r.ran; parts = r.parts; fewer = fewer; is_printed = is_printed; stands = stands; written = ap (λ (b : Bool). out ++ record_from job (after job first r.ran) left b) (sym later) ∙ r.written; read = r.read }

  -- up to the end
  pub Running-end : (left : List Step) (b : Bool) (t : Tree) (out named shown new : List ℕ) (r : Running job first cs left began b before out []) → left ≡ [] → (after job first r.ran).tree ≡ t
      → named ≡ out ++ codes "],\"document\":" → shown ≡ named ++ text t → new ≡ shown ++ 0x7d ∷ [] → (new ≡ before ++ record_from job first cs began) × (reloads job first cs ≡ [])
  Running-end left b t out named shown new r none is names shows ends =
      let s = after job first r.ran in
      let apart : ((out ++ codes "],\"document\":") ++ text t) ++ 0x7d ∷ [] ≡ out ++ (codes "],\"document\":" ++ (text t ++ 0x7d ∷ [])) = simp (append_assoc) in
      let last : out ++ record_from job s [] b ≡ out ++ (codes "],\"document\":" ++ (text t ++ 0x7d ∷ [])) =
      ap₂ (λ (bs : List ℕ) (u : Tree). out ++ (bs ++ (codes "],\"document\":" ++ (text u ++ 0x7d ∷ [])))) (nothing_left b) is in (
        ends ∙ ap (λ bs. bs ++ 0x7d ∷ []) (shows ∙ ap (λ bs. bs ++ text t) names) ∙ apart ∙ sym last ∙ ap (λ ls. out ++ record_from job s ls b) (sym none) ∙ r.written,
        r.read ∙ ap (λ ls. reloads job s ls) none,
      )

-- the commands behind a reload, after those before it
pub Runs-on : (how : Undo) (job : Job) (s : State) (cs left : List Step) (b : Bool) (next : Option (List Command)) (history history2 : List Inverse) (printed printed2 old mid new : List ℕ) (texts texts2 : List (List ℕ)) (r : Reloads how job s cs left b history printed old mid texts)
    → Runs how job (after job s r.ran) left false next history2 printed2 mid new texts2 → Runs how job s cs b next history2 printed2 old new (texts ++ printed ∷ texts2)
Runs-on how job s cs left b None history history2 printed printed2 old mid new texts texts2 r done = (done.0 ∙ r.written, r.read ∙ ap (λ ts. texts ++ printed ∷ ts) done.1)
Runs-on how job s cs left b (Some next) history history2 printed printed2 old mid new texts texts2 r more =
    let reached = after_join job s r.ran more.ran in
    let first = r.fewer in
    let then = more.fewer in
    record {
      ran = r.ran ++ more.ran;
      parts = r.parts ∙ ap (λ ls. r.ran ++ ls) more.parts ∙ sym (append_assoc r.ran more.ran (commands_view next));
      fewer = omega arith;
      is_printed = subst (λ (u : State). IsPrinted u.tree printed2) (sym reached) more.is_printed;
      stands = subst (λ (u : State). StandFor how job.keeping u.tree history2 u) (sym reached) more.stands;
      written = ap (λ (u : State). new ++ record_from job u (commands_view next) false) reached ∙ more.written ∙ r.written;
      read = r.read ∙ ap (λ ts. texts ++ printed ∷ ts) more.read ∙ sym (append_assoc texts (printed ∷ texts2) (printed2 ∷ reloads job (after job (after job s r.ran) more.ran) (commands_view next)))
          ∙ ap (λ (u : State). (texts ++ printed ∷ texts2) ++ printed2 ∷ reloads job u (commands_view next)) (sym reached);
    }

-- the number of commands behind a reload, and one more
abbrev pub left_len : Option (List Command) → ℕ
left_len None = 0
left_len (Some left) = suc (length (commands_view left))

pub fewer_left : (how : Undo) (job : Job) (s : State) (cs : List Step) (b : Bool) (next : Option (List Command)) (history : List Inverse) (printed old new : List ℕ) (texts : List (List ℕ)) → Runs how job s cs b next history printed old new texts → left_len next ≤ length cs
fewer_left how job s cs b None history printed old new texts done = omega arith
fewer_left how job s cs b (Some next) history printed old new texts more = let fewer = more.fewer in omega arith

-- the record of a repeated key, piece by piece
pub repeat_printed : (r : Repetition) (out opened path named key ended : List ℕ) → opened ≡ out ++ codes "{\"error\":\"RepeatedKey\",\"path\":[" → path ≡ opened ++ items_text (part_items r.0)
    → named ≡ path ++ codes "],\"key\":" → key ≡ named ++ quoted r.1 → ended ≡ key ++ 0x7d ∷ [] → ended ≡ out ++ text (repeat_record r)
repeat_printed r out opened path named key ended begins parts names shows ends =
    let first = codes "{\"error\":\"RepeatedKey\",\"path\":[" in
    let second = codes "],\"key\":" in
    let items = items_text (part_items r.0) in
    let pieces : ((((out ++ first) ++ items) ++ second) ++ quoted r.1) ++ 0x7d ∷ [] ≡ out ++ (first ++ (items ++ (second ++ (quoted r.1 ++ 0x7d ∷ [])))) = simp (append_assoc) in
    let whole : text (repeat_record r) ≡ first ++ (items ++ (second ++ (quoted r.1 ++ 0x7d ∷ []))) = simp (append_assoc, append-nil) in
    ends ∙ ap (λ bs. bs ++ 0x7d ∷ []) (shows ∙ ap (λ bs. bs ++ quoted r.1) (names ∙ ap (λ bs. bs ++ second) (parts ∙ ap (λ bs. bs ++ items) begins))) ∙ pieces ∙ ap (λ bs. out ++ bs) (sym whole)
