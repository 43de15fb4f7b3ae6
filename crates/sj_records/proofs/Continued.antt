-- A second script continues the first.
use Rattle.std.proofs.Common.{◌≡◌, false, List, [], ◌∷◌, ◌++◌, Result, Ok, Err, sym, refl, ap, ap₂, subst, ◌∙◌, inl}
use Rattle.sj_base.specs.Laws.{PrintsBack}
use Rattle.std.specs.List.{AllByRecursion}
use Rattle.sj_base.specs.Path.{Part, at}
use Rattle.sj_base.specs.Text.{text, pretty}
use Rattle.sj_base.specs.Tree.{Tree, item}
use Rattle.sj_base.proofs.Trees.{only_trees}
use Rattle.sj_scripts.specs.Command.{Step, get, contains, type_of, len, keys, insert, remove, push, pop, set_at, undo, reload, reload_pp}
use Rattle.sj_documents.specs.Step.{Job, State, Word, Rewrite, begun, start, base, reply_of, contains_reply, type_reply, len_reply, keys_reply, reload_reply, write_at, settled, rewritten, step, replies, after}
use Rattle.sj_records.specs.Record.{record_of, outcome}
use Rattle.sj_records.specs.History.{is_undo}
use Rattle.sj_records.specs.Laws.{with_script, ScriptsContinue}
use Rattle.sj_records.proofs.Accepted.{accepted_sound}
use Rattle.sj_records.proofs.KeptAlong.{taken_after}
use Rattle.sj_records.proofs.Readable.{readable_after, started_again}
use Rattle.sj_records.proofs.Reloaded.{same_replies, same_after, joined, taken}

-- what commands other than `undo` do hangs on the tree of the state alone
abbrev Alike : Tree × State → Tree × State → Type 0
Alike m n = (m.0 ≡ n.0) × (m.1.tree ≡ n.1.tree)

settled_alike : (b : Tree) (bs cs : List Tree) (r : Result (Tree × Tree) Word) → Alike (settled b bs r) (settled b cs r)
settled_alike b bs cs (Ok w) = (refl, refl)
settled_alike b bs cs (Err word) = (refl, refl)

module _ (job : Job) where
  rewritten_alike : (s u : State) (path : List Part) (change : Rewrite) → s.tree ≡ u.tree → Alike (rewritten job s path change) (rewritten job u path change)
  rewritten_alike s u path change is =
      let b = base s.tree job.keeping in
      subst (λ (t : Tree). Alike (rewritten job s path change) (settled (base t job.keeping) u.bases (write_at (base t job.keeping) path change))) is (settled_alike b s.bases u.bases (write_at b path change))

  alike_step : (s u : State) (c : Step) → is_undo c ≡ false → s.tree ≡ u.tree → Alike (step job s c) (step job u c)
  alike_step s u (get path) other is = (ap (λ t. reply_of (at t path)) is, is)
  alike_step s u (contains path k) other is = (ap (λ t. contains_reply t path k) is, is)
  alike_step s u (type_of path) other is = (ap (λ t. type_reply t path) is, is)
  alike_step s u (len path) other is = (ap (λ t. len_reply t path) is, is)
  alike_step s u (keys path) other is = (ap (λ t. keys_reply t path) is, is)
  alike_step s u (insert path k v) other is = rewritten_alike s u path _ is
  alike_step s u (remove path k) other is = rewritten_alike s u path _ is
  alike_step s u (push path v) other is = rewritten_alike s u path _ is
  alike_step s u (pop path) other is = rewritten_alike s u path _ is
  alike_step s u (set_at path v) other is = rewritten_alike s u path _ is
  alike_step s u undo other is = absurd cc
  alike_step s u reload other is = (ap (λ t. reload_reply (text t)) is, is)
  alike_step s u reload_pp other is = (ap (λ t. reload_reply (pretty t)) is, is)

  alike_replies : (s u : State) (cs : List Step) → AllByRecursion (λ c. is_undo c ≡ false) cs → s.tree ≡ u.tree → replies job s cs ≡ replies job u cs
  alike_replies s u [] others is = refl
  alike_replies s u (c ∷ cs) others is = let one = alike_step s u c others.0 is in ap₂ item one.0 (alike_replies (step job s c).1 (step job u c).1 cs others.1 one.1)

  alike_after : (s u : State) (cs : List Step) → AllByRecursion (λ c. is_undo c ≡ false) cs → s.tree ≡ u.tree → (after job s cs).tree ≡ (after job u cs).tree
  alike_after s u [] others is = is
  alike_after s u (c ∷ cs) others is = let one = alike_step s u c others.0 is in alike_after (step job s c).1 (step job u c).1 cs others.1 one.1

pub scripts_continue : PrintsBack text → ScriptsContinue
scripts_continue prints job line t first second accepted others document none short =
    let s = after job (begun job t) first in
    let sound = accepted_sound first accepted in
    let readable = readable_after job t first sound (only_trees line t document.spells, document.shallow) in
    let begins : s.tree ≡ start s.tree job.keeping = sym (started_again job t first sound) in
    let again = begun job s.tree in
    let same : record_of (replies job s second) (after job s second).tree ≡ outcome (with_script job second) s.tree =
    ap₂ record_of
    (alike_replies job s again second others begins ∙ sym (same_replies job second again second))
    (alike_after job s again second others begins ∙ sym (ap (λ (u : State). u.tree) (same_after job second again second))) in (
      inl (t, document, ap text (sym (taken (with_script job (first ++ second)) t none ∙ joined job t first second))),
      inl (s.tree, record { short = short; spells = prints s.tree readable.0; shallow = readable.1 }, ap text (same ∙ sym (taken (with_script job second) s.tree (taken_after job t first sound none)))),
    )
