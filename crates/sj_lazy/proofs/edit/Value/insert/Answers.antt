use Rattle.std.proofs.Common.{◌≡◌, List, ℕ, Option, Some, None, Result, Ok, Err, IfErr, OnErr, IsSome, IsOk, IsNone, option_map, refl, ap, sym, ◌∙◌, inr}
use Rattle.std.specs.Cow.{cow_str_bytes}
use Rattle.sj_base.specs.Containers.{members_in}
use Rattle.sj_base.specs.Path.{key, child}
use Rattle.sj_base.specs.Scalar.{decimal_cow_text}
use Rattle.sj_base.specs.declared.fault.AccessError.{AccessError}
use Rattle.sj_base.specs.declared.fault.AccessError.TheVariants.{NotAnObject}
use Rattle.sj_owned.specs.Edits.{refusal}
use Rattle.sj_owned.specs.Parts.{member_of}
use Rattle.sj_owned.specs.Views.{members_view, members_inside}
use Rattle.sj_lazy.specs.Contents.{Document, Value}
use Rattle.sj_lazy.specs.Upgrade.{Refuses, Upgrades, upgraded}
use Rattle.sj_lazy.specs.Views.{document_tree}
use Rattle.sj_lazy.specs.declared.held.Held.TheVariants.{Owned}
use Rattle.sj_lazy.specs.declared.value.TapeOrDocument.TheVariants as lazy
use Rattle.sj_lazy.proofs.Documents.{replaced, members_of_tree, no_child}
use Rattle.sj_lazy.proofs.Upgrades.{upgraded_tree}
use Rattle.sj_lazy.proofs.edit.Value.insert.Goals as goal

pub returns-clause-replaced : goal.returns-clause-replaced
returns-clause-replaced c =
    let d = c.in-Ok.owned.now in
    replaced cow_str_bytes decimal_cow_text d (upgraded c.args.self.now) (cow_str_bytes c.args.key) c.insert.result (upgraded_tree c.args.self.now d c.in-Ok.ensures.value) c.insert.ensures.replaced

same_refusal : {A B : Type 0} (why : AccessError) (f : A → B) (o : Option A) → refusal why o ≡ refusal why (option_map f o)
same_refusal why f None = refl
same_refusal why f (Some x) = refl

refuses : (v : Value) (d w : Document) (k : List ℕ) (r : Result (Option Document) AccessError)
    → Upgrades v d
    → IfErr r (λ e. e ≡ refusal NotAnObject (members_inside d))
    → (IsSome (member_of cow_str_bytes d k) → IsOk r)
    → OnErr r (w ≡ d)
    → IfErr r (Refuses (λ e. (e ≡ refusal NotAnObject (members_in (upgraded v))) × IsNone (child (upgraded v) (key k))) v (lazy.Value (Owned w)))
refuses v d w k (Ok old) made err succeeds same = tt
refuses v d w k (Err e) made err succeeds same =
    let tree = upgraded_tree v d made in
    let members = sym (members_of_tree cow_str_bytes decimal_cow_text d) ∙ ap members_in tree in
    inr (
      (err ∙ same_refusal NotAnObject (members_view cow_str_bytes decimal_cow_text) (members_inside d) ∙ ap (refusal NotAnObject) members, no_child cow_str_bytes decimal_cow_text d (upgraded v) k (Err e) tree succeeds),
      ap document_tree same ∙ tree,
    )

pub returns-clause-err : goal.returns-clause-err
returns-clause-err c =
    refuses c.args.self.now c.in-Ok.owned.now c.insert.new.self (cow_str_bytes c.args.key) c.insert.result c.in-Ok.ensures.value c.insert.ensures.err c.insert.ensures.succeeds c.insert.ensures.unchanged
