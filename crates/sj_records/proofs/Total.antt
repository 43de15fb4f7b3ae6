-- Each line has exactly one record, and each script is read in exactly one way.
use Rattle.std.proofs.Common.{◌≡◌, ℕ, List, [], ◌∷◌, ◌++◌, Option, Some, None, Err, refl, sym, ap, ◌∙◌, inl, inr}
use Rattle.sj_base.specs.Tree.{Tree}
use Rattle.sj_base.specs.Spelling.{Document}
use Rattle.sj_base.specs.Text.{text}
use Rattle.sj_base.specs.declared.error.Error.{Error}
use Rattle.sj_parse.specs.Fault.{fault}
use Rattle.sj_parse.proofs.Documents.{fault_or_tree}
use Rattle.sj_base.proofs.Meanings.{same_tree}
use Rattle.sj_documents.specs.Step.{Job}
use Rattle.sj_scripts.specs.Command.{json, commands_of}
use Rattle.sj_scripts.specs.Reading.{ComesOf}
use Rattle.sj_records.specs.Record.{fault_record, tree_record, AreRecords}
use Rattle.sj_scripts.specs.Script.{script_limit}
use Rattle.sj_records.specs.Laws.{ExactlyOne, OneRecord, OneReading}

module _ {A : Type 0} (g : Tree → A) (h : Error → A) (line : List ℕ) (limit : ℕ) where
  some_outcome : (o : Option Error) → fault line limit ≡ o → (x : A) × ComesOf g h line limit x
  some_outcome None none = let found = (fault_or_tree line limit).0 none in (g found.0, inl (found.0, found.1, refl))
  some_outcome (Some e) is = (h e, inr (e, is, refl))

  not_both : (t : Tree) (e : Error) → Document line limit t → fault line limit ≡ Some e → ⊥
  not_both t e document is = let none = (fault_or_tree line limit).1 (t, document) in absurd cc

  one_tree : (t u : Tree) → Document line limit t → Document line limit u → t ≡ u
  one_tree t u d e = same_tree line t u d.spells e.spells

  same_error : (d e : Error) → Some d ≡ Some e → d ≡ e
  same_error d e is = cc

  same_outcome : (x y : A) → ComesOf g h line limit x → ComesOf g h line limit y → y ≡ x
  same_outcome x y (inl a) (inl b) = b.2 ∙ ap g (one_tree b.0 a.0 b.1 a.1) ∙ sym a.2
  same_outcome x y (inl a) (inr b) = absurd (not_both a.0 b.0 a.1 b.1)
  same_outcome x y (inr a) (inl b) = absurd (not_both b.0 a.0 b.1 a.1)
  same_outcome x y (inr a) (inr b) = b.2 ∙ ap h (same_error b.0 a.0 (sym b.1 ∙ a.1)) ∙ sym a.2

  one_outcome : ExactlyOne (ComesOf g h line limit)
  one_outcome = let some = some_outcome (fault line limit) refl in (some.0, some.1, λ y read. same_outcome some.0 y some.1 read)

pub one_record : OneRecord
one_record job line = one_outcome (λ t. text (tree_record job t)) (λ e. text (fault_record e)) line job.limit

pub one_reading : OneReading
one_reading bytes = one_outcome commands_of (λ e. Err (json e)) bytes script_limit

pub AreRecords-exist : (job : Job) (ls : List (List ℕ)) → (bytes : List ℕ) × AreRecords job ls bytes
AreRecords-exist job [] = ([], refl)
AreRecords-exist job (line ∷ ls) =
    let first = one_record job line in
    let rest = AreRecords-exist job ls in
    (first.0 ++ 0x0a ∷ rest.0, (first.0, rest.0, refl, first.1, rest.1))
