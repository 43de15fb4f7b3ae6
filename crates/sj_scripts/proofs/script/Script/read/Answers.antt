use Rattle.std.proofs.Common.{◌≡◌, ℕ, List, Result, inl, ap, sym, ◌∙◌, rules}
use Rattle.std.proofs.lemmas.Result.{err_from_is_err_and}
use Rattle.sj_base.specs.Tree.{Tree}
use Rattle.sj_base.specs.Spelling.{Document}
use Rattle.sj_base.specs.Keep.{keep}
use Rattle.sj_scripts.specs.declared.script.ScriptFault.{ScriptFault}
use Rattle.sj_scripts.specs.declared.script.ScriptFault.TheVariants.{Json, NotAnArray, Command, Memory}
use Rattle.sj_scripts.specs.Command.{Step, Refusal, commands_in}
use Rattle.sj_scripts.specs.Script.{IsReadAs, IsRefusedAs, script_limit}
use Rattle.sj_scripts.specs.inside.ReadErrors.{IsRefusalOf}
use Rattle.sj_scripts.specs.Values.{owned_tree}
use Rattle.sj_scripts.proofs.script.Script.read.Goals as goal

-- the tree of the bytes, with the first member of each key alone
abbrev IsReadTree : List ℕ → ℕ → Tree → Type 0
IsReadTree bytes limit u = (t : Tree) × Document bytes limit t × (u ≡ keep t)

-- what is read of a kept tree is read of the tree
read_as : (bytes : List ℕ) (u : Tree) (r : Result (List Step) Refusal) → IsReadTree bytes script_limit u → commands_in u ≡ r → IsReadAs bytes r
read_as bytes u r kept read = inl (kept.0, kept.1, sym read ∙ ap commands_in kept.2)

refused_as : (e : ScriptFault) (bytes : List ℕ) (u : Tree) → IsReadTree bytes script_limit u → IsRefusalOf e (commands_in u) → IsRefusedAs e bytes
refused_as (Json e) bytes u kept read = absurd read
refused_as NotAnArray bytes u kept read = read_as bytes u _ kept read
refused_as (Command place fault) bytes u kept read = read_as bytes u _ kept read
refused_as Memory bytes u kept read = tt

pub returns-in_err-commands-clause-refused : goal.returns-in_err-commands-clause-refused
returns-in_err-commands-clause-refused c =
    let p = err_from_is_err_and c.from_residual-in_err-commands.result c.from_residual-in_err-commands.ensures.1 in
    rw (p.1, p.2) (refused_as c.in_err-commands.field-0.0 c.args.bytes.now (owned_tree c.in_ok-document.document) c.in_ok-document.ensures.answers c.in_err-commands.ensures)

pub returns-clause-ok : goal.returns-clause-ok
returns-clause-ok c =
    read_as c.args.bytes.now (owned_tree c.in_ok-document.document) _ c.in_ok-document.ensures.answers c.in_ok-commands.ensures

pub invariant_of-result : goal.invariant_of-result
invariant_of-result c =
    record { is_accepted = ∣ (c.args.bytes.now, read_as c.args.bytes.now (owned_tree c.in_ok-document.document) _ c.in_ok-document.ensures.answers c.in_ok-commands.ensures) ∣₁ }

pub returns-in_err-document-clause-refused : goal.returns-in_err-document-clause-refused
returns-in_err-document-clause-refused c = search rules
