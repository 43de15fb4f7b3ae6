use Rattle.std.proofs.Common.{◌≡◌, ℕ, List, map, Option, Result, Ok, Err, refl, inl, inr}
use Rattle.std.specs.Prelude.{Vec, IfErr, OnOk, OnErr}
use Rattle.std.specs.Io.KnownBytes.{Appends}
use Rattle.sj_base.specs.Output.{AppendsPrefix}
use Rattle.std.specs.Fn.{FnOnceReturnsAt}
use Rattle.std.specs.declared.alloc.Global.{Global}
use Rattle.std.proofs.lemmas.Result.{err_from_is_err_and}
use Rattle.std.proofs.KnownBytes.{Keeps-refl}
use Rattle.sj_scripts.specs.Command.{Step}
use Rattle.sj_scripts.specs.Steps.{steps_of}
use Rattle.records_program.specs.declared.fault.Fault.{Fault}
use Rattle.records_program.specs.declared.fault.Fault.TheVariants.{Memory, Read, Write, Arguments, Unreadable, Script}
use Rattle.records_program.specs.declared.arguments.Arguments.TheVariants.{Run, Help}
use Rattle.records_program.specs.declared.arguments.RunArguments.{RunArguments}
use Rattle.records_program.specs.Arguments.{AskForHelp, AskForRun}
use Rattle.records_program.specs.Program.{Loads, HasCommands, ProgramLeaves, RunEnds, run_job}
use Rattle.records_program.specs.inside.Parts.{AreParsedAs, RefusesBytes}
use Rattle.records_program.proofs.program.try_program.Goals as goal

-- a script that is refused
script_refused : (loads : Loads) (words : List (List ℕ)) (unread held : Option (List ℕ)) (run : RunArguments) (bytes : Vec ℕ Global) (fault : Fault)
    → AskForRun words run → loads run.script.now (Ok bytes) → RefusesBytes bytes.items fault → ProgramLeaves loads words unread held held (Err fault)
script_refused loads words unread held run bytes (Script line) given loaded refused = ((run, bytes, (given, loaded), refused), Keeps-refl held)
script_refused loads words unread held run bytes Memory given loaded refused = inr (Keeps-refl held)
script_refused loads words unread held run bytes Read given loaded refused = absurd refused
script_refused loads words unread held run bytes Write given loaded refused = absurd refused
script_refused loads words unread held run bytes (Arguments text) given loaded refused = absurd refused
script_refused loads words unread held run bytes Unreadable given loaded refused = absurd refused

-- a script that ran
script_ran : (loads : Loads) (words : List (List ℕ)) (unread old new : Option (List ℕ)) (run : RunArguments) (script : List Step) (ended : Result Unit Fault)
    → HasCommands loads words run script → RunEnds unread old new (run_job run script) ended → ProgramLeaves loads words unread old new ended
script_ran loads words unread old new run script (Ok done) has ends = inl (run, script, has, ends)
script_ran loads words unread old new run script (Err Memory) has ends = inl (run, script, has, ends)
script_ran loads words unread old new run script (Err Read) has ends = (run, script, has, ends)
script_ran loads words unread old new run script (Err Write) has ends = inl (run, script, has, ends)
script_ran loads words unread old new run script (Err (Arguments text)) has ends = absurd ends.1.4
script_ran loads words unread old new run script (Err Unreadable) has ends = absurd ends.1.4
script_ran loads words unread old new run script (Err (Script line)) has ends = absurd ends.1.4

-- the help was printed
help_printed : (loads : Loads) (words : List (List ℕ)) (unread old new : Option (List ℕ)) (help : List ℕ) (ended : Result Unit Fault)
    → AskForHelp words → OnOk ended (Appends old new help) → OnErr ended (AppendsPrefix old new help) → IfErr ended (λ f. f ≡ Write) → ProgramLeaves loads words unread old new ended
help_printed loads words unread old new help (Ok done) asks ok err only = inr (asks, (help, ok))
help_printed loads words unread old new help (Err Write) asks ok err only = inr (asks, (help, err))
help_printed loads words unread old new help (Err Memory) asks ok err only = absurd cc
help_printed loads words unread old new help (Err Read) asks ok err only = absurd cc
help_printed loads words unread old new help (Err (Arguments text)) asks ok err only = absurd cc
help_printed loads words unread old new help (Err Unreadable) asks ok err only = absurd cc
help_printed loads words unread old new help (Err (Script line)) asks ok err only = absurd cc

pub returns-in-Help : goal.returns-in-Help
returns-in-Help g c =
    let words = map g.S.AsStr.text c.args.words.now in
    let asks : AreParsedAs words (Ok (Help c.in-Help.help)) = rw c.in-Help.is at c.in_ok-arguments.ensures in
    let printed = c.print_help.ensures in
    help_printed (FnOnceReturnsAt g.L.FnOnce c.args.load) words _ _ _ _ c.print_help.result asks printed.ok printed.err printed.only

pub returns-in_err-script : goal.returns-in_err-script
returns-in_err-script g c =
    let p = err_from_is_err_and c.from_residual-in_err-script.result c.from_residual-in_err-script.ensures.1 in
    let words = map g.S.AsStr.text c.args.words.now in
    let bytes = c.in_ok-bytes.bytes in
    let given : AreParsedAs words (Ok (Run c.in-Run.arguments)) = rw c.in-Run.is at c.in_ok-arguments.ensures in
    let why : RefusesBytes bytes.items c.in_err-script.field-0.0 = rw (← c.deref_mut.ensures.value) c.in_err-script.ensures.refused in
    rw (p.1, p.2) (script_refused (FnOnceReturnsAt g.L.FnOnce c.args.load) words (g.I.Read.remaining c.args.input) (g.O.Write.contents c.args.output.now) c.in-Run.arguments bytes c.in_err-script.field-0.0 given (c.in-Run.arguments.script, rw (← c.in_ok-bytes.was) c.load.ensures, refl) why)

pub returns : goal.returns
returns g c =
    let words = map g.S.AsStr.text c.args.words.now in
    let given : AreParsedAs words (Ok (Run c.in-Run.arguments)) = rw c.in-Run.is at c.in_ok-arguments.ensures in
    script_ran (FnOnceReturnsAt g.L.FnOnce c.args.load) words _ _ _ c.in-Run.arguments (steps_of c.in_ok-script.script) c.run_script.result
    (c.in_ok-bytes.bytes, (given, (c.in-Run.arguments.script, rw (← c.in_ok-bytes.was) c.load.ensures, refl)), rw (← c.deref_mut.ensures.value) c.in_ok-script.ensures.ok)
    c.run_script.ensures.stands
