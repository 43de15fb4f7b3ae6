-- What the words of the command line ask for.
use Rattle.std.specs.Prelude.{◌≡◌, ◌≢◌, ◌⊎◌, ◌<◌, ◌^◌, ℕ, true, codes, List, [], ◌∷◌, Option, Some, None, option_and_then, bytes_eq, if◌then◌else◌}
use Rattle.std.specs.Str.Parse.{IsNumeral, digits_value, without_leading_plus}
use Rattle.clap.specs.Words.{App, Kinds, IsAmong, first_of, new_app, new_rule, with_rule, matches_of, fault_of}
use Rattle.clap.specs.Walk.{Row, Rule}
use Rattle.clap.specs.declared.builder.action.ArgAction.TheVariants.{Set}
use Rattle.clap.specs.declared.builder.value_parser.ValueParser.TheVariants as parser
use Rattle.clap.specs.declared.error.kind.ErrorKind.{ErrorKind}
use Rattle.clap.specs.declared.error.kind.ErrorKind.TheVariants.{DisplayHelp}
use Rattle.sj_records.specs.declared.form.Form.{Form}
use Rattle.sj_records.specs.declared.form.Form.TheVariants.{Owned, Borrowed, Lazy}
use Rattle.sj_records.specs.declared.repeats.Repeats.{Repeats}
use Rattle.sj_records.specs.declared.repeats.Repeats.TheVariants.{Keep, Refuse}
use Rattle.records_program.specs.declared.arguments.RunArguments.{RunArguments}

-- the arguments `[--form FORM] [--depth LEVELS] [--repeats RULE] SCRIPT`, with the words that stand for those which aren't given
abbrev pub form_rule : Rule
form_rule = record (new_rule (codes "form")) { long = Some (codes "form"); action = Some Set; value_names = 1; defaults = codes "owned" ∷ [] }

abbrev pub depth_rule : Rule
depth_rule = record (new_rule (codes "depth")) { long = Some (codes "depth"); action = Some Set; value_names = 1; defaults = codes "1024" ∷ []; parser = Some (parser.Unsigned 0 1024) }

abbrev pub repeats_rule : Rule
repeats_rule = record (new_rule (codes "repeats")) { long = Some (codes "repeats"); action = Some Set; value_names = 1; defaults = codes "keep" ∷ [] }

abbrev pub script_rule : Rule
script_rule = record (new_rule (codes "SCRIPT")) { action = Some Set; required = true }

-- the command `records` with these arguments
abbrev pub app : App
app = with_rule (with_rule (with_rule (with_rule (new_app (codes "records")) form_rule) depth_rule) repeats_rule) script_rule

-- why `clap` takes the words for no arguments: the kind of its error, or nothing where it takes them
unfoldable pub kinds_of : List (List ℕ) → Kinds
kinds_of words = fault_of app words

-- the values of each argument that `clap` finds in the words
unfoldable pub rows_in : List (List ℕ) → List Row
rows_in words = matches_of app words

-- the form with this name
abbrev pub form_named : List ℕ → Option Form
form_named name =
    if bytes_eq name (codes "owned") then Some Owned else
    if bytes_eq name (codes "borrowed") then Some Borrowed else
    if bytes_eq name (codes "lazy") then Some Lazy else None

-- the rule for repeated keys with this name
abbrev pub repeats_named : List ℕ → Option Repeats
repeats_named name =
    if bytes_eq name (codes "keep") then Some Keep else
    if bytes_eq name (codes "refuse") then Some Refuse else None

-- The text is this number in decimal. A plus may stand first.
abbrev pub IsNumber : List ℕ → ℕ → Type 0
IsNumber text n = IsNumeral 10 (without_leading_plus text) × (digits_value 10 (without_leading_plus text) ≡ n) × (n < 2 ^ 64)

-- The values are those of a run.
abbrev pub Hold : List Row → RunArguments → Type 0
Hold rows run = (first_of (codes "SCRIPT") rows ≡ Some run.script.now)
    × (option_and_then form_named (first_of (codes "form") rows) ≡ Some run.form)
    × (option_and_then repeats_named (first_of (codes "repeats") rows) ≡ Some run.repeats)
    × ((text : List ℕ) × (first_of (codes "depth") rows ≡ Some text) × IsNumber text run.depth)

-- The words ask for this run, and for nothing else.
abbrev pub AskForRun : List (List ℕ) → RunArguments → Type 0
AskForRun words run = (kinds_of words ≡ []) × Hold (rows_in words) run

-- The words ask for the help.
abbrev pub AskForHelp : List (List ℕ) → Type 0
AskForHelp words = IsAmong DisplayHelp (kinds_of words)

-- The words ask for neither: `clap` refuses them, or they name no form or no rule.
abbrev pub AreRefused : List (List ℕ) → Type 0
AreRefused words = ((kind : ErrorKind) × (kind ≢ DisplayHelp) × IsAmong kind (kinds_of words))
    ⊎ ((kinds_of words ≡ []) × ((run : RunArguments) → Hold (rows_in words) run → ⊥))
