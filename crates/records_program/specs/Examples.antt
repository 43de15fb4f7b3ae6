-- Worked values: what words ask for.
use Rattle.std.specs.Prelude.{◌≡◌, refl, ℕ, codes, List, [], ◌∷◌, Option, Some, None, option_and_then}
use Rattle.clap.specs.Walk.{walked}
use Rattle.clap.specs.Words.{first_of}
use Rattle.clap.specs.Faults.{walk_fault, flags_fault, defaults_fault}
use Rattle.clap.specs.declared.error.kind.ErrorKind.TheVariants.{DisplayHelp, MissingRequiredArgument, UnknownArgument, ValueValidation}
use Rattle.sj_records.specs.declared.form.Form.{Form}
use Rattle.sj_records.specs.declared.form.Form.TheVariants.{Owned, Borrowed}
use Rattle.sj_records.specs.declared.repeats.Repeats.{Repeats}
use Rattle.sj_records.specs.declared.repeats.Repeats.TheVariants.{Keep, Refuse}
use Rattle.records_program.specs.Arguments.{form_named, repeats_named, kinds_of, rows_in}

-- the texts of SCRIPT and of the depth, the form, and the rule for repeated keys, that the words give
abbrev script_in : List (List ℕ) → Option (List ℕ)
script_in words = first_of (codes "SCRIPT") (rows_in words)

abbrev form_in : List (List ℕ) → Option Form
form_in words = option_and_then form_named (first_of (codes "form") (rows_in words))

abbrev depth_in : List (List ℕ) → Option (List ℕ)
depth_in words = first_of (codes "depth") (rows_in words)

abbrev repeats_in : List (List ℕ) → Option Repeats
repeats_in words = option_and_then repeats_named (first_of (codes "repeats") (rows_in words))

-- `records get.json`

abbrev plain : List (List ℕ)
plain = codes "records" ∷ codes "get.json" ∷ []

plain_kinds : kinds_of plain ≡ []
unfolding kinds_of walked walk_fault flags_fault defaults_fault
plain_kinds = refl

plain_values : (script_in plain ≡ Some (codes "get.json")) × (form_in plain ≡ Some Owned) × (depth_in plain ≡ Some (codes "1024")) × (repeats_in plain ≡ Some Keep)
unfolding rows_in walked
plain_values = (refl, refl, refl, refl)

-- `records --form borrowed --depth=7 get.json --repeats refuse`

abbrev options : List (List ℕ)
options = codes "records" ∷ codes "--form" ∷ codes "borrowed" ∷ codes "--depth=7" ∷ codes "get.json" ∷ codes "--repeats" ∷ codes "refuse" ∷ []

options_kinds : kinds_of options ≡ []
unfolding kinds_of walked walk_fault flags_fault defaults_fault
options_kinds = refl

options_values : (script_in options ≡ Some (codes "get.json")) × (form_in options ≡ Some Borrowed) × (depth_in options ≡ Some (codes "7")) × (repeats_in options ≡ Some Refuse)
unfolding rows_in walked
options_values = (refl, refl, refl, refl)

-- `records -- --help`

abbrev dashes : List (List ℕ)
dashes = codes "records" ∷ codes "--" ∷ codes "--help" ∷ []

dashes_kinds : kinds_of dashes ≡ []
unfolding kinds_of walked walk_fault flags_fault defaults_fault
dashes_kinds = refl

dashes_script : script_in dashes ≡ Some (codes "--help")
unfolding rows_in walked
dashes_script = refl

-- words that name no form and no rule

abbrev tape : List (List ℕ)
tape = codes "records" ∷ codes "--form" ∷ codes "tape" ∷ codes "get.json" ∷ []

tape_form : form_in tape ≡ None
unfolding rows_in walked
tape_form = refl

abbrev dropping : List (List ℕ)
dropping = codes "records" ∷ codes "--repeats" ∷ codes "drop" ∷ codes "get.json" ∷ []

dropping_rule : repeats_in dropping ≡ None
unfolding rows_in walked
dropping_rule = refl

-- words that `clap` takes for no arguments

no_word : kinds_of (codes "records" ∷ []) ≡ MissingRequiredArgument ∷ []
unfolding kinds_of walked walk_fault flags_fault defaults_fault
no_word = refl

two_words : kinds_of (codes "records" ∷ codes "a" ∷ codes "b" ∷ []) ≡ UnknownArgument ∷ []
unfolding kinds_of walked walk_fault flags_fault defaults_fault
two_words = refl

unknown_flag : kinds_of (codes "records" ∷ codes "--frob" ∷ codes "a" ∷ []) ≡ UnknownArgument ∷ []
unfolding kinds_of walked walk_fault flags_fault defaults_fault
unknown_flag = refl

too_deep : kinds_of (codes "records" ∷ codes "--depth" ∷ codes "1025" ∷ codes "a" ∷ []) ≡ ValueValidation ∷ []
unfolding kinds_of walked walk_fault flags_fault defaults_fault
too_deep = refl

help : kinds_of (codes "records" ∷ codes "--help" ∷ []) ≡ DisplayHelp ∷ []
unfolding kinds_of walked walk_fault flags_fault defaults_fault
help = refl
