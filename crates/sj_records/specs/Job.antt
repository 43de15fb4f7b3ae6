-- What is done to each line: a script, under a limit of levels, in a form, by a rule for repeated keys.
use Rattle.std.specs.Prelude.{ℕ}
use Rattle.sj_scripts.specs.declared.script.Script.{Script}
use Rattle.sj_records.specs.declared.form.Form.{Form}
use Rattle.sj_records.specs.declared.form.Form.TheVariants.{Owned, Borrowed, Lazy}
use Rattle.sj_records.specs.declared.repeats.Repeats.{Repeats}
use Rattle.sj_records.specs.declared.repeats.Repeats.TheVariants.{Keep, Refuse}
use Rattle.sj_documents.specs.Step.{Job, Keeping, from_start, from_write, RepeatRule, runs_on_repeats, refuses_repeats}
use Rattle.sj_scripts.specs.Steps.{steps_of}

-- how a form keeps a document
abbrev pub keeping_of : Form → Keeping
keeping_of Owned = from_start
keeping_of Borrowed = from_start
keeping_of Lazy = from_write

abbrev pub repeats_of : Repeats → RepeatRule
repeats_of Keep = runs_on_repeats
repeats_of Refuse = refuses_repeats

-- a run of the script under the depth limit, with documents in the form, by the rule for repeated keys
abbrev pub job_of : Script → ℕ → Form → Repeats → Job
job_of script limit form repeats = record { script = steps_of script; limit = limit; keeping = keeping_of form; repeats = repeats_of repeats }
