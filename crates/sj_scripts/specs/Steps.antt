-- The commands of a script that was read.
use Rattle.std.specs.Prelude.{List}
use Rattle.sj_scripts.specs.declared.script.Script.{Script}
use Rattle.sj_scripts.specs.Command.{Step}
use Rattle.sj_scripts.specs.Script.{commands_view}

abbrev pub steps_of : Script → List Step
steps_of script = commands_view script.commands.items
