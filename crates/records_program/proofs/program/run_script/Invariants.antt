use Rattle.records_program.proofs.program.run_script.Given as goal

-- the output is known by its reference
abbrev pub ghosts-run_counted : goal.ghosts-run_counted
ghosts-run_counted g a = record { name = a.output.ghost_name }
