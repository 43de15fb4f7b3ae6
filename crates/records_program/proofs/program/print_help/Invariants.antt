use Rattle.records_program.proofs.program.print_help.Given as goal

-- the output is known by its reference
abbrev pub ghosts-put_counted : goal.ghosts-put_counted
ghosts-put_counted g a = record { name = a.output.ghost_name }
