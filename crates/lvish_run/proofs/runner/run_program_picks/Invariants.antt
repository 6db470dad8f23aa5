use Rattle.std.proofs.Common.{Some}
use Rattle.lvish_run.proofs.runner.run_program_picks.Given as goal

-- the program and the budget of this run
abbrev pub ghosts-run_named-N-Naming : goal.ghosts-run_named-N-Naming
ghosts-run_named-N-Naming g a = record { program = Some a.program.now; budget = a.budget }

-- and the history of its stamps
abbrev pub ghosts-run_named-N-Origin : goal.ghosts-run_named-N-Origin
ghosts-run_named-N-Origin g a = record { book = a.history.seen.book }
