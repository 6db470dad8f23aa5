use Rattle.lvish_board_probe.proofs.answers.write_one.Given as goal

-- the code and the budget of both boards
abbrev pub ghosts-write_named-N-Naming : goal.ghosts-write_named-N-Naming
ghosts-write_named-N-Naming a = record { code = a.code.now; budget = a.budget }

abbrev pub ghosts-write_named-M-Naming : goal.ghosts-write_named-M-Naming
ghosts-write_named-M-Naming a = record { code = a.code.now; budget = a.budget }

-- and the history of each one's stamps
abbrev pub ghosts-write_named-N-Origin : goal.ghosts-write_named-N-Origin
ghosts-write_named-N-Origin a = record { book = a.here.seen.book }

abbrev pub ghosts-write_named-M-Origin : goal.ghosts-write_named-M-Origin
ghosts-write_named-M-Origin a = record { book = a.there.seen.book }
