use Rattle.lvish_deal_tests.proofs.tests.stamps.each_value_has_a_number.Given as goal

-- the history that was just opened
abbrev pub ghosts-two_stamps : goal.ghosts-two_stamps
ghosts-two_stamps g a = record { book = a.opened.seen.book }
