use Rattle.lvish_why.proofs.derivation.Growing.+grow.Given as goal

abbrev pub decreases-grow : goal.decreases-grow
decreases-grow l = l.left
