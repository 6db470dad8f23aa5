use Rattle.std.proofs.Common.{length, ◌≡◌, ◌&&◌}
use Rattle.std.specs.Cmp.Lexicographic.{pointwise}
use Rattle.lvish_compound.proofs.entries.Entries.is_equal.Given as goal

abbrev pub invariant-loop-x : goal.invariant-loop-x
invariant-loop-x g l = pointwise (λ p q. g.K.PartialEq.eq p.0 q.0 && g.L.PartialEq.eq p.1 q.1) l.first l.second ≡ pointwise (λ p q. g.K.PartialEq.eq p.0 q.0 && g.L.PartialEq.eq p.1 q.1) l.self l.other

abbrev pub decreases-loop-x : goal.decreases-loop-x
decreases-loop-x g l = length l.first
