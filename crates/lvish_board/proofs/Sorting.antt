-- What is sorted by the names of its tasks, and repeats none, ascends.
use Rattle.std.proofs.Common.{◌≡◌, List, Ordering, Equal}
use Rattle.std.specs.Cmp.{IsTotalOrder, Equal-is}
use Rattle.std.specs.Ordering.{is_lt}
use Rattle.std.specs.List.Sorted.{IsPermutation, IsSortedBy, IsStrictlySortedBy}
use Rattle.lvish_names.specs.Names.{Name}
use Rattle.lvish_calculus.specs.Handing.{NoRepeats}
use Rattle.lvish_core.proofs.Ordered.{ascending as ascending_by}
use Rattle.lvish_board.specs.Stand.{TaskStand}
use Rattle.lvish_board.specs.Board.{tasks_of}
use Rattle.lvish_board.proofs.Among.{distinct}

-- sorted by name, of a list that repeats no task: strictly sorted
pub ascending : {E L : Type 0} {cmp : Name E → Name E → Ordering} → IsTotalOrder cmp → ((t u : Name E) → cmp t u ≡ Equal → t ≡ u) → (ps qs : List (TaskStand E L)) → NoRepeats (tasks_of ps) → IsPermutation ps qs → IsSortedBy (λ x y. is_lt (cmp x.task y.task)) qs → IsStrictlySortedBy cmp (tasks_of qs)
ascending {E} {L} {cmp} o exact ps qs once moved up = ascending_by (λ (p : TaskStand E L). p.task) o ps qs (distinct (λ t u e. exact t u ((Equal-is (cmp t u)).0 e)) (tasks_of ps) once) moved up
