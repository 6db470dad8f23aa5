use Rattle.lvish_run.proofs.Walks.{walk_stops, walk_goes}
use Rattle.lvish_run.proofs.runner.walk.Goals as goal

pub returns-then-not-made : goal.returns-then-not-made
returns-then-not-made g c =
    walk_stops _ g.P.Lat.Event.Ord.cmp c.args.picks.now g.B.BoardBrand.program g.B.BoardBrand.budget (c.takes_core_runs.ensures g.B.BoardBrand.program) c.loop-k.board c.turn.new.board c.loop-k.invariant.walk c.is_sound-in-loop-k.ensures c.pick_at.result (rw c.if-not-made.true at c.in_ok-made.ensures.turn)

pub loop-k-preserved : goal.loop-k-preserved
loop-k-preserved g c =
    let z = walk_goes _ g.P.Lat.Event.Ord.cmp c.args.picks.now g.B.BoardBrand.program g.B.BoardBrand.budget (c.takes_core_runs.ensures g.B.BoardBrand.program) c.loop-k.board c.turn.new.board c.loop-k.invariant.walk c.is_sound-in-loop-k.ensures c.loop-k.k c.loop-k.invariant.count (rw (c.pick_at.ensures, c.if-not-made.false) at c.in_ok-made.ensures.turn) in
    record { sound = c.is_sound-in-loop-k.ensures; walk = z.0; count = z.1; agenda = c.in_ok-made.ensures.agenda c.if-not-made.false }
