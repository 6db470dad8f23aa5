use Rattle.std.proofs.Common.{◌≡◌, ℕ, Some, sym, ap, ◌∙◌}
use Rattle.lvish_calculus.specs.Handing.{IsAmong}
use Rattle.lvish_board.specs.Stand.{TaskStand}
use Rattle.lvish_board.proofs.Blocked.{some_of}
use Rattle.lvish_board.proofs.Parking.{indexed_beside, theirs}
use Rattle.lvish_board.proofs.Steps.{kept_parked}
use Rattle.lvish_board.proofs.board.Board.park.Goals as goal

pub park-requires-clause-there : goal.park-requires-clause-there
park-requires-clause-there g c = rw c.rest_in.ensures c.requires.there

pub park-requires-clause-theirs : goal.park-requires-clause-theirs
park-requires-clause-theirs g c = λ a e is i. theirs _ c.each_task_once.ensures _ c.self.invariant.4 c.args.index _ (rw (← c.self.view_is) at (c.requires.at a (sym c.rest_in.ensures ∙ is))) e i

pub park-requires-clause-once : goal.park-requires-clause-once
park-requires-clause-once g c = c.self.invariant.2.once

pub note_end-requires-clause-program : goal.note_end-requires-clause-program
note_end-requires-clause-program g c = c.self.invariant.2.program_is

pub note_end-requires-clause-running : goal.note_end-requires-clause-running
note_end-requires-clause-running g c = ap (λ b. b.over) c.self.view_is ∙ c.requires.running

pub invariant_of-self : goal.invariant_of-self
invariant_of-self g c =
    let sound = c.self.invariant.2 in
    let there = some_of c.args.slot.now c.requires.there in
    let is : c.rest_in.new.slot ≡ Some there.0 = c.rest_in.ensures ∙ there.1 in
    let current = rw (← c.self.view_is) at (c.requires.current there.0 there.1) in
    let blocked = rw (← c.self.view_is) at (c.requires.blocked there.0 there.1) in
    let blocked_here = rw sound.program_is at blocked in
    let entries = λ (e : ℕ × TaskStand g.row.P-Lat-Event.Denot g.row.P-Local.Denot) (i : IsAmong e c.park.new.self). c.park.ensures.entries there.0 e is i in
    (c.self.invariant.0, c.self.invariant.1, kept_parked _ (c.blocked_tasks.ensures.ends g.B.BoardBrand.program) _ _ _ _ _ _ _ _ there.0 sound current blocked_here (c.in-Ok.ensures.ok there.0 is) c.park.ensures.once (ap (λ b. b.over) c.self.view_is ∙ c.requires.running) c.note_end.ensures, c.self.invariant.3, indexed_beside _ _ _ _ _ c.self.invariant.4 (rw (← c.self.view_is) at (c.requires.at there.0 there.1)) entries)
