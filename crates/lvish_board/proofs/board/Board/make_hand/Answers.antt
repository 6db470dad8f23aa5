use Rattle.std.proofs.Common.{◌≡◌, ◌++◌, ◌∷◌, [], Some, IsSome, length, refl, sym, ap, subst, ◌∙◌, arith}
use Rattle.lvish_calculus.specs.Program.{machine_of}
use Rattle.lvish_names.specs.Names.{handed}
use Rattle.lvish_board.specs.Vocabulary.{Hand, HandStep}
use Rattle.lvish_core.specs.Core.{IsNext, state}
use Rattle.lvish_core.specs.Tasks.{task_names, IsAt}
use Rattle.lvish_board.specs.Acts.{entry_of}
use Rattle.lvish_board.specs.Listed.{option_list}
use Rattle.lvish_trace.specs.Packed.{entries_of, label_at}
use Rattle.lvish_trace.specs.Traced.{labels_of}
use Rattle.lvish_board.proofs.Blocked.{IsMade, is_listed, kept_made, still_current}
use Rattle.lvish_board.proofs.Comes.{for_this, hand_next}
use Rattle.lvish_board.proofs.Handing.{hand_made, hand_held, hand_tickets, handed_well, seen_core, seen_parked}
use Rattle.lvish_board.proofs.Knowing.{hand_known}
use Rattle.lvish_board.proofs.Parking.{still_indexed}
use Rattle.lvish_board.proofs.Steps.{not_full}
use Rattle.lvish_trace.proofs.Noting.{all_noted, hands_there, written}
use Rattle.lvish_board.proofs.board.Board.make_hand.Goals.{After-ticket_of}
use Rattle.lvish_board.proofs.board.Board.make_hand.Goals as goal

-- the handler is taken out of its slot
taken : (g : _) (c : After-ticket_of g) → c.take-added.result ≡ Some c.in-Some.name.now
taken g c = c.take-added.ensures.value ∙ sym c.in-Some.ensures.value

-- the handing
made : (g : _) (c : After-ticket_of g) → IsMade (machine_of g.P.Lat.PartialEq.eq g.P.Lat.Event.PartialEq.eq g.P.Lat.Event.Ord.cmp g.P.Lat.Lattice.least g.P.Lat.Lattice.joined g.P.Lat.Lattice.events_of g.P.Lat.Reads.answer_of (g.P.Program.functions g.B.BoardBrand.program)) g.P.Lat.Event.Ord.cmp c.self.inside.core (Hand c.in-Some.name.now c.in-Ok.ensures.made.1.event) c.hand_with_room.new.core 0 c.hand_with_room.new.room.concerned.items c.take-added.result c.in-Ok.moved
made g c =
    let M = machine_of g.P.Lat.PartialEq.eq g.P.Lat.Event.PartialEq.eq g.P.Lat.Event.Ord.cmp g.P.Lat.Lattice.least g.P.Lat.Lattice.joined g.P.Lat.Lattice.events_of g.P.Lat.Reads.answer_of (g.P.Program.functions g.B.BoardBrand.program) in
    let was = c.in-Ok.ensures.made.1 in
    subst (λ o. IsMade M g.P.Lat.Event.Ord.cmp c.self.inside.core (Hand c.in-Some.name.now c.in-Ok.ensures.made.1.event) c.hand_with_room.new.core 0 c.hand_with_room.new.room.concerned.items o c.in-Ok.moved) (sym (taken g c))
    (hand_made _ _ _ _ _ (handed_well _ _ _ _ _ _ was) _ (labels_of (entries_of (task_names c.self.inside.core.table.tasks) c.self.inside.trace.items)) c.self.invariant.2.leads _ was.moving.change c.in-Ok.ensures.long 0 _)

-- the task that it starts stands where the step says
started : (g : _) (c : After-ticket_of g) → IsAt c.hand_with_room.new.core.table.tasks c.tasks.result (handed c.in-Some.name.now.adder c.in-Some.name.now.number c.in-Ok.ensures.made.1.event)
started g c =
    let was = c.in-Ok.ensures.made.1 in
    subst (λ i. IsAt c.hand_with_room.new.core.table.tasks i (handed c.in-Some.name.now.adder c.in-Some.name.now.number was.event)) (sym c.tasks.ensures) was.started

pub leave-requires-clause-program : goal.leave-requires-clause-program
leave-requires-clause-program g c = (made g (goal.at.leave-requires-clause-program g c).After-ticket_of).step.program ∙ c.self.invariant.2.program_is

pub leave-requires-clause-current : goal.leave-requires-clause-current
leave-requires-clause-current g c = λ p i. still_current (c.blocked_tasks.ensures.until_touched g.B.BoardBrand.program) (made g (goal.at.leave-requires-clause-current g c).After-ticket_of) p (c.self.invariant.2.blocked p i)

pub leave-requires-clause-once : goal.leave-requires-clause-once
leave-requires-clause-once g c = c.self.invariant.2.once

pub invariant_of-self-2 : goal.invariant_of-self-2
invariant_of-self-2 g c =
    let sound = c.self.invariant.2 in
    let k = made g (goal.at.invariant_of-self-2 g c).After-ticket_of in
    let there = started g (goal.at.invariant_of-self-2 g c).After-ticket_of in
    let event = c.in-Ok.ensures.made.1.event in
    let noted = all_noted (task_names c.self.inside.core.table.tasks) (task_names c.hand_with_room.new.core.table.tasks) k.step.indices c.self.inside.trace.items c.hand_with_room.new.trace.items c.args.worker (HandStep c.tasks.result) c.self.invariant.1 c.in-Ok.ensures.written (c.in-Some.name.now, event, there) in
    let longer = written (task_names c.self.inside.core.table.tasks) (task_names c.hand_with_room.new.core.table.tasks) k.step.indices c.self.inside.trace.items c.hand_with_room.new.trace.items c.args.worker (HandStep c.tasks.result) c.self.invariant.1 c.in-Ok.ensures.written (Hand c.in-Some.name.now event) (hands_there (task_names c.hand_with_room.new.core.table.tasks) c.tasks.result c.in-Some.name.now event there) in
    let newest = rw (c.index.ensures, c.hand_with_room.ensures.newest) at c.ticket_of.ensures.newest in
    let known = hand_known _ (c.tasks_after.ensures.others g.B.BoardBrand.program) _ sound.leads c.each_task_once.ensures (c.tasks_after.ensures.made g.B.BoardBrand.program) c.in-Ok.moved c.in-Some.name.now event _ k.step k.told c.self.inside.newest c.ticket_of.new.newest c.self.invariant.3 c.tasks.result c.tasks.ensures newest in
    (c.self.invariant.0, noted, kept_made (c.blocked_tasks.ensures.until_touched g.B.BoardBrand.program) k (c.wakes_at_its_spot.ensures g.B.BoardBrand.program) sound.blocked c.leave.ensures.left (c.blocked_tasks.ensures.ends g.B.BoardBrand.program) _ _ _ _ _ _ c.args.worker sound (rw (← c.self.view_is) at c.requires.room) longer c.leave.ensures.once c.note_end.ensures, known, still_indexed _ _ k.step.indices _ _ c.self.invariant.4 c.leave.ensures.within)

pub note_end-requires-clause-program : goal.note_end-requires-clause-program
note_end-requires-clause-program g c = (made g (goal.at.note_end-requires-clause-program g c).After-ticket_of).step.program ∙ c.self.invariant.2.program_is

pub note_end-requires-clause-running : goal.note_end-requires-clause-running
note_end-requires-clause-running g c = ap (λ b. b.over) c.self.view_is ∙ c.requires.running

pub leave-requires-clause-concerned_room : goal.leave-requires-clause-concerned_room
leave-requires-clause-concerned_room g c =
    let one = ap (λ o. length (option_list o)) (c.take-added.ensures.value ∙ sym c.in-Some.ensures.value) in
    omega (arith, one, ap length c.in-Ok.ensures.empty.1, c.in-Ok.ensures.concerned_room)

pub leave-requires-clause-hands_room : goal.leave-requires-clause-hands_room
leave-requires-clause-hands_room g c =
    let one = ap (λ o. length (option_list o)) (c.take-added.ensures.value ∙ sym c.in-Some.ensures.value) in
    omega (arith, one, ap length c.in-Ok.ensures.empty.1, c.in-Ok.ensures.hands_room)

pub returns-clause-comes : goal.returns-clause-comes
returns-clause-comes g c =
    let M = machine_of g.P.Lat.PartialEq.eq g.P.Lat.Event.PartialEq.eq g.P.Lat.Event.Ord.cmp g.P.Lat.Lattice.least g.P.Lat.Lattice.joined g.P.Lat.Lattice.events_of g.P.Lat.Reads.answer_of (g.P.Program.functions g.B.BoardBrand.program) in
    let k = made g (goal.at.returns-clause-comes g c).After-ticket_of in
    let there = hands_there (task_names c.hand_with_room.new.core.table.tasks) c.tasks.result c.in-Some.name.now c.in-Ok.ensures.made.1.event (started g (goal.at.returns-clause-comes g c).After-ticket_of) in
    let was = c.in-Ok.ensures.made.1 in
    let can = was.moving.step.enabled in
    let next = subst (λ z. IsNext g.P.Lat.Event.PartialEq.eq z.table c.in-Some.name.now was.event) (sym (seen_core c.self.view_is)) can.1 in
    let held = subst (λ z. IsSome ((state M z).handlers c.in-Some.name.now)) (sym (seen_core c.self.view_is)) (hand_held M c.self.inside.core c.in-Some.name.now was.event can) in
    let longer = written (task_names c.self.inside.core.table.tasks) (task_names c.hand_with_room.new.core.table.tasks) k.step.indices c.self.inside.trace.items c.hand_with_room.new.trace.items c.args.worker (HandStep c.tasks.result) c.self.invariant.1 c.in-Ok.ensures.written (Hand c.in-Some.name.now was.event) there
    ∙ ap (λ b. b.trace ++ entry_of c.args.worker (Hand c.in-Some.name.now was.event) ∷ []) c.self.view_is in
    λ _. for_this _ _ _ c.in-Some.ensures.value (hand_next c.leave.new.step_work was.event next c.requires.running held (not_full c.requires.room) longer
    (is_listed (c.blocked_tasks.ensures.until_touched g.B.BoardBrand.program) k (c.wakes_at_its_spot.ensures g.B.BoardBrand.program) c.self.invariant.2.blocked c.leave.ensures.left (hand_tickets c.in-Some.name.now was.event c.in-Ok.moved c.ticket_of.result c.ticket_of.ensures.ticket) c.args.self.now _ (seen_core c.self.view_is) (seen_parked c.self.view_is) refl refl)
    (ap (label_at _) c.leave.ensures.step ∙ there)
    c.leave.ensures.own)

pub invariant_of-self : goal.invariant_of-self
invariant_of-self g c = rw (c.in_default-hand_with_room.ensures.kept.0, c.in_default-hand_with_room.ensures.kept.1, c.hand_with_room.ensures.newest) c.self.invariant
