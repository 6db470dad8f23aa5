use Rattle.std.proofs.Common.{◌≤◌, ◌++◌, ◌∷◌, [], length, is_some, vec_capacity, refl, sym, ap, subst, ◌∙◌, arith}
use Rattle.lvish_calculus.specs.Program.{machine_of}
use Rattle.lvish_board.specs.Vocabulary.{Act, ActStep, ErrorStep}
use Rattle.lvish_core.specs.Core.{IsStep}
use Rattle.lvish_core.specs.Changes.{local_of}
use Rattle.lvish_core.specs.Tasks.{task_names}
use Rattle.lvish_board.specs.Acts.{entry_of}
use Rattle.lvish_board.specs.Listed.{option_list}
use Rattle.lvish_board.specs.Left.{most_added}
use Rattle.lvish_trace.specs.Packed.{entries_of, label_at}
use Rattle.lvish_trace.specs.Traced.{labels_of}
use Rattle.lvish_board.proofs.Acting.{act_tickets, error_done, error_kept, error_listed, is_done, not_done, stands}
use Rattle.lvish_board.proofs.Blocked.{IsMade, is_listed, kept_made, still_current}
use Rattle.lvish_board.proofs.Comes.{act_gone, act_left, left_kept}
use Rattle.lvish_board.proofs.Concerned.{act_made, few_added}
use Rattle.lvish_board.proofs.Handing.{seen_core, seen_parked}
use Rattle.lvish_board.proofs.Knowing.{error_known, step_known}
use Rattle.lvish_board.proofs.Parking.{still_indexed}
use Rattle.lvish_board.proofs.Steps.{can_seen, not_full}
use Rattle.lvish_trace.proofs.Noting.{acts_there, all_noted, written}
use Rattle.lvish_board.proofs.board.Board.make.Goals.{In-Error, After-left_by-left}
use Rattle.lvish_board.proofs.board.Board.make.Goals as goal

-- a step that gave an error
failed : (g : _) (c : In-Error g) → IsStep (machine_of g.P.Lat.PartialEq.eq g.P.Lat.Event.PartialEq.eq g.P.Lat.Event.Ord.cmp g.P.Lat.Lattice.least g.P.Lat.Lattice.joined g.P.Lat.Lattice.events_of g.P.Lat.Reads.answer_of (g.P.Program.functions g.B.BoardBrand.program)) c.self.inside.core (Act c.args.asked.now.task) c.step_with_room.new.core (ErrorStep c.in-Error.kind)
failed g c =
    let M = machine_of g.P.Lat.PartialEq.eq g.P.Lat.Event.PartialEq.eq g.P.Lat.Event.Ord.cmp g.P.Lat.Lattice.least g.P.Lat.Lattice.joined g.P.Lat.Lattice.events_of g.P.Lat.Reads.answer_of (g.P.Program.functions g.B.BoardBrand.program) in
    subst (λ r. IsStep M c.self.inside.core (Act c.args.asked.now.task) c.step_with_room.new.core r) c.in-Error.is c.in-Ok.ensures.made.step

pub invariant_of-self-in-Error : goal.invariant_of-self-in-Error
invariant_of-self-in-Error g c =
    let step = failed g (goal.at.invariant_of-self-in-Error g c).In-Error in
    let live = (rw (← c.self.view_is) at c.requires.live).1 in
    let there = step.indices c.args.numbers.index c.args.asked.now.task live in
    let noted = all_noted (task_names c.self.inside.core.table.tasks) (task_names c.step_with_room.new.core.table.tasks) step.indices c.self.inside.trace.items c.step_with_room.new.trace.items c.args.worker (ActStep c.args.numbers.index) c.self.invariant.1 c.in-Ok.ensures.written (c.args.asked.now.task, there) in
    let longer = written (task_names c.self.inside.core.table.tasks) (task_names c.step_with_room.new.core.table.tasks) step.indices c.self.inside.trace.items c.step_with_room.new.trace.items c.args.worker (ActStep c.args.numbers.index) c.self.invariant.1 c.in-Ok.ensures.written (Act c.args.asked.now.task) (acts_there (task_names c.step_with_room.new.core.table.tasks) c.args.numbers.index c.args.asked.now.task there) in
    let known = error_known _ (c.tasks_after.ensures.others g.B.BoardBrand.program) _ c.self.invariant.2.leads c.each_task_once.ensures c.args.asked.now.task c.args.numbers.index _ step live c.self.inside.newest c.clear.new.self c.self.invariant.3 (rw c.step_with_room.ensures.newest at c.clear.ensures) in
    (c.self.invariant.0, noted, error_kept _ _ _ _ _ step _ _ _ _ _ _ c.args.worker _ c.self.invariant.2 (rw (← c.self.view_is) at c.requires.room) longer (rw c.step_with_room.ensures.same at c.error_outcome.ensures), known, still_indexed _ _ step.indices _ _ c.self.invariant.4 (λ e i. i))

pub returns-in-Error-clause-comes : goal.returns-in-Error-clause-comes
returns-in-Error-clause-comes g c =
    let step = failed g (goal.at.returns-in-Error-clause-comes g c).In-Error in
    let machine = λ (p : g.row.P.Denot). machine_of g.P.Lat.PartialEq.eq g.P.Lat.Event.PartialEq.eq g.P.Lat.Event.Ord.cmp g.P.Lat.Lattice.least g.P.Lat.Lattice.joined g.P.Lat.Lattice.events_of g.P.Lat.Reads.answer_of (g.P.Program.functions p) in
    let can = can_seen machine _ c.self.inside.core c.args.self.now.core _ c.self.invariant.2.program_is (seen_core c.self.view_is) step.enabled in
    let live = (rw (← c.self.view_is) at c.requires.live).1 in
    let there = acts_there (task_names c.step_with_room.new.core.table.tasks) c.args.numbers.index c.args.asked.now.task (step.indices c.args.numbers.index c.args.asked.now.task live) in
    let longer = written (task_names c.self.inside.core.table.tasks) (task_names c.step_with_room.new.core.table.tasks) step.indices c.self.inside.trace.items c.step_with_room.new.trace.items c.args.worker (ActStep c.args.numbers.index) c.self.invariant.1 c.in-Ok.ensures.written (Act c.args.asked.now.task) there
    ∙ ap (λ b. b.trace ++ entry_of c.args.worker (Act c.args.asked.now.task) ∷ []) c.self.view_is in
    λ _. act_gone _ (c.requires.running, ap local_of c.requires.live.0, can, not_full c.requires.room) longer (error_done _ _ _ _ _ step) (error_listed _ _ _ _ _ step _ c.args.self.now _ (seen_core c.self.view_is) refl (sym (seen_parked c.self.view_is)) _ c.empty.ensures.list)
    (ap (label_at _) c.empty.ensures.step ∙ there) c.empty.ensures.own

-- a step that gave none, and how many handlers it added at most
made : (g : _) (c : After-left_by-left g) → IsMade (machine_of g.P.Lat.PartialEq.eq g.P.Lat.Event.PartialEq.eq g.P.Lat.Event.Ord.cmp g.P.Lat.Lattice.least g.P.Lat.Lattice.joined g.P.Lat.Lattice.events_of g.P.Lat.Reads.answer_of (g.P.Program.functions g.B.BoardBrand.program)) g.P.Lat.Event.Ord.cmp c.self.inside.core (Act c.args.asked.now.task) c.step_with_room.new.core c.in-Ok.made.0 c.step_with_room.new.room.concerned.items c.left_by-left.result.added c.in-Ok.made.2
    × (length (option_list c.left_by-left.result.added) ≤ most_added ((g.P.Program.functions g.B.BoardBrand.program).request c.args.asked.now.from))
made g c =
    let M = machine_of g.P.Lat.PartialEq.eq g.P.Lat.Event.PartialEq.eq g.P.Lat.Event.Ord.cmp g.P.Lat.Lattice.least g.P.Lat.Lattice.joined g.P.Lat.Lattice.events_of g.P.Lat.Reads.answer_of (g.P.Program.functions g.B.BoardBrand.program) in
    let k = c.in-Ok.ensures.made in
    let step = subst (λ r. IsStep M c.self.inside.core (Act c.args.asked.now.task) c.step_with_room.new.core r) c.in-Done.is k.step in
    let ok = c.lawful.ensures g.B.BoardBrand.program in
    let at = ap local_of (rw (← c.self.view_is) at c.requires.live).0 in (
      act_made _ _ ok _ _ _ _ _ _ step at k.concerned k.long (labels_of (entries_of (task_names c.self.inside.core.table.tasks) c.self.inside.trace.items)) c.self.invariant.2.leads _ k.told _ c.left_by-left.ensures.added,
      few_added _ _ ok _ _ _ _ _ _ step at k.concerned k.long c.left_by-left.result.added (c.left_by-left.ensures.added ∙ ap (λ m. m.added) k.told),
    )

pub leave-requires-clause-program : goal.leave-requires-clause-program
leave-requires-clause-program g c = (made g (goal.at.leave-requires-clause-program g c).After-left_by-left).0.step.program ∙ c.self.invariant.2.program_is

pub leave-requires-clause-logged : goal.leave-requires-clause-logged
leave-requires-clause-logged g c = (made g (goal.at.leave-requires-clause-logged g c).After-left_by-left).0.is_logged

pub leave-requires-clause-current : goal.leave-requires-clause-current
leave-requires-clause-current g c = λ p i. still_current (c.blocked_tasks.ensures.until_touched g.B.BoardBrand.program) (made g (goal.at.leave-requires-clause-current g c).After-left_by-left).0 p (c.self.invariant.2.blocked p i)

pub leave-requires-clause-once : goal.leave-requires-clause-once
leave-requires-clause-once g c = c.self.invariant.2.once

pub leave-requires-clause-empty : goal.leave-requires-clause-empty
leave-requires-clause-empty g c = c.in-Ok.ensures.empty

pub leave-requires-clause-woken_room : goal.leave-requires-clause-woken_room
leave-requires-clause-woken_room g c = subst (λ n. n ≤ vec_capacity c.step_with_room.new.room.woken) c.len-parked.ensures c.in-Ok.ensures.woken_room

pub leave-requires-clause-concerned_room : goal.leave-requires-clause-concerned_room
leave-requires-clause-concerned_room g c = omega (arith, c.in-Ok.ensures.concerned_room, (made g (goal.at.leave-requires-clause-concerned_room g c).After-left_by-left).1)

pub leave-requires-clause-hands_room : goal.leave-requires-clause-hands_room
leave-requires-clause-hands_room g c = omega (arith, c.in-Ok.ensures.hands_room, (made g (goal.at.leave-requires-clause-hands_room g c).After-left_by-left).1)

pub note_end-requires-clause-program : goal.note_end-requires-clause-program
note_end-requires-clause-program g c = (made g (goal.at.note_end-requires-clause-program g c).After-left_by-left).0.step.program ∙ c.self.invariant.2.program_is

pub note_end-requires-clause-running : goal.note_end-requires-clause-running
note_end-requires-clause-running g c = ap (λ b. b.over) c.self.view_is ∙ c.requires.running

pub invariant_of-self-in-Done : goal.invariant_of-self-in-Done
invariant_of-self-in-Done g c =
    let sound = c.self.invariant.2 in
    let k = (made g (goal.at.invariant_of-self-in-Done g c).After-left_by-left).0 in
    let live = (rw (← c.self.view_is) at c.requires.live).1 in
    let there = k.step.indices c.args.numbers.index c.args.asked.now.task live in
    let noted = all_noted (task_names c.self.inside.core.table.tasks) (task_names c.step_with_room.new.core.table.tasks) k.step.indices c.self.inside.trace.items c.step_with_room.new.trace.items c.args.worker (ActStep c.args.numbers.index) c.self.invariant.1 c.in-Ok.ensures.written (c.args.asked.now.task, there) in
    let longer = written (task_names c.self.inside.core.table.tasks) (task_names c.step_with_room.new.core.table.tasks) k.step.indices c.self.inside.trace.items c.step_with_room.new.trace.items c.args.worker (ActStep c.args.numbers.index) c.self.invariant.1 c.in-Ok.ensures.written (Act c.args.asked.now.task) (acts_there (task_names c.step_with_room.new.core.table.tasks) c.args.numbers.index c.args.asked.now.task there) in
    let newest = rw (c.step_with_room.ensures.same, c.step_with_room.ensures.newest) at c.left_by-left.ensures.newest in
    let known = step_known _ (c.tasks_after.ensures.others g.B.BoardBrand.program) _ sound.leads c.each_task_once.ensures (c.tasks_after.ensures.made g.B.BoardBrand.program) c.in-Ok.made.2 c.args.asked.now.task c.args.numbers.index _ k.step k.told live
    (stands (c.lawful.ensures g.B.BoardBrand.program) k) c.self.inside.newest c.left_by-left.new.newest c.self.invariant.3 newest.0 newest.1 c.tasks-next.result c.tasks-next.ensures newest.2 in
    (c.self.invariant.0, noted, kept_made (c.blocked_tasks.ensures.until_touched g.B.BoardBrand.program) k (c.wakes_at_its_spot.ensures g.B.BoardBrand.program) sound.blocked c.leave.ensures.left (c.blocked_tasks.ensures.ends g.B.BoardBrand.program) _ _ _ _ _ _ c.args.worker sound (rw (← c.self.view_is) at c.requires.room) longer c.leave.ensures.once c.note_end.ensures, known, still_indexed _ _ k.step.indices _ _ c.self.invariant.4 c.leave.ensures.within)

pub returns-in-Done-clause-comes : goal.returns-in-Done-clause-comes
returns-in-Done-clause-comes g c =
    let ok = c.lawful.ensures g.B.BoardBrand.program in
    let k = (made g (goal.at.returns-in-Done-clause-comes g c).After-left_by-left).0 in
    let machine = λ (p : g.row.P.Denot). machine_of g.P.Lat.PartialEq.eq g.P.Lat.Event.PartialEq.eq g.P.Lat.Event.Ord.cmp g.P.Lat.Lattice.least g.P.Lat.Lattice.joined g.P.Lat.Lattice.events_of g.P.Lat.Reads.answer_of (g.P.Program.functions p) in
    let can = can_seen machine _ c.self.inside.core c.args.self.now.core _ c.self.invariant.2.program_is (seen_core c.self.view_is) k.step.enabled in
    let live = (rw (← c.self.view_is) at c.requires.live).1 in
    let there = acts_there (task_names c.step_with_room.new.core.table.tasks) c.args.numbers.index c.args.asked.now.task (k.step.indices c.args.numbers.index c.args.asked.now.task live) in
    let longer = written (task_names c.self.inside.core.table.tasks) (task_names c.step_with_room.new.core.table.tasks) k.step.indices c.self.inside.trace.items c.step_with_room.new.trace.items c.args.worker (ActStep c.args.numbers.index) c.self.invariant.1 c.in-Ok.ensures.written (Act c.args.asked.now.task) there
    ∙ ap (λ b. b.trace ++ entry_of c.args.worker (Act c.args.asked.now.task) ∷ []) c.self.view_is in
    let own = ap is_some (sym (rw c.step_with_room.ensures.same at c.left_by-left.ensures.own)) ∙ sym c.is_some-goes_on.ensures in
    λ _. act_left c.is_some-goes_on.result c.leave.new.step_work c.next_or_gone.result c.next_or_gone.ensures.next c.next_or_gone.ensures.gone (c.requires.running, ap local_of c.requires.live.0, can, not_full c.requires.room) longer
    (λ goes done. not_done ok k (own ∙ goes) done)
    (λ ends. is_done ok k (own ∙ ends))
    (is_listed (c.blocked_tasks.ensures.until_touched g.B.BoardBrand.program) k (c.wakes_at_its_spot.ensures g.B.BoardBrand.program) c.self.invariant.2.blocked c.leave.ensures.left (act_tickets c.args.asked.now.task c.in-Ok.made.2 c.left_by-left.result.own c.left_by-left.result.made (rw c.step_with_room.ensures.same at c.left_by-left.ensures.own) c.left_by-left.ensures.made) c.args.self.now _ (seen_core c.self.view_is) (seen_parked c.self.view_is) refl refl)
    (ap (label_at _) (c.leave.ensures.step ∙ c.left_by-left.ensures.step) ∙ there)
    (ap is_some c.leave.ensures.own ∙ sym c.is_some-goes_on.ensures)

pub returns-in-Done-clause-back : goal.returns-in-Done-clause-back
returns-in-Done-clause-back g c = left_kept c.is_some-goes_on.result c.next_or_gone.result c.next_or_gone.ensures.next c.next_or_gone.ensures.gone

pub returns-in-Done-clause-kept : goal.returns-in-Done-clause-kept
returns-in-Done-clause-kept g c = left_kept c.is_some-goes_on.result c.next_or_gone.result c.next_or_gone.ensures.next c.next_or_gone.ensures.gone

pub invariant_of-self : goal.invariant_of-self
invariant_of-self g c = rw (c.in-Err-NotEnabled.ensures.kept.1, c.in-Err-NotEnabled.ensures.kept.2, c.step_with_room.ensures.newest) c.self.invariant

pub invariant_of-self-in-Err : goal.invariant_of-self-in-Err
invariant_of-self-in-Err g c = rw (c.in-Err.ensures.kept.1, c.in-Err.ensures.kept.2, c.step_with_room.ensures.newest) c.self.invariant
