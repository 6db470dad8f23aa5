use Rattle.std.proofs.Common.{◌≡◌, ◌++◌, ◌∷◌, [], ℕ, true, is_some, Some, arith, sym, ap, subst, ◌∙◌, true≢false}
use Rattle.std.specs.List.{swap_remove}
use Rattle.std.proofs.lemmas.Option.{same_Some, get_or_from_slice_get, slice_get_within}
use Rattle.lvish_calculus.specs.declared.label.Label.TheVariants.{Act}
use Rattle.lvish_calculus.specs.Program.{machine_of}
use Rattle.lvish_calculus.specs.Handing.{IsAmong, NoRepeats}
use Rattle.lvish_core.specs.Core.{CanTake}
use Rattle.lvish_core.specs.Changes.{local_of}
use Rattle.lvish_picture.specs.Picture.{task_of}
use Rattle.lvish_names.specs.laws.OrderLaws.{name_equiv}
use Rattle.lvish_names.proofs.NameLaws.{same_name-true}
use Rattle.lvish_board.specs.Stand.{TaskStand}
use Rattle.lvish_board.specs.Seated.{AreSeated, indices_of, stands_of}
use Rattle.lvish_board.specs.Board.{tasks_of}
use Rattle.lvish_board.specs.Waking.{Wakes}
use Rattle.lvish_board.proofs.Seating.{index_among, one_of_index, stand_listed, stands_among}
use Rattle.lvish_board.proofs.Taking.{index_gone, left_once, left_within, wakes_seated}
use Rattle.lvish_board.proofs.Waking.{wakes_none}
use Rattle.lvish_board.proofs.by_index.ByIndex.wake.Goals.{After-request}
use Rattle.lvish_board.proofs.by_index.ByIndex.wake.Goals as goal

pub returns-in_default-clause-wakes : goal.returns-in_default-clause-wakes
returns-in_default-clause-wakes g c = wakes_none _ _ _ _ (λ p i may can. c.in_default.ensures (index_among (c.args.index, p) c.args.self.now may))

pub returns-in_default-clause-gone : goal.returns-in_default-clause-gone
returns-in_default-clause-gone g c = λ t i. c.in_default.ensures i

pub index-requires : goal.index-requires
index-requires g c =
    let lt = rw (← c.self.view_is) at (slice_get_within c.args.self.now c.in-Some.seat (c.args.index, c.in-Some.ensures.0) c.in-Some.ensures.1) in
    omega (arith, lt, c.self.inside.asked.ok.0)

pub take-requires : goal.take-requires
take-requires g c = slice_get_within c.args.self.now c.in-Some.seat (c.args.index, c.in-Some.ensures.0) c.in-Some.ensures.1

-- what is asked stands there
asked : (g : _) (c : After-request g) → c.index.result.now ≡ (c.args.index, c.in-Some.ensures.0)
asked g c =
    let here = rw (← c.self.view_is) at c.in-Some.ensures.1 in
    c.index.ensures ∙ get_or_from_slice_get c.self.inside.asked.items c.in-Some.seat (c.args.index, c.in-Some.ensures.0) c.index.result.now here

-- the task is where it was parked
stands : (g : _) (c : After-request g) → local_of (task_of g.P.Lat.Event.PartialEq.eq c.args.core.now.table.tasks c.index.result.now.1.task) ≡ Some c.index.result.now.1.from
stands g c =
    let p = c.in-Some.ensures.0 in
    let there : local_of (task_of g.P.Lat.Event.PartialEq.eq c.args.core.now.table.tasks p.task) ≡ Some p.from = c.requires.current p (stand_listed (c.args.index, p) c.args.self.now (stands_among c.args.self.now c.in-Some.seat (c.args.index, p) c.in-Some.ensures.1)) in
    subst (λ (e : ℕ × TaskStand g.row.P-Lat-Event.Denot g.row.P-Local.Denot). local_of (task_of g.P.Lat.Event.PartialEq.eq c.args.core.now.table.tasks e.1.task) ≡ Some e.1.from) (sym (asked g c)) there

pub can_act-requires-clause-there : goal.can_act-requires-clause-there
can_act-requires-clause-there g c = rw c.task.ensures (ap is_some (stands g (goal.at.can_act-requires-clause-there g c).After-request))

pub can_act-requires-clause-request : goal.can_act-requires-clause-request
can_act-requires-clause-request g c = λ l f a p live.
    let from = c.index.result.now.1.from in
    let here = rw c.task.ensures at live in
    let same : l ≡ from = same_Some l from (sym (ap local_of here) ∙ stands g (goal.at.can_act-requires-clause-request g c).After-request) in
    ap (λ k. (g.P.Program.functions c.args.core.now.program).request k) same ∙ ap (λ q. (g.P.Program.functions q).request from) c.requires.program ∙ sym c.request.ensures

-- where the tasks stand is noted at their indices
seated : (g : _) (c : After-request g) → AreSeated c.self.inside.seats.items c.args.self.now
seated g c = subst (λ es. AreSeated c.self.inside.seats.items es) c.self.view_is c.self.invariant

-- the name by which the core is asked
name : (g : _) (c : After-request g) → c.task.result.now ≡ c.in-Some.ensures.0.task
name g c = c.task.ensures ∙ ap (λ (e : ℕ × TaskStand g.row.P-Lat-Event.Denot g.row.P-Local.Denot). e.1.task) (asked g c)

pub returns-then-not-can_act-clause-wakes : goal.returns-then-not-can_act-clause-wakes
returns-then-not-can_act-clause-wakes g c =
    let M = machine_of g.P.Lat.PartialEq.eq g.P.Lat.Event.PartialEq.eq g.P.Lat.Event.Ord.cmp g.P.Lat.Lattice.least g.P.Lat.Lattice.joined g.P.Lat.Lattice.events_of g.P.Lat.Reads.answer_of (g.P.Program.functions c.args.core.now.program) in
    let before = (goal.at.returns-then-not-can_act-clause-wakes g c).After-request in
    let p = c.in-Some.ensures.0 in
    let here = stands_among c.args.self.now c.in-Some.seat (c.args.index, p) c.in-Some.ensures.1 in
    wakes_none _ _ _ _ (λ q i may can.
    let same : q ≡ p = one_of_index c.self.inside.seats.items c.args.self.now (seated g before) c.args.index q p may here in
    let yes : c.can_act.result ≡ true = c.can_act.ensures.1 (subst (λ t. CanTake M c.args.core.now (Act t)) (ap (λ r. r.task) same ∙ sym (name g before)) can) in
    absurd (true≢false (sym yes ∙ c.if-not-can_act.true)))

pub returns : goal.returns
returns g c =
    let M = machine_of g.P.Lat.PartialEq.eq g.P.Lat.Event.PartialEq.eq g.P.Lat.Event.Ord.cmp g.P.Lat.Lattice.least g.P.Lat.Lattice.joined g.P.Lat.Lattice.events_of g.P.Lat.Reads.answer_of (g.P.Program.functions c.args.core.now.program) in
    let before = (goal.at.returns g c).After-request in
    let laws = name_equiv g.met.P.Lat.Event.Eq.laws in
    let exact = same_name-true g.met.P.Lat.Event.Plain.identical in
    let p = c.in-Some.ensures.0 in
    let Can : TaskStand g.row.P-Lat-Event.Denot g.row.P-Local.Denot → Type 0 = λ q. CanTake M c.args.core.now (Act q.task) in
    let can : CanTake M c.args.core.now (Act p.task) = subst (λ t. CanTake M c.args.core.now (Act t)) (name g before) (c.can_act.ensures.0 c.if-not-can_act.false) in
    let one : (c.take.ensures.0, c.take.result) ≡ (c.args.index, p) = same_Some (c.take.ensures.0, c.take.result) (c.args.index, p) (sym c.take.ensures.1 ∙ c.in-Some.ensures.1) in
    let left : c.take.new.self ≡ swap_remove c.args.self.now c.in-Some.seat (c.args.index, p) = c.take.ensures.2 ∙ ap (λ e. swap_remove c.args.self.now c.in-Some.seat e) one in
    let adds = c.push_reserved.ensures.items ∙ ap (λ (e : ℕ × TaskStand g.row.P-Lat-Event.Denot g.row.P-Local.Denot). c.args.woken.now.items ++ e.1 ∷ []) one in
    let seats = seated g before in
    record {
      wakes = subst (λ es. Wakes Can (λ q. IsAmong (c.args.index, q) c.args.self.now) (stands_of c.args.self.now) (stands_of es) c.args.woken.now.items c.push_reserved.new.self.items) (sym left)
          (wakes_seated laws exact c.self.inside.seats.items c.args.self.now seats c.requires.once c.in-Some.seat c.args.index p c.in-Some.ensures.1 Can can c.args.woken.now.items c.push_reserved.new.self.items adds);
      gone = λ t i. index_gone laws exact c.self.inside.seats.items c.args.self.now seats c.requires.once c.in-Some.seat c.args.index p c.in-Some.ensures.1 (subst (λ es. IsAmong c.args.index (indices_of es)) left i);
      once = subst (λ es. NoRepeats (tasks_of (stands_of es))) (sym left) (left_once laws exact c.self.inside.seats.items c.args.self.now seats c.requires.once c.in-Some.seat c.args.index p c.in-Some.ensures.1);
      within = λ e i. left_within laws exact c.self.inside.seats.items c.args.self.now seats c.requires.once c.in-Some.seat c.args.index p c.in-Some.ensures.1 e (subst (λ es. IsAmong e es) left i);
      capacity = c.push_reserved.ensures.capacity;
    }
