use Rattle.std.proofs.Common.{◌≡◌, ℕ, [], Option, Some, None, sym, ap, subst, ◌∙◌, arith}
use Rattle.std.proofs.lemmas.List.{length-map}
use Rattle.std.proofs.lemmas.List.Sorted.{IsPermutation-sym}
use Rattle.lvish_calculus.specs.Program.{machine_of}
use Rattle.lvish_board.specs.Vocabulary.{Act, PutOn as Put, Handed, EndedIn as Ended, Other, Request, Touched}
use Rattle.lvish_core.specs.Core.{CanTake}
use Rattle.lvish_names.specs.laws.OrderLaws.{name_total}
use Rattle.lvish_names.proofs.NameLaws.{name_cmp-iff}
use Rattle.lvish_board.specs.Stand.{TaskStand}
use Rattle.lvish_board.specs.Seated.{AreWithin, stands_of}
use Rattle.lvish_board.specs.Woken.{MayWake}
use Rattle.lvish_board.specs.Waking.{Wakes}
use Rattle.lvish_board.proofs.Sorting.{ascending}
use Rattle.lvish_board.proofs.Waking.{wakes_at, wakes_fewer, wakes_none, woken_alone, woken_once, woken_permuted}
use Rattle.lvish_board.proofs.Woken.{may_end, may_hand}
use Rattle.lvish_board.proofs.parked.Parked.wake_some.Goals.{in-Some-Put, in-Some-Handed, in-Some-Ended, in-Some-Other, in-None}
use Rattle.lvish_board.proofs.parked.Parked.wake_some.Goals as goal

woken_by : (g : _) (c : goal.After-sort_by_task g) → Wakes (λ p. CanTake (machine_of g.P.Lat.PartialEq.eq g.P.Lat.Event.PartialEq.eq g.P.Lat.Event.Ord.cmp g.P.Lat.Lattice.least g.P.Lat.Lattice.joined g.P.Lat.Lattice.events_of g.P.Lat.Reads.answer_of (g.P.Program.functions c.args.core.now.program)) c.args.core.now (Act p.task))
    (λ p. MayWake g.P.Lat.Reads.spot_of g.P.Lat.Reads.watched c.args.core.now.touched c.args.fresh.now ((g.P.Program.functions c.args.core.now.program).request p.from)) (stands_of c.args.self.now) (stands_of c.match-last_touched.self) [] c.match-last_touched.woken.items
woken_by g c =
    let M = machine_of g.P.Lat.PartialEq.eq g.P.Lat.Event.PartialEq.eq g.P.Lat.Event.Ord.cmp g.P.Lat.Lattice.least g.P.Lat.Lattice.joined g.P.Lat.Lattice.events_of g.P.Lat.Reads.answer_of (g.P.Program.functions c.args.core.now.program) in
    let can : TaskStand g.row.P-Lat-Event.Denot g.row.P-Local.Denot → Type 0 = λ p. CanTake M c.args.core.now (Act p.task) in
    let request : TaskStand g.row.P-Lat-Event.Denot g.row.P-Local.Denot → Request g.row.P-Lat.Denot g.row.P-Lat-Read.Denot g.row.P-Local.Denot = λ p. (g.P.Program.functions c.args.core.now.program).request p.from in
    let may : Option Touched → TaskStand g.row.P-Lat-Event.Denot g.row.P-Local.Denot → Type 0 = λ t p. MayWake g.P.Lat.Reads.spot_of g.P.Lat.Reads.watched t c.args.fresh.now (request p) in
    elim c.match-last_touched.branch [
      | in-Some-Put w ↦
          let touched : c.args.core.now.touched ≡ Some (Put w.in-Some-Put.variable) = sym c.last_touched.ensures ∙ w.in-Some-Put.is ∙ ap (λ x. Some x) w.in-Some-Put.field-0-is in
          wakes_at can (may c.args.core.now.touched) _ _ _ _ _ _ _ (ap (λ es. stands_of es) w.self-is) c.requires.empty (ap (λ v. v.items) w.woken-is)
          (subst (λ t. Wakes can (may t) (stands_of c.args.self.now) (stands_of w.wake_gets.new.self) c.args.woken.now.items w.wake_gets.new.woken.items) (sym touched) w.wake_gets.ensures.wakes)
      | in-Some-Handed w ↦
          let touched : c.args.core.now.touched ≡ Some (Handed w.in-Some-Handed.variable) = sym c.last_touched.ensures ∙ w.in-Some-Handed.is ∙ ap (λ x. Some x) w.in-Some-Handed.field-0-is in
          wakes_at can (may c.args.core.now.touched) _ _ _ _ _ _ _ (ap (λ es. stands_of es) w.self-is) c.requires.empty (ap (λ v. v.items) w.woken-is)
          (wakes_fewer can _ _ _ _ _ _ w.wake_freezes.ensures.wakes (λ p i m. may_hand g.P.Lat.Reads.spot_of g.P.Lat.Reads.watched w.in-Some-Handed.variable c.args.fresh.now [] (request p) (subst (λ t. may t p) touched m)))
      | in-Some-Ended w ↦
          let touched : c.args.core.now.touched ≡ Some (Ended w.in-Some-Ended.variable) = sym c.last_touched.ensures ∙ w.in-Some-Ended.is ∙ ap (λ x. Some x) w.in-Some-Ended.field-0-is in
          wakes_at can (may c.args.core.now.touched) _ _ _ _ _ _ _ (ap (λ es. stands_of es) w.self-is) c.requires.empty (ap (λ v. v.items) w.woken-is)
          (wakes_fewer can _ _ _ _ _ _ w.wake_freezes-in-Some-Ended.ensures.wakes (λ p i m. may_end g.P.Lat.Reads.spot_of g.P.Lat.Reads.watched w.in-Some-Ended.variable c.args.fresh.now [] (request p) (subst (λ t. may t p) touched m)))
      | in-Some-Other w ↦
          let touched : c.args.core.now.touched ≡ Some Other = sym c.last_touched.ensures ∙ w.in-Some-Other.is ∙ ap (λ x. Some x) w.in-Some-Other.field-0-is in
          wakes_at can (may c.args.core.now.touched) _ _ _ _ _ _ _ (ap (λ es. stands_of es) w.self-is) c.requires.empty (ap (λ v. v.items) w.woken-is)
          (wakes_none can (may c.args.core.now.touched) (stands_of c.args.self.now) c.args.woken.now.items (λ p i m k. subst (λ t. may t p) touched m))
      | in-None w ↦
          let touched : c.args.core.now.touched ≡ None = sym c.last_touched.ensures ∙ w.in-None.is in
          wakes_at can (may c.args.core.now.touched) _ _ _ _ _ _ _ (ap (λ es. stands_of es) w.self-is) c.requires.empty (ap (λ v. v.items) w.woken-is)
          (wakes_none can (may c.args.core.now.touched) (stands_of c.args.self.now) c.args.woken.now.items (λ p i m k. subst (λ t. may t p) touched m))
    ]

pub returns-clause-woken : goal.returns-clause-woken
returns-clause-woken g c =
    woken_permuted _ _ _ _ c.match-last_touched.woken.items c.sort_by_task.new.woken.items (woken_alone _ _ _ _ _ (woken_by g c)) c.sort_by_task.ensures.permutation (IsPermutation-sym _ _ c.sort_by_task.ensures.permutation)

pub returns-clause-by_name : goal.returns-clause-by_name
returns-clause-by_name g c =
    let exact = name_cmp-iff g.P.Lat.Event.Ord.cmp g.met.P.Lat.Event.Plain.identical g.met.P.Lat.Event.Ord.matches_eq g.met.P.Lat.Event.Ord.total in
    ascending (name_total g.met.P.Lat.Event.Ord.total) (λ t u. (exact t u).0) c.match-last_touched.woken.items c.sort_by_task.new.woken.items (woken_once _ _ _ _ _ (woken_by g c) c.requires.once).0 c.sort_by_task.ensures.permutation c.sort_by_task.ensures.sorted

pub returns-clause-once : goal.returns-clause-once
returns-clause-once g c = (woken_once _ _ _ _ _ (woken_by g c) c.requires.once).1

pub returns-clause-within : goal.returns-clause-within
returns-clause-within g c = elim c.match-last_touched.branch [
  | in-Some-Put w ↦ subst (λ es. AreWithin es c.args.self.now) (sym w.self-is) w.wake_gets.ensures.within
  | in-Some-Handed w ↦ subst (λ es. AreWithin es c.args.self.now) (sym w.self-is) w.wake_freezes.ensures.within
  | in-Some-Ended w ↦ subst (λ es. AreWithin es c.args.self.now) (sym w.self-is) w.wake_freezes-in-Some-Ended.ensures.within
  | in-Some-Other w ↦ subst (λ es. AreWithin es c.args.self.now) (sym w.self-is) (λ e i. i)
  | in-None w ↦ subst (λ es. AreWithin es c.args.self.now) (sym w.self-is) (λ e i. i)
]

pub returns-clause-few : goal.returns-clause-few
returns-clause-few g c = let w = woken_by g c in omega (arith, w.count, length-map c.args.self.now (λ (e : ℕ × TaskStand g.row.P-Lat-Event.Denot g.row.P-Local.Denot). e.1), c.sort_by_task.ensures.len, c.match-last_touched.woken.ok.0)
