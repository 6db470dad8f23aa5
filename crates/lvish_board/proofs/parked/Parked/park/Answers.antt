use Rattle.std.proofs.Common.{◌≡◌, ◌++◌, ◌∷◌, [], inl, inr, ℕ, Some, IfOk, OnErr, true, sym, subst, ◌∙◌, true≢false}
use Rattle.lvish_board.specs.Stand.{TaskStand}
use Rattle.lvish_calculus.specs.Handing.{IsAmong}
use Rattle.lvish_board.specs.Shelved.{IsOnItsList}
use Rattle.lvish_board.specs.Seated.{indices_of, stands_of}
use Rattle.lvish_board.specs.Board.{tasks_of}
use Rattle.lvish_board.proofs.Parking.{beside_itself, beside_if_ok, is_parked_at, not_parked, once_beside, parked_or_before}
use Rattle.lvish_board.proofs.parked.Parked.park.Goals as goal

pub returns-then-has-clause-ok : goal.returns-then-has-clause-ok
returns-then-has-clause-ok g c = λ a is.
    let there = subst (λ es. IsAmong c.args.index (indices_of es)) c.self.view_is (c.has.ensures.0 c.if-has.true) in
    beside_itself a (stands_of c.args.self.now) c.requires.once (λ q. c.requires.same a q is) (is_parked_at c.args.index a.task c.args.self.now (λ e. c.requires.theirs a e is) there)

pub list_index-requires : goal.list_index-requires
list_index-requires g c = record { waiting = c.requires.waiting c.in-Some.asked.now (sym c.in-Some.ensures.value) }

pub invariant_of-self : goal.invariant_of-self
invariant_of-self g c = λ e i. c.list_index.ensures.kept ((g.P.Program.functions g.B.BoardBrand.program).request e.1.from) e.0 (c.self.invariant e i)

pub insert-requires-clause-absent : goal.insert-requires-clause-absent
insert-requires-clause-absent g c = λ i. true≢false (sym (c.has.ensures.1 i) ∙ c.if-has.false)

pub invariant_of-self-2 : goal.invariant_of-self-2
invariant_of-self-2 g c = λ e i.
    elim (parked_or_before _ c.insert.result c.args.index c.in-Some.asked.now c.self.inside.tasks c.insert.new.self (c.insert.ensures.ok c.in-Some.asked.now (sym c.in-Some.ensures.value)) c.insert.ensures.err e i) [
      | inl is ↦ subst (λ (x : ℕ × TaskStand g.row.P-Lat-Event.Denot g.row.P-Local.Denot). IsOnItsList g.P.Lat.Spot.PartialEq.eq g.P.Lat.Reads.watched c.list_index.new.whole.lists.items c.list_index.new.spots.tables.items c.list_index.new.freezes.lists.items ((g.P.Program.functions g.B.BoardBrand.program).request x.1.from) x.0) (sym is) c.in_ok-list_index.ensures.there
      | inr j ↦ c.list_index.ensures.kept ((g.P.Program.functions g.B.BoardBrand.program).request e.1.from) e.0 (c.self.invariant e j)
    ]

-- the task isn't among the parked ones
absent : (g : _) (c : goal.After-insert g) (a : TaskStand g.row.P-Lat-Event.Denot g.row.P-Local.Denot) → c.args.slot.now ≡ Some a → IsAmong a.task (tasks_of (stands_of c.args.self.now)) → ⊥
absent g c a is = not_parked c.args.index a.task c.args.self.now (λ e. c.requires.theirs a e is) (λ i. true≢false (sym (c.has.ensures.1 (subst (λ es. IsAmong c.args.index (indices_of es)) (sym c.self.view_is) i)) ∙ c.if-has.false))

pub returns-clause-ok : goal.returns-clause-ok
returns-clause-ok g c = λ a is. beside_if_ok c.insert.result c.args.index a c.args.self.now c.insert.new.self (absent g c a is) (subst (λ es. IfOk c.insert.result (λ _. c.insert.new.self ≡ es ++ (c.args.index, a) ∷ [])) c.self.view_is (c.insert.ensures.ok a is))

pub returns-clause-entries : goal.returns-clause-entries
returns-clause-entries g c = λ a e is. parked_or_before _ c.insert.result c.args.index a c.args.self.now c.insert.new.self (subst (λ es. IfOk c.insert.result (λ _. c.insert.new.self ≡ es ++ (c.args.index, a) ∷ [])) c.self.view_is (c.insert.ensures.ok a is)) (subst (λ es. OnErr c.insert.result ((c.insert.new.slot ≡ c.args.slot.now) × (c.insert.new.self ≡ es))) c.self.view_is c.insert.ensures.err) e

pub returns-clause-once : goal.returns-clause-once
returns-clause-once g c =
    let a = c.in-Some.asked.now in
    let is = sym c.in-Some.ensures.value in
    once_beside _ c.insert.result c.args.index a c.args.self.now c.insert.new.self (absent g c a is) c.requires.once (subst (λ es. IfOk c.insert.result (λ _. c.insert.new.self ≡ es ++ (c.args.index, a) ∷ [])) c.self.view_is (c.insert.ensures.ok a is)) (subst (λ es. OnErr c.insert.result ((c.insert.new.slot ≡ c.args.slot.now) × (c.insert.new.self ≡ es))) c.self.view_is c.insert.ensures.err)
