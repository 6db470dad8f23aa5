use Rattle.std.proofs.Common.{rules, ◌≡◌, inl, ◌≤◌, ◌<◌, None, IsSome, length, refl, subst, sym, ◌∙◌, arith}
use Rattle.lvish_calculus.specs.Program.{machine_of}
use Rattle.lvish_core.specs.Tasks.{task_names}
use Rattle.lvish_board.proofs.Comes.{hand_over, hand_unmade}
use Rattle.lvish_board.proofs.Handing.{held_here}
use Rattle.lvish_trace.proofs.Noting.{as_many}
use Rattle.lvish_board.proofs.Steps.{none_is, not_full}
use Rattle.lvish_board.proofs.board.Board.hand_into.Goals as goal

pub returns-then-is_some-clause-comes : goal.returns-then-is_some-clause-comes
returns-then-is_some-clause-comes g c =
    let some : IsSome c.args.self.now.over = rw (← c.self.view_is) (sym c.is_some.ensures ∙ c.if-is_some.true) in
    λ h there. hand_over (inl some) refl refl refl some (λ _. refl)

pub hand_no_more-requires-clause-running : goal.hand_no_more-requires-clause-running
hand_no_more-requires-clause-running g c = rw (← c.self.view_is) (none_is c.self.inside.over (sym c.is_some.ensures ∙ c.if-is_some.false))

pub hand_no_more-requires-clause-used : goal.hand_no_more-requires-clause-used
hand_no_more-requires-clause-used g c =
    let sound = c.self.invariant.2 in
    let many = as_many (task_names c.self.inside.core.table.tasks) c.self.inside.trace.items in
    let within : length c.self.inside.trace.items ≤ g.B.BoardBrand.budget = subst (λ n. n ≤ g.B.BoardBrand.budget) many sound.within in
    let used : length c.self.inside.trace.items ≡ g.B.BoardBrand.budget = omega (arith, within, c.self.invariant.0, c.if-len-self.true, c.len.ensures, c.self.inside.trace.ok.0) in
    rw (← c.self.view_is) (many ∙ used)

pub returns-then-len-self-clause-comes : goal.returns-then-len-self-clause-comes
returns-then-len-self-clause-comes g c = λ h there.
    let M = machine_of g.P.Lat.PartialEq.eq g.P.Lat.Event.PartialEq.eq g.P.Lat.Event.Ord.cmp g.P.Lat.Lattice.least g.P.Lat.Lattice.joined g.P.Lat.Lattice.events_of g.P.Lat.Reads.answer_of (g.P.Program.functions g.B.BoardBrand.program) in
    let none = none_is c.self.inside.over (sym c.is_some.ensures ∙ c.if-is_some.false) in
    let going : c.args.self.now.over ≡ None = rw (← c.self.view_is) none in
    hand_unmade c.args.step_work.now c.hand_no_more.result (held_here M (c.hands_one_event.ensures.open g.B.BoardBrand.program) _ _ c.self.view_is c.self.invariant.2 none h) going c.hand_no_more.ensures.stays (c.hand_no_more.ensures.came h there)

pub make_hand-requires-clause-running : goal.make_hand-requires-clause-running
make_hand-requires-clause-running g c = rw (← c.self.view_is) (none_is c.self.inside.over (sym c.is_some.ensures ∙ c.if-is_some.false))

pub returns-then-make_hand-clause-comes : goal.returns-then-make_hand-clause-comes
returns-then-make_hand-clause-comes g c = c.make_hand.ensures.comes c.if-make_hand.true

pub returns-else-make_hand-clause-comes : goal.returns-else-make_hand-clause-comes
returns-else-make_hand-clause-comes g c = λ h there.
    let M = machine_of g.P.Lat.PartialEq.eq g.P.Lat.Event.PartialEq.eq g.P.Lat.Event.Ord.cmp g.P.Lat.Lattice.least g.P.Lat.Lattice.joined g.P.Lat.Lattice.events_of g.P.Lat.Reads.answer_of (g.P.Program.functions g.B.BoardBrand.program) in
    let none = none_is c.self.inside.over (sym c.is_some.ensures ∙ c.if-is_some.false) in
    let going : c.args.self.now.over ≡ None = rw (← c.self.view_is) none in
    let many = as_many (task_names c.self.inside.core.table.tasks) c.self.inside.trace.items in
    let less : length c.self.inside.trace.items < g.B.BoardBrand.budget = search rules in
    let room : length c.args.self.now.trace ≡ g.B.BoardBrand.budget → ⊥ = rw (← c.self.view_is) (not_full (subst (λ n. n < g.B.BoardBrand.budget) (sym many) less)) in
    let kept = c.make_hand.ensures.kept c.if-make_hand.false in
    let came = rw kept at (c.not_handed.ensures h (c.make_hand.ensures.back c.if-make_hand.false ∙ there)) in
    rw kept (hand_unmade c.make_hand.new.step_work c.not_handed.result (held_here M (c.hands_one_event.ensures.open g.B.BoardBrand.program) _ _ c.self.view_is c.self.invariant.2 none h) going (refl, refl, refl) (came room))
