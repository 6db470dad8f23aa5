use Rattle.std.proofs.Common.{rules, ◌≡◌, inl, ◌≤◌, ◌<◌, None, Some, IsSome, length, refl, ap, subst, sym, ◌∙◌, arith}
use Rattle.lvish_core.specs.Changes.{local_of}
use Rattle.lvish_core.specs.Tasks.{task_names}
use Rattle.lvish_board.specs.Vocabulary.{GoneKind, NextKind, OverKind, ParkedKind, StaleKind}
use Rattle.lvish_board.proofs.Comes.{act_over, act_stale, act_unmade, for_this}
use Rattle.lvish_trace.proofs.Noting.{as_many}
use Rattle.lvish_board.proofs.Steps.{none_is, not_full}
use Rattle.lvish_board.proofs.board.Board.act_indexed.Goals as goal

pub returns-then-is_some-clause-comes : goal.returns-then-is_some-clause-comes
returns-then-is_some-clause-comes g c =
    let some : IsSome c.args.self.now.over = rw (← c.self.view_is) (sym c.is_some.ensures ∙ c.if-is_some.true) in
    λ a there. act_over (inl some) refl refl some refl (λ _. refl)

pub returns-in_default-current-clause-comes : goal.returns-in_default-current-clause-comes
returns-in_default-current-clause-comes g c =
    let none : c.args.self.now.over ≡ None = rw (← c.self.view_is) (none_is c.self.inside.over (sym c.is_some.ensures ∙ c.if-is_some.false)) in
    for_this _ _ _ c.in-Some.ensures.value (act_stale refl none c.in_default-current.ensures)

pub act_no_more-requires-clause-running : goal.act_no_more-requires-clause-running
act_no_more-requires-clause-running g c = rw (← c.self.view_is) (none_is c.self.inside.over (sym c.is_some.ensures ∙ c.if-is_some.false))

pub act_no_more-requires-clause-used : goal.act_no_more-requires-clause-used
act_no_more-requires-clause-used g c =
    let sound = c.self.invariant.2 in
    let budget = c.self.invariant.0 in
    let full : c.self.inside.budget ≤ length c.self.inside.trace.items = search rules in
    let many = as_many (task_names c.self.inside.core.table.tasks) c.self.inside.trace.items in
    let within : length c.self.inside.trace.items ≤ g.B.BoardBrand.budget = subst (λ n. n ≤ g.B.BoardBrand.budget) many sound.within in
    let used : length c.self.inside.trace.items ≡ g.B.BoardBrand.budget = omega (arith, full, within, budget) in
    rw (← c.self.view_is) (many ∙ used)

pub returns-then-len-self-clause-comes : goal.returns-then-len-self-clause-comes
returns-then-len-self-clause-comes g c =
    let none : c.args.self.now.over ≡ None = rw (← c.self.view_is) (none_is c.self.inside.over (sym c.is_some.ensures ∙ c.if-is_some.false)) in
    for_this _ _ _ c.in-Some.ensures.value (act_unmade _ c.act_no_more.result none (ap local_of c.in-Some-current.ensures.0) c.act_no_more.ensures.trace c.act_no_more.ensures.core (c.act_no_more.ensures.came c.in-Some.task.now refl))

pub make-requires-clause-running : goal.make-requires-clause-running
make-requires-clause-running g c = rw (← c.self.view_is) (none_is c.self.inside.over (sym c.is_some.ensures ∙ c.if-is_some.false))

pub returns-in-Memory-clause-comes : goal.returns-in-Memory-clause-comes
returns-in-Memory-clause-comes g c =
    let none : c.args.self.now.over ≡ None = rw (← c.self.view_is) (none_is c.self.inside.over (sym c.is_some.ensures ∙ c.if-is_some.false)) in
    let many = as_many (task_names c.self.inside.core.table.tasks) c.self.inside.trace.items in
    let less : length c.self.inside.trace.items < g.B.BoardBrand.budget = search rules in
    let room : length c.args.self.now.trace ≡ g.B.BoardBrand.budget → ⊥ = rw (← c.self.view_is) (not_full (subst (λ n. n < g.B.BoardBrand.budget) (sym many) less)) in
    let kept = c.make.ensures.kept c.in-Memory.is in
    let back = ap (λ a. Some a) (c.make.ensures.back c.in-Memory.is) in
    let came = rw kept at (c.not_made.ensures.came c.in-Some.task.now back) in
    for_this _ _ _ c.in-Some.ensures.value (act_unmade _ c.not_made.result none (ap local_of c.in-Some-current.ensures.0) (c.not_made.ensures.trace ∙ ap (λ b. b.trace) kept) (c.not_made.ensures.core ∙ ap (λ b. b.core) kept) (came room))

pub park-requires-clause-blocked : goal.park-requires-clause-blocked
park-requires-clause-blocked g c =
    let k = c.make.ensures.blocked c.in-Parked.is in
    for_this _ _ _ refl (rw (k.1, k.2) k.0)

pub returns-in-Parked-clause-comes : goal.returns-in-Parked-clause-comes
returns-in-Parked-clause-comes g c =
    let none : c.args.self.now.over ≡ None = rw (← c.self.view_is) (none_is c.self.inside.over (sym c.is_some.ensures ∙ c.if-is_some.false)) in
    let k = c.make.ensures.blocked c.in-Parked.is in
    let back = ap (λ a. Some a) k.2 in
    for_this _ _ _ c.in-Some.ensures.value (act_unmade _ c.park.result none (ap local_of c.in-Some-current.ensures.0) (c.park.ensures.trace ∙ ap (λ b. b.trace) k.1) (c.park.ensures.core ∙ ap (λ b. b.core) k.1) (rw k.1 at (c.park.ensures.came c.in-Some.task.now back)))

pub returns-in-Parked-clause-back : goal.returns-in-Parked-clause-back
returns-in-Parked-clause-back g c = λ refused. c.park.ensures.back refused ∙ ap (λ a. Some a) (c.make.ensures.blocked c.in-Parked.is).2 ∙ c.in-Some.ensures.value

pub returns-in-Next-clause-comes : goal.returns-in-Next-clause-comes
returns-in-Next-clause-comes g c = for_this _ _ _ c.in-Some.ensures.value (rw c.in-Next.is at (c.make.ensures.comes (λ e. let z : NextKind ≡ ParkedKind = sym c.in-Next.is ∙ e in cc)))

pub returns-in-Gone-clause-comes : goal.returns-in-Gone-clause-comes
returns-in-Gone-clause-comes g c = for_this _ _ _ c.in-Some.ensures.value (rw c.in-Gone.is at (c.make.ensures.comes (λ e. let z : GoneKind ≡ ParkedKind = sym c.in-Gone.is ∙ e in cc)))

pub returns-in-Over-clause-comes : goal.returns-in-Over-clause-comes
returns-in-Over-clause-comes g c = for_this _ _ _ c.in-Some.ensures.value (rw c.in-Over.is at (c.make.ensures.comes (λ e. let z : OverKind ≡ ParkedKind = sym c.in-Over.is ∙ e in cc)))

pub returns-in-Stale-clause-comes : goal.returns-in-Stale-clause-comes
returns-in-Stale-clause-comes g c = for_this _ _ _ c.in-Some.ensures.value (rw c.in-Stale.is at (c.make.ensures.comes (λ e. let z : StaleKind ≡ ParkedKind = sym c.in-Stale.is ∙ e in cc)))
