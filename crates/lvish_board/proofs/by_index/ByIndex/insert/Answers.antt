use Rattle.std.proofs.Common.{◌≡◌, ◌++◌, ◌∷◌, [], Some, length, ap, subst, ◌∙◌, arith}
use Rattle.std.specs.Prelude.{slice_get}
use Rattle.lvish_board.proofs.Comes.{for_this}
use Rattle.lvish_board.proofs.Seating.{pushed_seated}
use Rattle.lvish_board.proofs.by_index.ByIndex.insert.Goals as goal

pub index_mut-requires : goal.index_mut-requires
index_mut-requires g c = omega (arith, c.in_ok-reserve_at.ensures.there, c.reserve_at.new.seats.ok.0)

pub push_reserved-requires : goal.push_reserved-requires
push_reserved-requires g c = c.in_ok-reserve_at.ensures.room

pub invariant_of-self : goal.invariant_of-self
invariant_of-self g c = λ k e at.
    let was = subst (λ xs. slice_get xs k ≡ Some e) c.reserve_at.ensures.items at in
    c.reserve_at.ensures.kept e.0 k (c.self.invariant k e was)

pub invariant_of-self-2 : goal.invariant_of-self-2
invariant_of-self-2 g c =
    let es = c.self.inside.asked.items in
    let items : c.push_reserved.new.self.items ≡ es ++ (c.args.index, c.in-Some.asked) ∷ [] = c.push_reserved.ensures.items ∙ ap (λ xs. xs ++ (c.args.index, c.in-Some.asked) ∷ []) c.reserve_at.ensures.items in
    let count : c.len.result ≡ length es = c.len.ensures ∙ c.reserve_at.new.items.ok.0 ∙ ap (λ xs. length xs) c.reserve_at.ensures.items in
    let absent = rw (← c.self.view_is) at c.requires.absent in
    rw items (rw count (pushed_seated c.self.inside.seats.items es c.self.invariant c.reserve_at.new.seats.items c.args.index c.in-Some.asked c.reserve_at.ensures.kept c.in_ok-reserve_at.ensures.there absent))

pub returns-clause-ok : goal.returns-clause-ok
returns-clause-ok g c = for_this (λ x. c.push_reserved.new.self.items ≡ c.args.self.now ++ (c.args.index, x) ∷ []) c.in-Some.asked c.args.slot.now c.in-Some.ensures.value
    (c.push_reserved.ensures.items ∙ ap (λ xs. xs ++ (c.args.index, c.in-Some.asked) ∷ []) (c.reserve_at.ensures.items ∙ c.self.view_is))
