use Rattle.std.proofs.Common.{◌≡◌, refl, is_some, not, true, ◌∙◌, sym, ap}
use Rattle.lvish_compound.specs.Pair.{joined}
use Rattle.std.proofs.lemmas.Result.{IfOk-weaker}
use Rattle.lvish_compound.proofs.PairFresh.{one_rises, two_rises, both_rise, top_brings_nothing}
use Rattle.lvish_compound.proofs.pair.PairLattice.fresh.Goals as goal

pub returns-then-leq : goal.returns-then-leq
returns-then-leq g c = IfOk-weaker c.of_sides.result _ _
    (λ v e. e ∙ one_rises g.met.A.Lattice.is_join g.met.B.Lattice.is_join g.met.A.Event.Eq.laws g.met.B.Event.Eq.laws g.A.Lattice.events_of g.B.Lattice.events_of _ (λ x z. refl) (λ y w. refl) (λ x y. refl) (λ x y. refl) _ _ _ (c.deref.ensures.value ∙ c.in_ok-ones.ensures) (c.leq.ensures.0 c.if-leq.true))
    c.of_sides.ensures

pub returns-then-leq-2 : goal.returns-then-leq-2
returns-then-leq-2 g c = IfOk-weaker c.of_sides-then-leq-2.result _ _
    (λ v e. e ∙ two_rises g.met.A.Lattice.is_join g.met.B.Lattice.is_join g.met.A.Event.Eq.laws g.met.B.Event.Eq.laws g.A.Lattice.events_of g.B.Lattice.events_of _ (λ x z. refl) (λ y w. refl) (λ x y. refl) (λ x y. refl) _ _ _ (c.deref-then-leq-2.ensures.value ∙ c.in_ok-twos.ensures) (c.leq-2.ensures.0 c.if-leq-2.true))
    c.of_sides-then-leq-2.ensures

pub returns-then-is_none : goal.returns-then-is_none
returns-then-is_none g c = c.new.ensures.items ∙ top_brings_nothing g.met.A.Lattice.is_join g.met.B.Lattice.is_join g.met.A.Event.Eq.laws g.met.B.Event.Eq.laws g.A.Lattice.events_of g.B.Lattice.events_of _ (λ x z. refl) (λ y w. refl) (λ x y. refl) (λ x y. refl) _ _ (ap is_some (sym c.in_ok-join.ensures) ∙ c.if-is_none.ensures)

pub returns : goal.returns
returns g c =
    let rises : is_some (joined g.A.Lattice.joined g.B.Lattice.joined c.args.old.now c.args.put.now) ≡ true = ap is_some (sym c.in_ok-join.ensures) ∙ c.is_none.ensures ∙ ap not c.if-is_none.false in
    IfOk-weaker c.of_sides-2.result _ _
    (λ v e. e ∙ both_rise g.met.A.Lattice.is_join g.met.B.Lattice.is_join g.met.A.Event.Eq.laws g.met.B.Event.Eq.laws g.A.Lattice.events_of g.B.Lattice.events_of _ (λ x z. refl) (λ y w. refl) (λ x y. refl) (λ x y. refl) _ _ _ _ (c.deref-2.ensures.value ∙ c.in_ok-ones-2.ensures) (c.deref-3.ensures.value ∙ c.in_ok-twos-2.ensures) rises)
    c.of_sides-2.ensures
