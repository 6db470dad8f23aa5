use Rattle.std.proofs.Common.{◌<◌, length, refl, sym, ap, ◌∙◌, arith, Some}
use Rattle.std.proofs.lemmas.Option.{slice_get_read}
use Rattle.lvish_names.specs.laws.OrderLaws.{name_equiv}
use Rattle.lvish_names.proofs.NameLaws.{same_name-true}
use Rattle.lvish_core.proofs.Indexing.{told_there, looked_at, not_there}
use Rattle.lvish_core.proofs.Staged.{at-names}
use Rattle.lvish_core.proofs.tasks.Tasks.index_of.Goals as goal

pub returns-in-Some : goal.returns-in-Some
returns-in-Some g c = rw (← c.self.view_is) (told_there _ (name_equiv g.met.E.Eq.laws) _ _ _ _ c.self.invariant c.args.name.now c.in-Some.index.now (sym c.in-Some.ensures.value))

pub returns-then-eq : goal.returns-then-eq
returns-then-eq g c =
    let short : c.loop-index.index < length c.self.inside.names.items = omega (arith, c.loop-index-test.true, c.len-index-end.ensures, c.self.inside.names.ok.0) in
    let there = slice_get_read c.self.inside.names.items _ c.loop-index.index c.index.result.now refl short c.index.ensures in
    let same = same_name-true g.met.E.Plain.identical c.index.result.now c.args.name.now (sym c.eq.ensures ∙ c.if-eq.true) in
    rw (← c.self.view_is) (at-names _ _ c.self.invariant.beside c.loop-index.index c.args.name.now (there ∙ ap Some same))

pub loop-index-preserved : goal.loop-index-preserved
loop-index-preserved g c =
    let short : c.loop-index.index < length c.self.inside.names.items = omega (arith, c.loop-index-test.true, c.len-index-end.ensures, c.self.inside.names.ok.0) in
    let there = slice_get_read c.self.inside.names.items _ c.loop-index.index c.index.result.now refl short c.index.ensures in
    looked_at _ (name_equiv g.met.E.Eq.laws) _ _ _ c.self.invariant.indexed c.args.name.now c.loop-index.index c.loop-index.invariant c.index.result.now there (sym c.eq.ensures ∙ c.if-eq.false)

pub returns : goal.returns
returns g c = rw (← c.self.view_is)
    (not_there _ (name_equiv g.met.E.Eq.laws) _ _ _ _ c.self.invariant (same_name-true g.met.E.Plain.identical) c.args.name.now (sym c.in_default.ensures.value)
    (λ i from less at. c.loop-index.invariant i from (omega (arith, less, c.loop-index-test.false, c.len-index-end.ensures, c.self.inside.names.ok.0)) at))
