use Rattle.std.proofs.Common.{◌≡◌, ◌∙◌, ap, sym, true, false}
use Rattle.std.specs.List.{list_all}
use Rattle.std.specs.Set.{is_member}
use Rattle.std.specs.Map.Iter.{deref}
use Rattle.std.proofs.lemmas.Map.Iter.{rest_more, rest_all}
use Rattle.lvish_lattice.specs.Ascending.{ties_are_same}
use Rattle.lvish_lattice.proofs.Puts.{within_by_test, one_fails}
use Rattle.lvish_lattice.proofs.elements.Elements.is_within.Goals as goal

pub returns-then-not-has : goal.returns-then-not-has
returns-then-not-has g c =
    let v = g.met.V in
    let has = is_member g.V.PartialEq.eq c.args.other.now in
    let all = rest_more deref c.loop-x.x-iterator c.next.new.self _ c.in-Some.x c.in-Some.is c.next.ensures.steps in
    let lacks : has c.in-Some.x.now ≡ false = sym c.has.ensures ∙ c.if-not-has.true in
    within_by_test v.Ord.total (ties_are_same g.V.Ord.cmp v.Plain.identical v.Ord.matches_eq) g.V.PartialEq.eq v.Ord.matches_eq c.args.self.now c.args.other.now c.requires.first c.requires.second false
    (c.loop-x.invariant ∙ ap (list_all has) all ∙ one_fails has c.in-Some.x.now c.next.new.self lacks)

pub returns : goal.returns
returns g c =
    let v = g.met.V in
    let has = is_member g.V.PartialEq.eq c.args.other.now in
    within_by_test v.Ord.total (ties_are_same g.V.Ord.cmp v.Plain.identical v.Ord.matches_eq) g.V.PartialEq.eq v.Ord.matches_eq c.args.self.now c.args.other.now c.requires.first c.requires.second true
    (c.loop-x.invariant ∙ ap (list_all has) (rest_all deref c.loop-x.x-iterator c.next.new.self _ c.in-None.is c.next.ensures.steps))
