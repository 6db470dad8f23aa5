use Rattle.std.proofs.Common.{◌∙◌, sym, ap}
use Rattle.std.specs.Map.Iter.{deref_pair}
use Rattle.std.proofs.lemmas.Map.Iter.{rest_more, rest_all}
use Rattle.lvish_compound.specs.Keyed.{add_all}
use Rattle.lvish_compound.proofs.Parts.{joined_more, joined_top}
use Rattle.lvish_compound.proofs.keyed.joined.Goals as goal

pub loop-key-preserved : goal.loop-key-preserved
loop-key-preserved g c =
    joined_more g.K.Ord.cmp g.L.Lattice.least g.L.Lattice.joined _ c.loop-key.joined c.join_at.new.self c.loop-key.key-iterator c.next.new.self c.in-Some.key.now c.in-Some.part.now _ c.loop-key.invariant
    (rest_more deref_pair _ _ _ (c.in-Some.key, c.in-Some.part) c.in-Some.is c.next.ensures.steps) c.if-not-branch.false c.in_ok-join_at.ensures.added

pub returns-then-not-branch : goal.returns-then-not-branch
returns-then-not-branch g c =
    joined_top g.K.Ord.cmp g.L.Lattice.least g.L.Lattice.joined _ c.loop-key.joined c.join_at.new.self c.loop-key.key-iterator c.next.new.self c.in-Some.key.now c.in-Some.part.now _ c.loop-key.invariant
    (rest_more deref_pair _ _ _ (c.in-Some.key, c.in-Some.part) c.in-Some.is c.next.ensures.steps) c.if-not-branch.true c.in_ok-join_at.ensures.added

pub returns : goal.returns
returns g c = ap (add_all g.K.Ord.cmp g.L.Lattice.least g.L.Lattice.joined c.loop-key.joined) (sym (rest_all deref_pair _ _ _ c.in-None.is c.next.ensures.steps)) ∙ c.loop-key.invariant
