use Rattle.std.proofs.Common.{◌∙◌, sym, refl, true≢false}
use Rattle.std.proofs.lemmas.Bool.{false≢true}
use Rattle.std.specs.Map.Iter.{deref_pair}
use Rattle.std.proofs.lemmas.Map.Iter.{rest_more, rest_all}
use Rattle.lvish_lattice.specs.Ascending.{ties_are_same}
use Rattle.lvish_compound.proofs.Parts.{rest_rises, rest_above, below_more, not_below, none_below, all_below}
use Rattle.lvish_compound.proofs.keyed.is_below.Goals as goal

pub loop-key-preserved : goal.loop-key-preserved
loop-key-preserved g c =
    let R = g.K.Ord.cmp in
    let l = g.L.Lattice in
    let o = g.met.K.Ord.total in
    let j = g.met.L.Lattice.is_join in
    let more = rest_more deref_pair _ _ _ (c.in-Some.key, c.in-Some.part) c.in-Some.is c.next.ensures.steps in
    record {
      rises = rest_rises R l.least l.joined o j (c.in-Some.key.now, c.in-Some.part.now) c.loop-key.key-iterator c.next.new.self more c.loop-key.invariant.rises;
      above = rest_above R l.least l.joined o j g.L.PartialEq.eq (c.in-Some.key.now, c.in-Some.part.now) c.loop-key.key-iterator c.next.new.self more c.loop-key.invariant.above;
      same = below_more R l.least l.joined o j (ties_are_same R g.met.K.Plain.identical g.met.K.Ord.matches_eq) c.args.xs.now c.loop-key.key-iterator c.next.new.self c.args.ys.now c.in-Some.key.now c.in-Some.part.now c.in-Some-get.held.now c.loop-key.invariant.rises c.loop-key.invariant.same more c.in-Some-get.ensures (c.leq.ensures.0 c.if-not-leq.false);
    }

pub returns-in_default : goal.returns-in_default
returns-in_default g c =
    let l = g.L.Lattice in
    let more = rest_more deref_pair _ _ _ (c.in-Some.key, c.in-Some.part) c.in-Some.is c.next.ensures.steps in (
      λ e. absurd (false≢true e),
      λ r. absurd (none_below g.K.Ord.cmp l.least l.joined g.met.K.Ord.total g.met.L.Lattice.is_join g.L.PartialEq.eq g.met.L.Eq.laws.refl c.args.xs.now c.loop-key.key-iterator c.next.new.self c.args.ys.now c.in-Some.key.now c.in-Some.part.now c.loop-key.invariant.above c.loop-key.invariant.same more c.in_default.ensures r),
    )

pub returns-then-not-leq : goal.returns-then-not-leq
returns-then-not-leq g c =
    let l = g.L.Lattice in
    let more = rest_more deref_pair _ _ _ (c.in-Some.key, c.in-Some.part) c.in-Some.is c.next.ensures.steps in (
      λ e. absurd (false≢true e),
      λ r. absurd (not_below g.K.Ord.cmp l.least l.joined g.met.K.Ord.total g.met.L.Lattice.is_join c.args.xs.now c.loop-key.key-iterator c.next.new.self c.args.ys.now c.in-Some.key.now c.in-Some.part.now c.in-Some-get.held.now c.loop-key.invariant.same more c.in-Some-get.ensures
          (λ b. true≢false (sym (c.leq.ensures.1 b) ∙ c.if-not-leq.true)) r),
    )

pub returns : goal.returns
returns g c =
    let l = g.L.Lattice in (
      λ _. all_below g.K.Ord.cmp l.least l.joined g.met.K.Ord.total g.met.L.Lattice.is_join c.args.xs.now c.loop-key.key-iterator c.args.ys.now c.loop-key.invariant.same (rest_all deref_pair _ _ _ c.in-None.is c.next.ensures.steps),
      λ _. refl,
    )
