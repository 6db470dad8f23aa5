use Rattle.std.proofs.Common.{◌≡◌, arith, rules, ap, ◌∙◌, ◌-◌}
use Rattle.std.specs.Map.Iter.{deref_pair}
use Rattle.std.proofs.lemmas.Map.Iter.{rest_more, rest_all}
use Rattle.lvish_lattice.specs.MaxCounter.{level}
use Rattle.lvish_compound.specs.Amounts.{gains}
use Rattle.lvish_compound.specs.laws.AmountLaws.{gain_within}
use Rattle.lvish_compound.specs.Tally.{entries_of, amount}
use Rattle.lvish_compound.proofs.Tallies.{gained_more, gained_within, gained_all}
use Rattle.lvish_compound.proofs.tally.Tally.gain.Goals as goal

gains_here : (c : goal.After-saturating_sub-gained) → c.saturating_sub-gained.result ≡ gains (entries_of c.args.self.now) (c.in-Some.key.now, c.in-Some.amount.now)
gains_here c =
    let e : c.amount.result ≡ amount c.args.self.now c.in-Some.key.now = search rules in
    c.saturating_sub-gained.ensures ∙ (λ i. c.level_of.ensures i - (c.level_of-in-loop-key.ensures ∙ ap level e) i)

pub overflow_add-gained : goal.overflow_add-gained
overflow_add-gained c =
    let more = rest_more deref_pair _ _ _ (c.in-Some.key, c.in-Some.amount) c.in-Some.is c.next.ensures.steps in
    let bound = gained_within (entries_of c.args.self.now) (entries_of c.args.put.now) c.loop-key.key-iterator c.next.new.self (c.in-Some.key.now, c.in-Some.amount.now) c.loop-key.gained c.loop-key.invariant more in
    omega (arith, bound, gains_here c, c.args.put.now.counted, c.args.put.now.bounded)

pub loop-key-preserved : goal.loop-key-preserved
loop-key-preserved c =
    let more = rest_more deref_pair _ _ _ (c.in-Some.key, c.in-Some.amount) c.in-Some.is c.next.ensures.steps in
    let step = gained_more (entries_of c.args.self.now) (entries_of c.args.put.now) c.loop-key.key-iterator c.next.new.self (c.in-Some.key.now, c.in-Some.amount.now) c.loop-key.gained c.loop-key.invariant more in
    omega (arith, step, gains_here c)

pub returns-clause-same : goal.returns-clause-same
returns-clause-same c = gained_all (entries_of c.args.self.now) (entries_of c.args.put.now) c.loop-key.key-iterator c.loop-key.gained c.loop-key.invariant (rest_all deref_pair _ _ _ c.in-None.is c.next.ensures.steps)

pub returns-clause-within : goal.returns-clause-within
returns-clause-within c =
    let all = gained_all (entries_of c.args.self.now) (entries_of c.args.put.now) c.loop-key.key-iterator c.loop-key.gained c.loop-key.invariant (rest_all deref_pair _ _ _ c.in-None.is c.next.ensures.steps) in
    omega (arith, all, gain_within (entries_of c.args.self.now) (entries_of c.args.put.now), c.args.put.now.counted, c.args.put.now.bounded)
