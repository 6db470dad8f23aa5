use Rattle.std.proofs.Common.{◌∙◌, sym, arith}
use Rattle.lvish_compound.specs.laws.TallyLaws.{joined_tally}
use Rattle.lvish_compound.proofs.Tallies.{sum_of_join, past_is_top}
use Rattle.lvish_compound.proofs.tally.TallyLattice.join.Goals as goal

pub returns-then-total-gt-HIGHEST_TOTAL : goal.returns-then-total-gt-HIGHEST_TOTAL
returns-then-total-gt-HIGHEST_TOTAL c = sym (past_is_top c.args.self.now c.args.other.now (omega (arith, c.if-total-gt-HIGHEST_TOTAL.true, c.gain.ensures.same)))

pub invariant_of-result : goal.invariant_of-result
invariant_of-result c =
    let sum = sum_of_join c.args.self.now c.args.other.now c.in-Some.amounts (sym c.in_ok-amounts.ensures ∙ c.in-Some.is) in
    record { counted = omega (arith, sum, c.gain.ensures.same); bounded = c.if-total-gt-HIGHEST_TOTAL.false }

pub returns-in-Some : goal.returns-in-Some
returns-in-Some c = sym (joined_tally c.args.self.now c.args.other.now _ (sym c.in_ok-amounts.ensures ∙ c.in-Some.is))
