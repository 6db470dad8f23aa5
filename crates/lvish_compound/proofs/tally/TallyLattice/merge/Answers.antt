use Rattle.std.proofs.Common.{◌∙◌, sym, ap, arith, is_some, unwrap_or}
use Rattle.lvish_compound.specs.Amounts.{total_of}
use Rattle.lvish_compound.specs.Tally.{Amounts}
use Rattle.lvish_compound.proofs.Tallies.{past_is_top, merged_total}
use Rattle.lvish_compound.proofs.tally.TallyLattice.merge.Goals as goal

pub returns-then-total-gt-HIGHEST_TOTAL-clause-merged : goal.returns-then-total-gt-HIGHEST_TOTAL-clause-merged
returns-then-total-gt-HIGHEST_TOTAL-clause-merged c =
    let top = past_is_top c.args.self.now c.args.put.now (omega (arith, c.if-total-gt-HIGHEST_TOTAL.true, c.gain.ensures.same)) in
    (ap is_some (sym top), ap (λ o. unwrap_or o c.args.self.now) (sym top))

pub invariant_of-self : goal.invariant_of-self
invariant_of-self c = record { counted = c.args.self.now.counted ∙ ap (λ (v : Amounts). total_of v.entries) (sym c.in_err-merged.ensures.refused); bounded = c.args.self.now.bounded }

pub invariant_of-self-then-merged : goal.invariant_of-self-then-merged
invariant_of-self-then-merged c =
    let e = c.in_ok-merged.ensures.merged in
    let sum = (merged_total c.args.self.now c.args.put.now c.merge.new.self c.in_ok-merged.merged e.0 e.1).0 c.if-merged.true in
    record { counted = omega (arith, sum, c.gain.ensures.same); bounded = c.if-total-gt-HIGHEST_TOTAL.false }
