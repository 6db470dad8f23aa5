use Rattle.std.proofs.Common.{◌∷◌, ◌∙◌, suc, sym, ap, subst, map, take, drop, take_all}
use Rattle.std.specs.List.{AllByRecursion}
use Rattle.std.proofs.Math.Seq.{split_at}
use Rattle.std.proofs.lemmas.List.{take_more}
use Rattle.lvish_checks.specs.Vocabulary.{TooLong}
use Rattle.lvish_checks.proofs.Order.{one_more}
use Rattle.lvish_checks.proofs.Verdicts.{PassesBeside, accepted_text, first_of_text}
use Rattle.lvish_checks.proofs.verdict.first_fault.Goals as goal

pub returns-in-Some-clause-found : goal.returns-in-Some-clause-found
returns-in-Some-clause-found c =
    let faults = c.as_slice-fault-items.result.now in
    record {
      passed = TooLong ∷ take c.loop-fault.fault-index faults;
      rest = drop (suc c.loop-fault.fault-index) faults;
      order = ap (λ t. TooLong ∷ t) (sym c.as_slice-fault-items.ensures ∙ split_at faults c.loop-fault.fault-index TooLong c.loop-fault-test.true);
      earlier = c.loop-fault.invariant;
      lowest = rw c.in-Some.is at c.in_ok-line.ensures;
    }

pub returns-in-Some-clause-verdict : goal.returns-in-Some-clause-verdict
returns-in-Some-clause-verdict c = λ bytes words short bad. first_of_text bytes (map (λ w. w.now) c.args.lines.now) words c.args.said.now c.args.bad_number short bad _ _ (returns-in-Some-clause-found c)

pub loop-fault-preserved : goal.loop-fault-preserved
loop-fault-preserved c =
    let faults = c.as_slice-fault-items.result.now in
    subst (λ t. AllByRecursion (PassesBeside (map (λ w. w.now) c.args.lines.now) c.args.said.now c.args.bad_number) (TooLong ∷ t)) (sym (take_more faults c.loop-fault.fault-index TooLong c.loop-fault-test.true))
    (one_more (PassesBeside (map (λ w. w.now) c.args.lines.now) c.args.said.now c.args.bad_number) (TooLong ∷ take c.loop-fault.fault-index faults) _ c.loop-fault.invariant (rw c.in_default.is at c.in_ok-line.ensures))

pub returns-clause-found : goal.returns-clause-found
returns-clause-found c =
    subst (λ t. AllByRecursion (PassesBeside (map (λ w. w.now) c.args.lines.now) c.args.said.now c.args.bad_number) (TooLong ∷ t)) (take_all c.loop-fault.fault-index c.as_slice-fault-items.result.now c.loop-fault-test.false ∙ c.as_slice-fault-items.ensures)
    c.loop-fault.invariant

pub returns-clause-verdict : goal.returns-clause-verdict
returns-clause-verdict c = λ bytes words short bad. accepted_text bytes (map (λ w. w.now) c.args.lines.now) words c.args.said.now c.args.bad_number short bad (returns-clause-found c)
