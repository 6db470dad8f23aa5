use Rattle.std.proofs.Common.{ℕ, sym, ◌∙◌}
use Rattle.lvish_deal.proofs.Wholes.{whole_back, whole_first, whole_last}
use Rattle.lvish_deal_tests.proofs.tests.threads.gathered.Goals as goal

pub loop-one-preserved : goal.loop-one-preserved
loop-one-preserved c = rw c.in_ok-insert.ensures.items (whole_back {T = ℕ} (λ d. d.0) c.loop-one.done.items c.pop.new.self.items c.in-Some.one c.loop-one.seats.items c.in-Some.ensures.items c.loop-one.invariant)

pub loop-one-init : goal.loop-one-init
loop-one-init c = whole_first {T = ℕ} (λ d. d.0) c.args.done.items c.in_ok-seats.seats.items c.in_ok-seats.ensures.items c.requires

pub returns : goal.returns
returns c = whole_last {T = ℕ} (λ d. d.0) c.loop-one.done.items c.loop-one.seats.items (sym c.loop-one.done.ok.0 ∙ c.in_default.ensures.cases.0) c.loop-one.invariant
