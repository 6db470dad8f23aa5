use Rattle.std.proofs.Common.{ℕ}
use Rattle.lvish_deal.proofs.Wholes.{whole_moved}
use Rattle.lvish_deal_tests.proofs.tests.threads.miscounted.Goals as goal

pub gathered-requires : goal.gathered-requires
gathered-requires g c = whole_moved {T = ℕ} (λ d. d.0) c.in_ok-deal.field-0.items c.in_ok-done.done.items c.in_ok-done.ensures.len c.in_ok-done.ensures.same c.in_ok-deal.ensures.whole.0
