use Rattle.std.proofs.Common.{◌≡◌, ◌≤◌, ◌↔◌, ◌*◌, IsTrue, All, length, nat_eq, subst, arith}
use Rattle.lvish_handlers.specs.declared.held.Held.{Held}
use Rattle.lvish_handlers.specs.Handlers.{HandlersView}
use Rattle.lvish_handlers.proofs.Changes.{full_test}
use Rattle.lvish_handlers.proofs.handlers.Handlers.drained.Goals as goal

-- the total is as large as it can be
pub returns : goal.returns
returns g c =
    let held = c.self.inside.held.items in
    let n = length c.args.variable.now.log in
    let len : c.len.result ≡ length held = omega (arith, c.len.ensures, c.self.inside.held.ok.0) in
    let by_sum : All (λ h. h.handed ≤ n) held → IsTrue (nat_eq c.self.inside.total (length held * n)) ↔ All (λ h. h.handed ≡ n) held =
    λ all. full_test (λ (h : Held _). h.handed) held n c.self.inside.total all c.self.invariant.sum in
    rw (len, c.log.ensures.log) (subst (λ (v : HandlersView _). All (λ h. h.handed ≤ n) v.held → IsTrue (nat_eq c.self.inside.total (length held * n)) ↔ All (λ h. h.handed ≡ n) v.held) c.self.view_is by_sum c.requires)
