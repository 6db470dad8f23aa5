use Rattle.std.proofs.Common.{sym, refl, ap, ◌∙◌, is_some}
use Rattle.lvish_handlers.proofs.handlers.Handlers.has_next.Goals as goal

pub next_at-requires : goal.next_at-requires
next_at-requires g c = (c.args.name.now, c.in-Some.ensures.found)

pub returns-in-Some : goal.returns-in-Some
returns-in-Some g c =
    let same = c.is_some.ensures ∙ ap is_some (c.next_at.ensures c.args.name.now c.in-Some.ensures.found) in
    (λ t. sym same ∙ t, λ s. same ∙ s)

pub returns-in-None : goal.returns-in-None
returns-in-None g c =
    let none = ap is_some (c.in-None.ensures.none refl c.args.variable.now.log) in
    (λ t. none ∙ t, λ s. sym none ∙ s)
