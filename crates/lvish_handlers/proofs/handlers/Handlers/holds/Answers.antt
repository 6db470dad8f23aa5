use Rattle.std.proofs.Common.{◌≡◌, ◌↔◌, IsTrue, sym, subst, ap, ◌∙◌}
use Rattle.lvish_handlers.specs.Handlers.{HandlersView, IsHeld}
use Rattle.lvish_handlers.proofs.Places.{holds-iff}
use Rattle.lvish_handlers.proofs.handlers.Handlers.holds.Goals as goal

pub returns : goal.returns
returns g c =
    let by_place = holds-iff g.L.Event.Ord.cmp g.met.L.Event.Plain.identical g.met.L.Event.Ord.matches_eq g.met.L.Event.Ord.total _ _ _ c.place_of.ensures.found c.place_of.ensures.gap in
    let same : c.deref.result.now ≡ c.args.self.now.held = c.deref.ensures.value ∙ ap (λ (v : HandlersView _). v.held) c.self.view_is in
    subst (λ hs. IsTrue c.is_ok.result ↔ IsHeld hs c.args.name.now) same
    (subst (λ b. IsTrue b ↔ IsHeld c.deref.result.now c.args.name.now) (sym c.is_ok.ensures.value) by_place)
