use Rattle.std.proofs.Common.{◌≡◌, ◌≤◌, ◌<◌, All, None, length, refl, sym, subst, rules}
use Rattle.std.proofs.lemmas.Bool.{false≢true}
use Rattle.lvish_handlers.specs.Handlers.{HandlersView, next_of}
use Rattle.lvish_handlers.specs.Places.{IsAt}
use Rattle.lvish_handlers.proofs.Changes.{next_none, next_there, handed_at, raised_at, advanced, counted_set, within_set, total_below, fits_total}
use Rattle.lvish_handlers.proofs.handlers.Handlers.advance_at.Goals as goal

pub returns-then-handed-log-clause-nothing : goal.returns-then-handed-log-clause-nothing
returns-then-handed-log-clause-nothing g c name there =
    let place = subst (λ (v : HandlersView _). IsAt v.held name c.args.at) (sym c.self.view_is) there in
    let past = rw (← c.index-as_slice-at.is, c.log.ensures.log) at c.if-handed-log.true in
    let next = next_none g.L.Event.Ord.cmp g.met.L.Event.Plain.identical g.met.L.Event.Ord.matches_eq g.met.L.Event.Ord.total g.met.L.Event.Eq.laws.refl c.args.variable.now.log c.self.inside.held.items name c.args.at c.self.invariant.by_name place c.index-as_slice-at.result (rw c.as_slice.ensures.value at c.index-as_slice-at.is) past in
    (λ _. subst (λ (v : HandlersView _). next_of g.L.Event.PartialEq.eq c.args.variable.now.log v.held name ≡ None) c.self.view_is next, λ _. refl)

-- the total is at most what all handlers can be handed, and no vector is longer than a word counts
pub overflow_add-self : goal.overflow_add-self
overflow_add-self g c =
    let held = c.self.inside.held.items in
    let log = c.args.variable.now.log in
    let name = c.requires.there.0 in
    let place = subst (λ (v : HandlersView _). IsAt v.held name c.args.at) (sym c.self.view_is) c.requires.there.1 in
    let left = handed_at held name c.args.at (length log) place c.index-as_slice-at.result (rw c.as_slice.ensures.value at c.index-as_slice-at.is) (rw (← c.index-as_slice-at.is, c.log.ensures.log) at c.if-handed-log.false) in
    let within = subst (λ (v : HandlersView _). All (λ h. h.handed ≤ length log) v.held) (sym c.self.view_is) c.requires.within in
    let total = total_below log held name c.args.at c.self.inside.total place left within c.self.invariant in
    let short : length held < 18446744073709551616 = subst (λ hs. length hs < 18446744073709551616) c.as_slice.ensures.value c.as_slice.type_inv.0 in
    let few : length log < 18446744073709551616 = subst (λ es. length es < 18446744073709551616) c.log.ensures.log c.log.type_inv.0 in
    let fits = fits_total (length held) (length log) _ short few total in search rules

pub invariant_of-self : goal.invariant_of-self
invariant_of-self g c =
    let held = c.self.inside.held.items in
    let name = c.requires.there.0 in
    let place = subst (λ (v : HandlersView _). IsAt v.held name c.args.at) (sym c.self.view_is) c.requires.there.1 in
    rw (← c.index-as_slice-at.is) (counted_set held name c.args.at c.self.inside.total place _ (raised_at held name c.args.at place c.index-as_slice-at.result c.index_mut.result.now (rw c.as_slice.ensures.value at c.index-as_slice-at.is) c.index_mut.ensures.value) c.self.invariant)

pub returns-clause-ok : goal.returns-clause-ok
returns-clause-ok g c name there =
    let held = c.self.inside.held.items in
    let log = c.args.variable.now.log in
    let place = subst (λ (v : HandlersView _). IsAt v.held name c.args.at) (sym c.self.view_is) there in
    let raised = raised_at held name c.args.at place c.index-as_slice-at.result c.index_mut.result.now (rw c.as_slice.ensures.value at c.index-as_slice-at.is) c.index_mut.ensures.value in
    let left = handed_at held name c.args.at (length log) place c.index-as_slice-at.result (rw c.as_slice.ensures.value at c.index-as_slice-at.is) (rw (← c.index-as_slice-at.is, c.log.ensures.log) at c.if-handed-log.false) in
    rw (← c.index-as_slice-at.is) (advanced g.L.Event.Ord.cmp g.met.L.Event.Plain.identical g.met.L.Event.Ord.matches_eq g.met.L.Event.Ord.total g.met.L.Event.Eq.laws.refl log held name c.args.at c.self.invariant.by_name place c.self.inside.running.items _ raised left _ c.self.view_is)

pub returns-clause-within : goal.returns-clause-within
returns-clause-within g c =
    let held = c.self.inside.held.items in
    let log = c.args.variable.now.log in
    let name = c.requires.there.0 in
    let place = subst (λ (v : HandlersView _). IsAt v.held name c.args.at) (sym c.self.view_is) c.requires.there.1 in
    let raised = raised_at held name c.args.at place c.index-as_slice-at.result c.index_mut.result.now (rw c.as_slice.ensures.value at c.index-as_slice-at.is) c.index_mut.ensures.value in
    let left = handed_at held name c.args.at (length log) place c.index-as_slice-at.result (rw c.as_slice.ensures.value at c.index-as_slice-at.is) (rw (← c.index-as_slice-at.is, c.log.ensures.log) at c.if-handed-log.false) in
    rw (← c.index-as_slice-at.is) (within_set log held name c.args.at place _ raised left (subst (λ (v : HandlersView _). All (λ h. h.handed ≤ length log) v.held) (sym c.self.view_is) c.requires.within))

pub returns-clause-nothing : goal.returns-clause-nothing
returns-clause-nothing g c name there =
    let held = c.self.inside.held.items in
    let log = c.args.variable.now.log in
    let place = subst (λ (v : HandlersView _). IsAt v.held name c.args.at) (sym c.self.view_is) there in
    let left = handed_at held name c.args.at (length log) place c.index-as_slice-at.result (rw c.as_slice.ensures.value at c.index-as_slice-at.is) (rw (← c.index-as_slice-at.is, c.log.ensures.log) at c.if-handed-log.false) in
    let never = next_there g.L.Event.Ord.cmp g.met.L.Event.Plain.identical g.met.L.Event.Ord.matches_eq g.met.L.Event.Ord.total g.met.L.Event.Eq.laws.refl log held name c.args.at c.self.invariant.by_name place left in
    (λ e. absurd (false≢true e), λ q. absurd (never (subst (λ (v : HandlersView _). next_of g.L.Event.PartialEq.eq log v.held name ≡ None) (sym c.self.view_is) q)))
