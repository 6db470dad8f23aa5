-- Where a handler stands among those of its variable, over any table.
use Rattle.std.proofs.Common.{◌≡◌, ◌<◌, ℕ, List, Some, None, Contains, get_or, length, sym, ap, subst, ◌∙◌, inl, inr, slice_get, option_map, option_and_then, arith}
use Rattle.std.proofs.lemmas.List.Elements.{Contains-get_or}
use Rattle.std.proofs.lemmas.Option.{get_or_from_slice_get, same_Some, slice_get_cases, slice_get_within}
use Rattle.lvish_calculus.specs.Machine.{Machine, IsLawful}
use Rattle.lvish_calculus.specs.Calculus.{Post}
use Rattle.lvish_names.specs.Names.{Name, Handler, handler_of}
use Rattle.lvish_variable.specs.Variable.{VariableView as Variable}
use Rattle.lvish_handlers.specs.Handlers.{HandlersView as Handlers, next_of}
use Rattle.lvish_handlers.specs.Places.{IsAt}
use Rattle.lvish_picture.specs.Laws.{IsHandlerSeated, PostsAreHeld}
use Rattle.lvish_picture.specs.Picture.{Table}
use Rattle.lvish_core.specs.Vocabulary.{Entry, Held, HandlerPlace}
use Rattle.lvish_core.specs.Core.{CoreView, IsNext, state}
use Rattle.lvish_core.specs.Kept.{IsKept}
use Rattle.lvish_core.specs.Places.{IsPlaceOf, place_at}
use Rattle.lvish_core.specs.Seats.{IsPosted, IsSeat, StandsAt}
use Rattle.lvish_core.specs.declared.handler_place.HandlerSeat.{HandlerSeat}
use Rattle.lvish_core.proofs.Seated.{IsIndexed, indexed, next_there}

-- the place of a handler on the variable
abbrev pub place_on : {E : Type 0} → ℕ → Held E → HandlerPlace
place_on v h = record { variable = v; pool = h.pool; procedure = h.procedure }

-- what a call that asks for the handler's place among the others is told
pub posted : {E : Type 0} {hss : List (Handlers E)} {name : Handler E} {seat : HandlerSeat} → IsSeat hss name seat → (hs : Handlers E) → slice_get hss seat.variable ≡ Some hs → IsAt hs.held name seat.at
posted {E} {hss} {name} {seat} s hs is =
    let same : s.stands.beside ≡ hs = same_Some _ _ (sym s.stands.beside_is ∙ is) in
    let there : slice_get hs.held seat.at ≡ Some s.held = ap (λ (b : Handlers E). slice_get b.held seat.at) (sym same) ∙ s.stands.is in
    record { inside = slice_get_within hs.held seat.at s.held there; handler = s.held; is = there; named = s.named }

-- a handler that stands in the table is seated beside its variable
pub seated : {S E L : Type 0} (c : Table S E L) → length c.handlers ≡ length c.variables → (held : Held E) (seat : HandlerSeat) → (s : StandsAt c.handlers held seat) → (x : Variable S E) × IsHandlerSeated c seat.variable x s.beside held
seated c long held seat s =
    let inside : seat.variable < length c.handlers = slice_get_within c.handlers seat.variable s.beside s.beside_is in
    let there : Contains s.beside.held held = subst (λ h. Contains s.beside.held h) (get_or_from_slice_get s.beside.held seat.at held held s.is) (Contains-get_or s.beside.held seat.at held (slice_get_within s.beside.held seat.at held s.is)) in
    elim (slice_get_cases c.variables seat.variable).1 [
      | inl (x, _, is, _) ↦ (x, record { at = is; beside = s.beside_is; held = there })
      | inr (le, _) ↦ absurd (omega (arith, le, inside, long))
    ]

-- the handler that stands there has its seat
pub seat_of_last : {E : Type 0} {hss : List (Handlers E)} {held : Held E} {seat : HandlerSeat} {name : Handler E} → StandsAt hss held seat → held.name ≡ name → IsSeat hss name seat
seat_of_last {held = held} s named = record { held = held; stands = s; named = named }

-- a call that reads there reads the handler
pub read_here : {E : Type 0} {hss : List (Handlers E)} {held : Held E} {seat : HandlerSeat} → (s : StandsAt hss held seat) → held ≡ get_or s.beside.held seat.at held
read_here {held = held} {seat = seat} s = sym (get_or_from_slice_get s.beside.held seat.at held held s.is)

-- the seat of the handler that was found by its name
pub seat_from : {E : Type 0} {hss : List (Handlers E)} {name : Handler E} (v at : ℕ) (hs : Handlers E) → slice_get hss v ≡ Some hs → IsAt hs.held name at → IsSeat hss name (record { variable = v; at = at })
seat_from v at hs is there = record { held = there.handler; stands = record { beside = hs; beside_is = is; is = there.is }; named = there.named }

-- a task that runs in the pool of a handler that stands in the core has its place
pub pool_place : {P S E R A L : Type 0} {M : Machine S E R A L} {c : CoreView P S E L} (t : Name E) (held : Held E) (seat : HandlerSeat) → IsPosted M c held seat → handler_of t ≡ Some held.name → IsPlaceOf M (state M c) t (Some (place_on seat.variable held))
pool_place {M = M} {c = c} t held seat s runs = record {
  pool = sym (ap (option_and_then (λ h. option_map (λ (q : Post). q.pool) ((state M c).handlers h))) runs ∙ ap (option_map (λ (q : Post). q.pool)) s.post);
  own = λ p is. subst (λ (q : HandlerPlace). M.pool_variable q.pool ≡ Some q.variable) (same_Some _ _ is) s.own;
}

module _ {P S E R A L : Type 0} (M : Machine S E R A L) (n running : ℕ) (places : List (Handler E × HandlerPlace)) (c : CoreView P S E L) (k : IsKept M n running places c) where
  -- a handler stands on a variable that the program has
  pub seat_within : {held : Held E} {seat : HandlerSeat} → StandsAt c.table.handlers held seat → seat.variable < n
  seat_within {held} {seat} s =
      let inside = slice_get_within c.table.handlers seat.variable s.beside s.beside_is in
      let long = k.standing.pictured.table.beside in
      let all = k.there in
      omega (arith, inside, long, all)

  module _ (posts : PostsAreHeld M) where
    -- it has its pool and its procedure
    pub posted_at : (held : Held E) (seat : HandlerSeat) → StandsAt c.table.handlers held seat → IsPosted M c held seat
    posted_at held seat s =
        let w = seated c.table k.standing.pictured.table.beside held seat s in
        let post = posts k.standing.run c.table seat.variable w.0 s.beside held k.standing.pictured w.1 in
        record { stands = s; post = post.0; own = post.1 }

    -- nothing comes next at a place where the handler isn't found
    pub none_there : IsLawful M → (name : Handler E) (p : HandlerPlace) → place_at M.event_same places name ≡ Some p → (hs : Handlers E) → slice_get c.table.handlers p.variable ≡ Some hs
        → ((log : List (Entry E)) → next_of M.event_same log hs.held name ≡ None) → (e : E) → IsNext M.event_same c.table name e → ⊥
    none_there ok name p at hs beside none =
        let inside : p.variable < length c.table.handlers = slice_get_within c.table.handlers p.variable hs beside in
        elim (slice_get_cases c.table.variables p.variable).1 [
          | inl (x, _, is, _) ↦ next_there M n running places c k ok posts name p at x is hs beside None (sym (none x.log))
          | inr (le, _) ↦ absurd (omega (arith, le, inside, k.standing.pictured.table.beside))
        ]

    -- its place is there under its name
    pub placed_at : IsLawful M → (held : Held E) (seat : HandlerSeat) → StandsAt c.table.handlers held seat → place_at M.event_same places held.name ≡ Some (place_on seat.variable held)
    placed_at ok held seat s =
        let w = seated c.table k.standing.pictured.table.beside held seat s in
        let i : IsIndexed M n running places c k ok posts seat.variable held = indexed M n running places c k ok posts seat.variable w.0 s.beside held w.1 in
        i.at ∙ (λ j. Some (record { variable = i.variable j; pool = i.pool j; procedure = i.procedure j }))

    -- the same of the handler that is read at the seat of a name
    pub placed_under : IsLawful M → (name : Handler E) (seat : HandlerSeat) → IsSeat c.table.handlers name seat → (hs : Handlers E) → slice_get c.table.handlers seat.variable ≡ Some hs → (h : Held E) → h ≡ get_or hs.held seat.at h → place_at M.event_same places name ≡ Some (place_on seat.variable h)
    placed_under ok name seat s hs beside h read =
        let at = posted s hs beside in
        let same : at.handler ≡ h = sym (get_or_from_slice_get hs.held seat.at at.handler h at.is) ∙ sym read in
        let is : slice_get hs.held seat.at ≡ Some h = at.is ∙ ap Some same in
        let named : h.name ≡ name = ap (λ (x : Held E). x.name) (sym same) ∙ at.named in
        ap (λ g. place_at M.event_same places g) (sym named) ∙ placed_at ok h seat (record { beside = hs; beside_is = beside; is = is })
