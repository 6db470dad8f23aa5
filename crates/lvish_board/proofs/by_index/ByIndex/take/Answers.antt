use Rattle.std.proofs.Common.{◌≡◌, ◌+◌, ◌-◌, ◌<◌, ℕ, length, get_or, Some, refl, sym, ap, ◌∙◌, arith}
use Rattle.std.specs.Prelude.{slice_get}
use Rattle.std.specs.List.{swap_remove}
use Rattle.std.proofs.lemmas.Bool.{ltb-false}
use Rattle.std.proofs.lemmas.Option.{slice_get_read, slice_get_past, slice_get_within, slice_get-get_or}
use Rattle.lvish_board.specs.Stand.{TaskStand}
use Rattle.lvish_board.proofs.Seating.{moved_seated, ended_seated, stood_last}
use Rattle.lvish_board.proofs.by_index.ByIndex.take.Goals.{After-swap_remove-index, In-Some}
use Rattle.lvish_board.proofs.by_index.ByIndex.take.Goals as goal

pub swap_remove-index-requires : goal.swap_remove-index-requires
swap_remove-index-requires g c = let lt = rw (← c.self.view_is) at c.requires in omega (arith, lt, c.self.inside.asked.ok.0)

count : (g : _) (c : After-swap_remove-index g) → length c.swap_remove-index.new.self.items + 1 ≡ length c.self.inside.asked.items
count g c = omega (arith, c.swap_remove-index.ensures.len, c.self.inside.asked.ok.0, c.swap_remove-index.new.self.ok.0)

moved : (g : _) (c : After-swap_remove-index g) (d : ℕ × TaskStand g.row.P-Lat-Event.Denot g.row.P-Local.Denot) → c.args.seat + 1 < length c.self.inside.asked.items → get_or c.swap_remove-index.new.self.items c.args.seat d ≡ get_or c.self.inside.asked.items (length c.self.inside.asked.items - 1) d
moved g c d lt = c.swap_remove-index.ensures.by_index.0 d (omega (arith, lt, c.self.inside.asked.ok.0)) ∙ ap (λ n. get_or c.self.inside.asked.items (n - 1) d) c.self.inside.asked.ok.0

stay : (g : _) (c : After-swap_remove-index g) (k : ℕ) (d : ℕ × TaskStand g.row.P-Lat-Event.Denot g.row.P-Local.Denot) → (k ≡ c.args.seat → ⊥) → k + 1 < length c.self.inside.asked.items → get_or c.swap_remove-index.new.self.items k d ≡ get_or c.self.inside.asked.items k d
stay g c k d other lt = c.swap_remove-index.ensures.by_index.1 k d other (omega (arith, lt, c.self.inside.asked.ok.0))

-- what stands where the task has stood
stands : (g : _) (c : In-Some g) → slice_get c.swap_remove-index.new.self.items c.args.seat ≡ Some c.in-Some.moved.now
stands g c = rw c.deref.ensures.value at (slice_get_read c.deref.result.now _ c.args.seat c.in-Some.moved.now refl c.in-Some.ensures.lookup.3.0 c.in-Some.ensures.lookup.1)

pub index_mut-requires : goal.index_mut-requires
index_mut-requires g c =
    let at = goal.at.index_mut-requires g c in
    let before = at.After-swap_remove-index in
    let last = stood_last c.self.inside.seats.items c.self.inside.asked.items c.self.invariant c.args.seat c.swap_remove-index.new.self.items (count g before) (moved g before) (stay g before) c.in-Some.moved.now (stands g at.In-Some) in
    let within = slice_get_within c.self.inside.seats.items c.in-Some.moved.now.0 _ (c.self.invariant _ c.in-Some.moved.now last) in
    omega (arith, within, c.self.inside.seats.ok.0)

pub invariant_of-self : goal.invariant_of-self
invariant_of-self g c =
    let at = goal.at.invariant_of-self g c in
    let before = at.After-swap_remove-index in
    moved_seated c.self.inside.seats.items c.self.inside.asked.items c.self.invariant c.args.seat c.swap_remove-index.new.self.items (count g before) (moved g before) (stay g before) c.in-Some.moved.now (stands g at.In-Some)

pub invariant_of-self-in_default : goal.invariant_of-self-in_default
invariant_of-self-in_default g c =
    let before = (goal.at.invariant_of-self-in_default g c).After-swap_remove-index in
    let none = rw c.deref.ensures.value at (slice_get_past c.deref.result.now c.args.seat (ltb-false c.args.seat _ (sym c.in_default.ensures.lookup.0))) in
    ended_seated c.self.inside.seats.items c.self.inside.asked.items c.self.invariant c.args.seat c.swap_remove-index.new.self.items (count g before) (moved g before) (stay g before) none

-- what was taken out has stood there, and what is left
taken : (g : _) (c : After-swap_remove-index g) → (i : ℕ) × (slice_get c.args.self.now c.args.seat ≡ Some (i, c.swap_remove-index.result.1)) × (c.swap_remove-index.new.self.items ≡ swap_remove c.args.self.now c.args.seat (i, c.swap_remove-index.result.1))
taken g c =
    let lt = rw (← c.self.view_is) at c.requires in
    let stood = slice_get-get_or c.self.inside.asked.items c.args.seat c.swap_remove-index.result lt ∙ ap Some (sym c.swap_remove-index.ensures.value) in
    (c.swap_remove-index.result.0, rw (← c.self.view_is) stood, rw (← c.self.view_is) c.swap_remove-index.ensures.items)

pub returns-in-Some : goal.returns-in-Some
returns-in-Some g c = taken g (goal.at.returns-in-Some g c).After-swap_remove-index

pub returns-in_default : goal.returns-in_default
returns-in_default g c = taken g (goal.at.returns-in_default g c).After-swap_remove-index
