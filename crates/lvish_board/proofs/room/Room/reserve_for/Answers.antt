use Rattle.std.proofs.Common.{rules, ◌≡◌, ◌<◌, ℕ, List, [], Ordering, length, get_or, refl, sym, ap, subst, ◌∙◌, arith}
use Rattle.std.proofs.lemmas.Option.{slice_get_read}
use Rattle.lvish_calculus.specs.Program.{machine_of}
use Rattle.lvish_board.specs.Vocabulary.{Request, Put, Add}
use Rattle.lvish_calculus.specs.Machine.{Machine}
use Rattle.lvish_names.specs.Names.{Handler}
use Rattle.lvish_core.specs.Core.{CoreView}
use Rattle.lvish_board.specs.Left.{AreConcerned, most_added}
use Rattle.lvish_board.proofs.room.Room.reserve_for.Goals.{In-Put}
use Rattle.lvish_board.proofs.room.Room.reserve_for.Goals as goal

-- the variable of a put is there
there : (g : _) (c : In-Put g) → c.in-Put.variable < (g.P.Program.functions c.args.core.now.program).variables
there g c = (g.met.P.Program.lawful c.args.core.now.program).puts c.args.asked.now.from c.in-Put.variable c.in-Put.field-1 (search rules)

pub offset_bounds-states-variable : goal.offset_bounds-states-variable
offset_bounds-states-variable g c = omega (arith, there g (goal.at.offset_bounds-states-variable g c).In-Put, c.states.ensures.count)

pub bounds-states-variable : goal.bounds-states-variable
bounds-states-variable g c = omega (arith, there g (goal.at.bounds-states-variable g c).In-Put, c.states.ensures.count)

pub returns-in_ok-copy_names-in-Put-clause-concerned : goal.returns-in_ok-copy_names-in-Put-clause-concerned
returns-in_ok-copy_names-in-Put-clause-concerned g c =
    let M = machine_of g.P.Lat.PartialEq.eq g.P.Lat.Event.PartialEq.eq g.P.Lat.Event.Ord.cmp g.P.Lat.Lattice.least g.P.Lat.Lattice.joined g.P.Lat.Lattice.events_of g.P.Lat.Reads.answer_of (g.P.Program.functions c.args.core.now.program) in
    let asked : (g.P.Program.functions c.args.core.now.program).request c.args.asked.now.from ≡ Put c.in-Put.variable c.in-Put.field-1 = search rules in
    let known = there g (goal.at.returns-in_ok-copy_names-in-Put-clause-concerned g c).In-Put in
    let are = c.states.ensures.are in
    let within : c.in-Put.variable < length c.states.result.now = omega (arith, known, c.states.ensures.count) in
    let at = slice_get_read c.args.core.now.table.variables (length c.args.core.now.table.variables) c.in-Put.variable c.index-states-variable.result refl (subst (λ xs. c.in-Put.variable < length xs) are within) (subst (λ xs. c.index-states-variable.result ≡ get_or xs c.in-Put.variable c.index-states-variable.result) are c.index-states-variable.is) in
    subst (λ q. AreConcerned g.P.Lat.Event.Ord.cmp M c.args.core.now q c.copy_names.new.names.items (length c.log.result.now)) (sym asked)
    (c.handlers-handlers.result.now, c.handlers-handlers.ensures.are, c.handlers-handlers.ensures.by_name, c.in_ok-copy_names-in-Put.ensures.names, (c.index-states-variable.result, at, ap length c.log.ensures.log))

-- another request than a put concerns none of before
other_concerned : {P S E R A L : Type 0} (cmp : E → E → Ordering) (M : Machine S E R A L) (core : CoreView P S E L) (q : Request S R L) (handlers : List (Handler E)) (logged : ℕ) → ((v : ℕ) (d : S) → q ≡ Put v d → ⊥) → handlers ≡ []
    → AreConcerned cmp M core q handlers logged
other_concerned cmp M core (Put v d) handlers logged never e = absurd (never v d refl)
other_concerned cmp M core q handlers logged never e = e

none_added : {S R L : Type 0} (q : Request S R L) → ((p k : ℕ) → q ≡ Add p k → ⊥) → most_added q ≡ 0
none_added (Add p k) never = absurd (never p k refl)
none_added q never = refl

pub returns-in_ok-reserve-in_default : goal.returns-in_ok-reserve-in_default
returns-in_ok-reserve-in_default g c =
    let M = machine_of g.P.Lat.PartialEq.eq g.P.Lat.Event.PartialEq.eq g.P.Lat.Event.Ord.cmp g.P.Lat.Lattice.least g.P.Lat.Lattice.joined g.P.Lat.Lattice.events_of g.P.Lat.Reads.answer_of (g.P.Program.functions c.args.core.now.program) in
    let asked : (g.P.Program.functions c.args.core.now.program).request c.args.asked.now.from ≡ c.request.result.now = ap (λ p. (g.P.Program.functions p).request c.args.asked.now.from) c.requires.program ∙ sym c.request.ensures in
    let woken = c.in_ok-reserve-in_default.ensures.woken in
    let concerned = c.in_ok-reserve-in_default.ensures.concerned in
    let hands = c.in_ok-reserve-in_default.ensures.hands in
    let none = ap length concerned.0 in
    let added = ap most_added asked ∙ none_added c.request.result.now c.in_default.not-Add in
    record {
      empty = (woken.0, hands.0);
      concerned = subst (λ q. AreConcerned g.P.Lat.Event.Ord.cmp M c.args.core.now q c.reserve-in_default.new.self.concerned.items 0) (sym asked) (other_concerned g.P.Lat.Event.Ord.cmp M c.args.core.now c.request.result.now c.reserve-in_default.new.self.concerned.items 0 c.in_default.not-Put concerned.0);
      woken_room = woken.1;
      concerned_room = omega (arith, concerned.1, none, added);
      hands_room = omega (arith, hands.1, none, added);
    }
