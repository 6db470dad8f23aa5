use Rattle.std.proofs.Common.{refl, ◌∙◌}
use Rattle.std.proofs.lemmas.Option.{slice_get_read}
use Rattle.lvish_board.proofs.Knowing.{value_in}
use Rattle.lvish_board.proofs.newest.Newest.is.Goals as goal

pub returns-in-Some : goal.returns-in-Some
returns-in-Some g c = λ yes.
    let s = c.is.ensures.same yes in
    let there = rw c.deref.ensures.value at (slice_get_read c.deref.result.now _ c.args.index c.in-Some.newest.now refl c.in-Some.ensures.lookup.3.0 c.in-Some.ensures.lookup.1) in
    (s.0, rw (← c.self.view_is) (value_in c.self.inside.stamps.items c.args.index c.in-Some.newest.now there ∙ s.1), s.2)
