use Rattle.std.proofs.Common.{refl, true≢false}
use Rattle.lvish_board.proofs.Handing.{comes_once}
use Rattle.lvish_run.proofs.Firsts.{handler_there}
use Rattle.lvish_run.proofs.Turns.{handing_made}
use Rattle.lvish_run.proofs.turn.take_hand.Goals as goal

pub unreachable-requires : goal.unreachable-requires
unreachable-requires g c = true≢false (c.in-Gone.ensures.comes c.args.handler refl).gone

pub unreachable-requires-in-Parked : goal.unreachable-requires-in-Parked
unreachable-requires-in-Parked g c = (c.in-Parked.ensures.comes c.args.handler refl).order.2 c.requires.next

pub unreachable-requires-in-Stale : goal.unreachable-requires-in-Stale
unreachable-requires-in-Stale g c =
    (c.in-Stale.ensures.comes c.args.handler refl).order.1 (handler_there _ g.B.BoardBrand.program g.B.BoardBrand.budget c.args.board.now c.is_sound.ensures c.requires.running (c.hands_one_event.ensures.open g.B.BoardBrand.program) c.args.handler c.requires.next)

pub returns-in-Next : goal.returns-in-Next
returns-in-Next g c = λ e next.
    let made = (c.in-Next.ensures.comes c.args.handler refl).step refl in
    let same = comes_once _ (c.hands_one_event.ensures.one g.B.BoardBrand.program) (c.hands_one_event.ensures.open g.B.BoardBrand.program) g.B.BoardBrand.program g.B.BoardBrand.budget c.args.board.now c.is_sound.ensures c.requires.running c.args.handler made.0 e made.1 next in
    handing_made same made.2 made.3

pub returns-in-Over : goal.returns-in-Over
returns-in-Over g c =
    let k = c.in-Over.ensures.comes c.args.handler refl in (record { trace = (k.stays refl).0; core = (k.stays refl).1 }, k.over refl)
