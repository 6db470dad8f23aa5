use Rattle.std.proofs.Common.{inl, inr, refl}
use Rattle.lvish_run.proofs.turn.take_act.Goals as goal

pub unreachable-requires : goal.unreachable-requires
unreachable-requires g c = (c.in-Stale.ensures.comes c.args.asked refl).order.1 c.requires.current

pub returns-in-Next : goal.returns-in-Next
returns-in-Next g c =
    let k = c.in-Next.ensures.comes c.args.asked refl in record { entered = k.step refl; listed = k.list }

pub returns-in-Gone : goal.returns-in-Gone
returns-in-Gone g c =
    let k = c.in-Gone.ensures.comes c.args.asked refl in record { entered = k.step refl; listed = k.list }

pub returns-in-Parked : goal.returns-in-Parked
returns-in-Parked g c =
    let k = c.in-Parked.ensures.comes c.args.asked refl in
    let blocked = rw c.is_sound.ensures.program_is at k.order.2 in record { idle = record { trace = (k.stays refl).0; core = (k.stays refl).1 }; why = inr (blocked, k.parked refl) }

pub returns-in-Over : goal.returns-in-Over
returns-in-Over g c =
    let k = c.in-Over.ensures.comes c.args.asked refl in record { idle = record { trace = (k.stays refl).0; core = (k.stays refl).1 }; why = inl (k.over refl) }
