use Rattle.std.proofs.Common.{◌++◌, ap, subst, ◌∙◌}
use Rattle.lvish_calculus.specs.Program.{machine_of}
use Rattle.lvish_calculus.specs.declared.label.Label.TheVariants.{Act}
use Rattle.lvish_core.specs.Core.{CanTake}
use Rattle.lvish_board.specs.Listed.{HasNext, stretches, acts, handings, option_list}
use Rattle.lvish_board.specs.Left.{AreThose, candidates}
use Rattle.lvish_board.proofs.Handing.{own_left}
use Rattle.lvish_board.specs.Seated.{stands_of}
use Rattle.lvish_board.specs.Woken.{IsWoken, MayWake}
use Rattle.lvish_board.proofs.list.leave.Goals as goal

pub returns-clause-left : goal.returns-clause-left
returns-clause-left g c =
    let machine = λ (p : g.row.P.Denot). machine_of g.P.Lat.PartialEq.eq g.P.Lat.Event.PartialEq.eq g.P.Lat.Event.Ord.cmp g.P.Lat.Lattice.least g.P.Lat.Lattice.joined g.P.Lat.Lattice.events_of g.P.Lat.Reads.answer_of (g.P.Program.functions p) in
    let M = machine c.args.core.now.program in
    let concerned = c.keep_candidates.ensures.are ∙ ap (λ es. candidates es c.args.room.now.concerned.items c.args.left.added) c.fresh-entries.ensures in
    let tickets = stretches (option_list c.args.left.own ++ option_list c.args.left.made) in
    own_left machine g.B.BoardBrand.program c.args.core.now c.requires.program g.P.Lat.Event.Ord.cmp g.P.Lat.Reads.spot_of g.P.Lat.Reads.watched c.args.logged c.args.left.own c.args.left.made c.args.left.added c.args.room.now.concerned.items (stands_of c.args.parked.now) (stands_of c.wake.new.self) _ (record {
      woken = c.wake.new.woken.items;
      woken_are = subst (λ es. IsWoken (λ p. CanTake M c.args.core.now (Act p.task)) (λ p. MayWake g.P.Lat.Reads.spot_of g.P.Lat.Reads.watched c.args.core.now.touched es (M.request p.from)) (stands_of c.args.parked.now) (stands_of c.wake.new.self) c.wake.new.woken.items) c.fresh-entries.ensures c.wake.ensures.woken;
      by_name = c.wake.ensures.by_name;
      work = record {
        hands = c.list_hands.new.list.items;
        are = subst (λ hs. AreThose (λ h. HasNext M c.args.core.now h) hs c.list_hands.new.list.items) concerned c.list_hands.ensures;
        is = ap (λ ps. tickets ++ acts ps ++ handings c.give-2.new.list.items) c.give.ensures ∙ ap (λ hs. tickets ++ acts c.wake.new.woken.items ++ handings hs) c.give-2.ensures;
      };
    })
