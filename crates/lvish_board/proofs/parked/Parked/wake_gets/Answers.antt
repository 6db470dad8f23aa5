use Rattle.std.proofs.Common.{rules, ◌≡◌, ◌+◌, suc, inl, inr, ◌∷◌, [], ◌++◌, Some, take, sym, ap, subst, ◌∙◌, arith, take-suc, take_all}
use Rattle.lvish_calculus.specs.Program.{machine_of}
use Rattle.lvish_board.specs.Vocabulary.{Act, PutOn as Put}
use Rattle.lvish_core.specs.Core.{CanTake}
use Rattle.lvish_board.specs.Seated.{stands_of}
use Rattle.lvish_board.specs.Shelved.{WaitsAt}
use Rattle.lvish_board.specs.Woken.{MayWake}
use Rattle.lvish_board.proofs.Woken.{may_at, may_first, may_more}
use Rattle.lvish_board.proofs.Waking.{wakes_fewer, wakes_then}
use Rattle.lvish_board.proofs.parked.Parked.wake_gets.Goals as goal

-- without an entry a put wakes the gets that wait at no spot alone
pub returns-then-not-has_spots-clause-wakes : goal.returns-then-not-has_spots-clause-wakes
returns-then-not-has_spots-clause-wakes g c = wakes_fewer _ _ _ _ _ _ _ c.wake_whole.ensures.wakes (λ p i may. elim (may_at g.P.Lat.Reads.spot_of g.P.Lat.Reads.watched c.args.variable c.args.fresh.now ((g.P.Program.functions c.args.core.now.program).request p.from) may) [
  | inl at ↦ at
  | inr at ↦ absurd (c.has_spots.ensures c.if-not-has_spots.true at.0 p i (subst (λ x. WaitsAt g.P.Lat.Reads.watched c.args.variable (Some at.0) ((g.P.Program.functions x).request p.from)) c.requires.program at.1))
])

pub loop-entry-init : goal.loop-entry-init
loop-entry-init g c = record {
  wakes = wakes_fewer _ _ _ _ _ _ _ c.wake_whole.ensures.wakes (λ p i may. may_first g.P.Lat.Reads.spot_of g.P.Lat.Reads.watched c.args.variable ((g.P.Program.functions c.args.core.now.program).request p.from) may);
  once = c.wake_whole.ensures.once;
  within = c.wake_whole.ensures.within;
  capacity = c.wake_whole.ensures.capacity;
}

pub wake_at-requires-clause-current : goal.wake_at-requires-clause-current
wake_at-requires-clause-current g c = λ p i. c.requires.current p (c.loop-entry.invariant.wakes.woken.stay p i).0

pub wake_at-requires-clause-once : goal.wake_at-requires-clause-once
wake_at-requires-clause-once g c = c.loop-entry.invariant.once

pub loop-entry-preserved : goal.loop-entry-preserved
loop-entry-preserved g c =
    let next : c.loop-entry.entry-index + 1 ≡ suc c.loop-entry.entry-index = omega arith in
    let more : take (c.loop-entry.entry-index + 1) c.args.fresh.now ≡ take c.loop-entry.entry-index c.args.fresh.now ++ c.entry-item.result ∷ [] =
    ap (λ k. take k c.args.fresh.now) next ∙ take-suc c.args.fresh.now c.loop-entry.entry-index c.entry-item.result c.loop-entry-test.true ∙ ap (λ e. take c.loop-entry.entry-index c.args.fresh.now ++ e ∷ []) (sym c.entry-item.is) in
    let M = machine_of g.P.Lat.PartialEq.eq g.P.Lat.Event.PartialEq.eq g.P.Lat.Event.Ord.cmp g.P.Lat.Lattice.least g.P.Lat.Lattice.joined g.P.Lat.Lattice.events_of g.P.Lat.Reads.answer_of (g.P.Program.functions c.args.core.now.program) in
    record {
      wakes = wakes_then (λ p. CanTake M c.args.core.now (Act p.task))
          (λ p. MayWake g.P.Lat.Reads.spot_of g.P.Lat.Reads.watched (Some (Put c.args.variable)) (take (c.loop-entry.entry-index + 1) c.args.fresh.now) ((g.P.Program.functions c.args.core.now.program).request p.from))
          (λ p. MayWake g.P.Lat.Reads.spot_of g.P.Lat.Reads.watched (Some (Put c.args.variable)) (take c.loop-entry.entry-index c.args.fresh.now) ((g.P.Program.functions c.args.core.now.program).request p.from))
          (λ p. WaitsAt g.P.Lat.Reads.watched c.args.variable (Some c.spot-spot.result) ((g.P.Program.functions c.args.core.now.program).request p.from))
          (stands_of c.args.self.now) (stands_of c.loop-entry.self) (stands_of c.wake_at.new.self) c.args.woken.now.items c.loop-entry.woken.items c.wake_at.new.woken.items c.loop-entry.invariant.wakes c.wake_at.ensures.wakes (λ p i j one two may can.
          let q = (g.P.Program.functions c.args.core.now.program).request p.from in
          elim (may_more g.P.Lat.Reads.spot_of g.P.Lat.Reads.watched c.args.variable (take c.loop-entry.entry-index c.args.fresh.now) c.entry-item.result q (subst (λ es. MayWake g.P.Lat.Reads.spot_of g.P.Lat.Reads.watched (Some (Put c.args.variable)) es q) more may)) [
            | inl old ↦ one old can
            | inr at ↦ two (subst (λ w. WaitsAt g.P.Lat.Reads.watched c.args.variable (Some w) q) (sym c.spot-spot.ensures) at) can
          ]);
      once = c.wake_at.ensures.once;
      within = λ e i. c.loop-entry.invariant.within e (c.wake_at.ensures.within e i);
      capacity = c.wake_at.ensures.capacity ∙ c.loop-entry.invariant.capacity;
    }

pub returns-clause-wakes : goal.returns-clause-wakes
returns-clause-wakes g c =
    let all : take c.loop-entry.entry-index c.args.fresh.now ≡ c.args.fresh.now = take_all c.loop-entry.entry-index c.args.fresh.now (search rules) in
    rw (← all) c.loop-entry.invariant.wakes
