use denote.Param.Send.{param_send}
use mir.Syntax.{named}
use Rattle.lvish_run.proofs.Crossing.{row_of, seated_send}
use Rattle.lvish_run.proofs.shift.work_together.Goals as goal

-- a worker at its seat may go to another thread
pub run_workers-requires-send-S : goal.run_workers-requires-send-S
run_workers-requires-send-S g c κs ls =
    let b = c.type_bounds in
    let P = row_of b.send-P in
    let B = row_of b.send-B in
    let S = row_of b.send-P-Lat in
    let L = row_of b.send-P-Local in
    let R = row_of b.send-P-Lat-Read in
    let A = row_of b.send-P-Lat-Answer in
    let W = row_of b.send-P-Lat-Spot in
    let E = row_of b.send-P-Lat-Event in
    let all = seated_send E b.send-P-Lat-Event b.sync-P-Lat-Event P B S L R A W b.send-B b.send-P-Lat b.send-P-Local b.send-P-Lat-Read
    g.P.Lat.Event.Ord g.P.Lat.Event.Eq g.P.Lat.Event.PartialEq g.P.Lat.Event.PartialOrd g.P.Lat.Event.Hash g.P.Program
    g.P.Lat.Lattice g.P.Lat.PartialEq g.P.Lat.Reads g.P.Lat.Spot.Ord g.P.Lat.Spot.PartialEq g.P.Lat.Spot.PartialOrd g.P.Lat.Spot.Hash
    g.P.Local.PartialEq g.B.BoardBrand g.B.Origin b.send-P-Lat-Spot g.B.Staff _ _ g.G.Gate b.sync-P b.sync-R b.sync-G in
    let over = param_send 0 _ (all (record { mir = named 3; lft = κs.1.1.1.0 }) (record { mir = named 4; lft = κs.1.1.1.1.0 }) (record { mir = named 5; lft = κs.1.1.1.1.1.0 }) (record { mir = named 6; lft = κs.1.1.1.1.1.1.0 })) in
    record { owned = over.owned; leaving = over.leaving }

pub take_seats-requires-clause-ours : goal.take_seats-requires-clause-ours
take_seats-requires-clause-ours g c = c.parted-mine.ensures.rest

pub invariant_of-run_workers : goal.invariant_of-run_workers
invariant_of-run_workers g c = record { program = c.requires.program; ours = c.parted-mine.ensures.first }
