-- Tickets, requests and a board may go to another thread where the program may be seen from one, and its
-- states, reads, local states and events may go there. Each fact is one step of a search, which would else go
-- down all links of each name.
use denote.Hole.{as_row}
use denote.Param.Send.{IsSend, IsSync, sendable, view_send}
use denote.Param.SendFields.{as_row_send, declared_send, variants_send}
use denote.RattleType.{RattleType}
use denote.Ref.{NamedLft}
use denote.Struct.Field.{row_field, u32-field, u64-field}
use Rattle.std.proofs.Crossing.{crosses}
use Rattle.std.proofs.MapsCrossing as maps
use Rattle.std.specs.contracts.alloc.Global as Global
use Rattle.std.specs.contracts.impls.GlobalAllocator.TheImpl.{ghosts}
use Rattle.std.specs.contracts.option.Option as Option
use Rattle.std.specs.contracts.vec.Vec as Vec
use Rattle.std.specs.declared.cmp.Eq as equal
use Rattle.std.specs.declared.cmp.Ord as order
use Rattle.std.specs.declared.cmp.PartialEq as same
use Rattle.std.specs.declared.cmp.PartialOrd as partial
use Rattle.std.specs.declared.hash.Hash as hash
use Rattle.lvish_lattice.specs.declared.lattice.Lattice as lattice
use Rattle.lvish_lattice.specs.declared.lattice.Reads as reads
use Rattle.lvish_names.proofs.Crossing.{name_send, handler_send}
use Rattle.lvish_names.specs.contracts.handler_name.HandlerName as HandlerName
use Rattle.lvish_names.specs.contracts.task_name.TaskName as TaskName
use Rattle.lvish_calculus.proofs.request.Request.TheSendSync as of_request
use Rattle.lvish_calculus.specs.declared.program.Program as program
use Rattle.lvish_trace.proofs.Crossing.{noted_send, over_send as outcome_send}
use Rattle.lvish_trace.specs.contracts.packed_step.PackedStep as PackedStep
use Rattle.lvish_trace.specs.contracts.outcome.Outcome as Outcome
use Rattle.lvish_history.proofs.Crossing.{history_send, stamp_send}
use Rattle.lvish_history.specs.contracts.stamp.Stamp as Stamp
use Rattle.lvish_history.specs.declared.origin.Origin as origin
use Rattle.lvish_core.proofs.Crossing.{core_send}
use Rattle.lvish_core.specs.contracts.machine.Core as Core
use Rattle.lvish_board.specs.contracts.asked.Asked as Asked
use Rattle.lvish_board.specs.contracts.asked.Asked.TheInside as inside_asked
use Rattle.lvish_board.specs.contracts.board.Board as Board
use Rattle.lvish_board.specs.contracts.board.Board.TheInside as inside_board
use Rattle.lvish_board.specs.contracts.by_index.ByIndex as ByIndex
use Rattle.lvish_board.specs.contracts.newest.Newest as Newest
use Rattle.lvish_board.specs.contracts.parked.Parked as Parked
use Rattle.lvish_board.specs.contracts.parked.Parked.TheInside as inside_parked
use Rattle.lvish_board.specs.contracts.stand.Stand as Stand
use Rattle.lvish_board.specs.contracts.room.Room as Room
use Rattle.lvish_board.specs.contracts.shelves.BySpot as BySpot
use Rattle.lvish_board.specs.contracts.shelves.ByVariable as ByVariable
use Rattle.lvish_board.specs.contracts.ticket.Ticket as Ticket
use Rattle.lvish_board.specs.contracts.ticket.Ticket.TheInside as inside_ticket
use Rattle.lvish_board.specs.declared.board_brand.BoardBrand as brand

number_send : IsSend (as_row u64-field)
number_send = search sendable depth 20

index_send : IsSend (as_row u32-field)
index_send = search sendable depth 20

trace_send : IsSend (Vec.the_row PackedStep.the_row Global.the_row ghosts)
trace_send = search (noted_send, crosses, sendable) depth 24

spots_send : (K : RattleType) → IsSend K → (g : same.Ghosts K.Denot) (h : hash.Ghosts K.Denot) → IsSend (BySpot.the_row K g h)
spots_send K k g h = search (crosses, maps.crosses, sendable) depth 30

lists_send : IsSend (as_row ByVariable.the_field)
lists_send = search (crosses, sendable) depth 30

module _ (E : RattleType) (s : IsSend E) (y : IsSync E) where
  name : IsSend (TaskName.the_row E)
  name = name_send E s y

  handler : IsSend (HandlerName.the_row E)
  handler = handler_send E s y

  over_send : IsSend (Option.the_row (Outcome.the_row E))
  over_send = outcome_send E s y

  -- the ghosts of the events, of the states, of the program and of the run's name are those of any impl
  module _ (P B S L R A W : RattleType) (sB : IsSend B) (sS : IsSend S) (sL : IsSend L) (sR : IsSend R)
      (e1 : order.Ghosts E.Denot) (e2 : equal.Ghosts E.Denot) (e3 : same.Ghosts E.Denot) (e4 : partial.Ghosts E.Denot) (e5 : hash.Ghosts E.Denot)
      (p : program.Ghosts P.Denot S.Denot L.Denot R.Denot A.Denot W.Denot E.Denot)
      (s1 : lattice.Ghosts S.Denot E.Denot) (s2 : same.Ghosts S.Denot) (s3 : reads.Ghosts S.Denot R.Denot A.Denot W.Denot E.Denot)
      (w1 : order.Ghosts W.Denot) (w2 : same.Ghosts W.Denot) (w3 : partial.Ghosts W.Denot) (w4 : hash.Ghosts W.Denot) (l1 : same.Ghosts L.Denot)
      (n : brand.Ghosts B.Denot P.Denot S.Denot L.Denot R.Denot A.Denot W.Denot E.Denot) (o : origin.Ghosts B.Denot) where
    stand_send : IsSend (Stand.the_row P S L R A W E p s3 s1 s2 e1 e3 e4 e5 w1 w2 w3 w4 l1)
    stand_send = search (name, sendable) depth 24

    pub ticket_send : IsSend (Ticket.the_row P B S L R A W E p s3 s1 s2 e1 e3 e4 e5 w1 w2 w3 w4 l1 n o)
    ticket_send =
        let stamp = as_row_send (Stamp.the_field (Stand.the_row P S L R A W E p s3 s1 s2 e1 e3 e4 e5 w1 w2 w3 w4 l1) B o) (stamp_send (Stand.the_row P S L R A W E p s3 s1 s2 e1 e3 e4 e5 w1 w2 w3 w4 l1) B sB o) in
        view_send (inside_ticket.the_row P B S L R A W E p s3 s1 s2 e1 e3 e4 e5 w1 w2 w3 w4 l1 n o) _ _ _ _
        (declared_send (inside_ticket.the_type P B S L R A W E p s3 s1 s2 e1 e3 e4 e5 w1 w2 w3 w4 l1 n o)
        (as_row_send (Stand.the_field P S L R A W E p s3 s1 s2 e1 e3 e4 e5 w1 w2 w3 w4 l1) stand_send, (stamp, (index_send, tt))))

    at_send : IsSend (Option.the_row L)
    at_send = variants_send (Option.enum L) (tt, ((as_row_send (row_field L) sL, tt), tt))

    pub asked_send : IsSend (Asked.the_row P B S L R A W E p s3 s1 s2 e1 e3 e4 e5 w1 w2 w3 w4 l1 n o)
    asked_send =
        view_send (inside_asked.the_row P B S L R A W E p s3 s1 s2 e1 e3 e4 e5 w1 w2 w3 w4 l1 n o) _ _ _ _
        (declared_send (inside_asked.the_type P B S L R A W E p s3 s1 s2 e1 e3 e4 e5 w1 w2 w3 w4 l1 n o)
        (as_row_send (Ticket.the_field P B S L R A W E p s3 s1 s2 e1 e3 e4 e5 w1 w2 w3 w4 l1 n o) ticket_send, (of_request.the_send S R L sS sR sL, (at_send, tt))))

    room_send : IsSend (Room.the_row P B S L R A W E p s3 s1 s2 e1 e3 e4 e5 w1 w2 w3 w4 l1 n o)
    room_send = search (asked_send, handler, crosses, sendable) depth 24

    by_index_send : IsSend (ByIndex.the_row P B S L R A W E p s3 s1 s2 e1 e3 e4 e5 w1 w2 w3 w4 l1 n o)
    by_index_send = search (asked_send, crosses, sendable) depth 30

    module _ (sW : IsSend W) where
      parked_send : IsSend (Parked.the_row P B S L R A W E p s3 s1 s2 e1 e3 e4 e5 w1 w2 w3 w4 l1 n o)
      parked_send =
          view_send (inside_parked.the_row P B S L R A W E p s3 s1 s2 e1 e3 e4 e5 w1 w2 w3 w4 l1 n o) _ _ _ _
          (declared_send (inside_parked.the_type P B S L R A W E p s3 s1 s2 e1 e3 e4 e5 w1 w2 w3 w4 l1 n o)
          (as_row_send (ByIndex.the_field P B S L R A W E p s3 s1 s2 e1 e3 e4 e5 w1 w2 w3 w4 l1 n o) by_index_send, (lists_send, (spots_send W sW _ _, (lists_send, tt)))))

      newest_send : IsSend (Newest.the_row P B S L R A W E p s3 s1 s2 e1 e3 e4 e5 w1 w2 w3 w4 l1 n o)
      newest_send = search (history_send, stamp_send, crosses, sendable) depth 30

      pub board_send : (a : NamedLft) → IsSync P → IsSend (Board.the_row a P B S L R A W E p s3 s1 s2 e1 e2 e3 e4 e5 w1 w2 w3 w4 l1 n o)
      board_send a yP =
          let core = as_row_send (Core.the_field a P S L R A W E p s3 s1 s2 e1 e2 e3 e4 e5 w1 w2 w3 w4 l1) (core_send E s y S sS e1 e2 e3 e4 e5 s1 s2 P L R A W p s3 w1 w2 w3 w4 l1 a yP sL) in
          let newest = as_row_send (Newest.the_field P B S L R A W E p s3 s1 s2 e1 e3 e4 e5 w1 w2 w3 w4 l1 n o) newest_send in
          let parked = as_row_send (Parked.the_field P B S L R A W E p s3 s1 s2 e1 e3 e4 e5 w1 w2 w3 w4 l1 n o) parked_send in
          view_send (inside_board.the_row a P B S L R A W E p s3 s1 s2 e1 e2 e3 e4 e5 w1 w2 w3 w4 l1 n o) _ _ _ _
          (declared_send (inside_board.the_type a P B S L R A W E p s3 s1 s2 e1 e2 e3 e4 e5 w1 w2 w3 w4 l1 n o)
          (core, (newest, (trace_send, (number_send, (over_send, (parked, (room_send, tt))))))))
