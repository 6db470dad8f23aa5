-- Work and a program's board may go to another thread, and a crew's hall may be seen from one, where the program may be
-- seen from one, and its states, reads, local states and events may go there.
use denote.Hole.{as_row}
use denote.Param.Send.{IsSend, IsSync, sendable, shr_send, view_send}
use denote.Param.SendFields.{as_row_send, as_row_sync, declared_send, declared_sync, variants_send}
use denote.RattleType.{RattleType}
use denote.Ref.{NamedLft, ShrRef}
use denote.Struct.Field.{row_field}
use Rattle.std.proofs.Crossing.{Vec-send, crosses}
use Rattle.std.specs.contracts.alloc.Global as Global
use Rattle.std.specs.contracts.impls.GlobalAllocator.TheImpl.{ghosts}
use Rattle.std.specs.contracts.sync.Condvar as Condvar
use Rattle.std.specs.contracts.sync.Mutex as Mutex
use Rattle.std.specs.contracts.sync.atomic.AtomicBool as AtomicBool
use Rattle.std.specs.contracts.sync.atomic.AtomicUsize as AtomicUsize
use Rattle.std.specs.contracts.vec.Vec as Vec
use Rattle.std.specs.declared.cmp.Eq as equal
use Rattle.std.specs.declared.cmp.Ord as order
use Rattle.std.specs.declared.cmp.PartialEq as same
use Rattle.std.specs.declared.cmp.PartialOrd as partial
use Rattle.std.specs.declared.hash.Hash as hash
use Rattle.crossbeam_utils.proofs.cache_padded.CachePadded.TheSendSync as of_padded
use Rattle.lvish_lattice.specs.declared.lattice.Lattice as lattice
use Rattle.lvish_lattice.specs.declared.lattice.Reads as reads
use Rattle.lvish_names.proofs.Crossing.{handler_send}
use Rattle.lvish_names.specs.contracts.handler_name.HandlerName as HandlerName
use Rattle.lvish_calculus.specs.declared.program.Program as program
use Rattle.lvish_history.specs.declared.origin.Origin as origin
use Rattle.lvish_board.proofs.Crossing.{ticket_send, asked_send, board_send}
use Rattle.lvish_board.specs.contracts.asked.Asked as Asked
use Rattle.lvish_board.specs.contracts.board.Board as Board
use Rattle.lvish_board.specs.contracts.ticket.Ticket as Ticket
use Rattle.lvish_board.specs.contracts.work.Work as Work
use Rattle.lvish_board.specs.declared.board_brand.BoardBrand as brand
use Rattle.lvish_deal.proofs.seat.Seat.TheSendSync as of_seat
use Rattle.lvish_run.proofs.setting.Setting.TheSendSync as of_setting
use Rattle.lvish_run.proofs.pace.Pace.TheSendSync as of_pace
use Rattle.lvish_run.specs.contracts.hall.Hall as Hall
use Rattle.lvish_run.specs.contracts.hall.Sleepers as Sleepers
use Rattle.lvish_run.specs.contracts.setting.Setting as Setting
use Rattle.lvish_run.specs.contracts.queue.Queue as Queue
use Rattle.lvish_run.specs.contracts.shift.Seated as Seated
use Rattle.lvish_run.specs.contracts.staffed.Staffed as Staffed
use Rattle.lvish_run.specs.contracts.staffed.Staffed.TheInside as inside_staffed
use Rattle.lvish_run.specs.declared.gate.Gate as gate
use Rattle.lvish_run.specs.declared.naming.Staff as staff

-- the type that may go to another thread
abbrev pub row_of : {T : RattleType} → IsSend T → RattleType
row_of {T} s = T

-- a lock may be seen from another thread where what it guards may go there
mutex_sync : (T : RattleType) → IsSend T → IsSync (Mutex.the_row T)
mutex_sync T s = search (s, crosses) depth 6

flag_sync : IsSync (as_row AtomicBool.the_field)
flag_sync = search (crosses, sendable) depth 20

count_sync : IsSync (as_row AtomicUsize.the_field)
count_sync = search (crosses, sendable) depth 20

sleepers_sync : IsSync (as_row (Mutex.the_field Sleepers.the_row))
sleepers_sync = search (crosses, sendable) depth 24

bell_sync : IsSync (as_row Condvar.the_field)
bell_sync = search (crosses, sendable) depth 24

-- the ghosts of the events, of the states, of the program and of the run's name are those of any impl
module _ (E : RattleType) (sE : IsSend E) (yE : IsSync E) (P B S L R A W : RattleType) (sB : IsSend B) (sS : IsSend S) (sL : IsSend L) (sR : IsSend R)
    (e1 : order.Ghosts E.Denot) (e2 : equal.Ghosts E.Denot) (e3 : same.Ghosts E.Denot) (e4 : partial.Ghosts E.Denot) (e5 : hash.Ghosts E.Denot)
    (p : program.Ghosts P.Denot S.Denot L.Denot R.Denot A.Denot W.Denot E.Denot)
    (s1 : lattice.Ghosts S.Denot E.Denot) (s2 : same.Ghosts S.Denot) (s3 : reads.Ghosts S.Denot R.Denot A.Denot W.Denot E.Denot)
    (w1 : order.Ghosts W.Denot) (w2 : same.Ghosts W.Denot) (w3 : partial.Ghosts W.Denot) (w4 : hash.Ghosts W.Denot) (l1 : same.Ghosts L.Denot)
    (n : brand.Ghosts B.Denot P.Denot S.Denot L.Denot R.Denot A.Denot W.Denot E.Denot) (o : origin.Ghosts B.Denot) where
  ticket : IsSend (Ticket.the_row P B S L R A W E p s3 s1 s2 e1 e3 e4 e5 w1 w2 w3 w4 l1 n o)
  ticket = ticket_send E sE yE P B S L R A W sB sS sL sR e1 e2 e3 e4 e5 p s1 s2 s3 w1 w2 w3 w4 l1 n o

  asked : IsSend (Asked.the_row P B S L R A W E p s3 s1 s2 e1 e3 e4 e5 w1 w2 w3 w4 l1 n o)
  asked = asked_send E sE yE P B S L R A W sB sS sL sR e1 e2 e3 e4 e5 p s1 s2 s3 w1 w2 w3 w4 l1 n o

  pub work_send : IsSend (Work.the_row P B S L R A W E p s3 s1 s2 e1 e3 e4 e5 w1 w2 w3 w4 l1 n o)
  work_send =
      variants_send (Work.enum P B S L R A W E p s3 s1 s2 e1 e3 e4 e5 w1 w2 w3 w4 l1 n o) ((as_row_send (Ticket.the_field P B S L R A W E p s3 s1 s2 e1 e3 e4 e5 w1 w2 w3 w4 l1 n o) ticket, tt), ((as_row_send (Asked.the_field P B S L R A W E p s3 s1 s2 e1 e3 e4 e5 w1 w2 w3 w4 l1 n o) asked, tt), ((as_row_send (HandlerName.the_field E) (handler_send E sE yE), tt), tt)))

  pub queue_send : IsSend (Queue.the_row P B S L R A W E p s3 s1 s2 e1 e3 e4 e5 w1 w2 w3 w4 l1 n o)
  queue_send =
      let woken = as_row_send (Vec.the_field (Asked.the_row P B S L R A W E p s3 s1 s2 e1 e3 e4 e5 w1 w2 w3 w4 l1 n o) Global.the_row ghosts) (Vec-send _ asked) in
      let hands = as_row_send (Vec.the_field (HandlerName.the_row E) Global.the_row ghosts) (Vec-send _ (handler_send E sE yE)) in
      declared_send (Queue.the_type P B S L R A W E p s3 s1 s2 e1 e3 e4 e5 w1 w2 w3 w4 l1 n o) (woken, (search (ticket, crosses, sendable) depth 24, (hands, tt)))

  -- a board whose workers are known by the name may go, and a crew's hall may be seen, where the board may go
  module _ (sW : IsSend W) (f : staff.Ghosts B.Denot) where
    staffed_send : (a : NamedLft) → IsSync P → IsSend (Staffed.the_row a P B S L R A W E p s3 s1 s2 e1 e2 e3 e4 e5 w1 w2 w3 w4 l1 n o f)
    staffed_send a yP =
        let board = as_row_send (Board.the_field a P B S L R A W E p s3 s1 s2 e1 e2 e3 e4 e5 w1 w2 w3 w4 l1 n o) (board_send E sE yE P B S L R A W sB sS sL sR e1 e2 e3 e4 e5 p s1 s2 s3 w1 w2 w3 w4 l1 n o sW a yP) in
        view_send (inside_staffed.the_row a P B S L R A W E p s3 s1 s2 e1 e2 e3 e4 e5 w1 w2 w3 w4 l1 n o f) _ _ _ _ (declared_send (inside_staffed.the_type a P B S L R A W E p s3 s1 s2 e1 e2 e3 e4 e5 w1 w2 w3 w4 l1 n o f) (board, tt))

    pub hall_sync : (a : NamedLft) → IsSync P → IsSync (Hall.the_row a P B S L R A W E p s3 s1 s2 e1 e2 e3 e4 e5 w1 w2 w3 w4 l1 n o f)
    hall_sync a yP =
        let board = of_padded.the_sync (Mutex.the_row (Staffed.the_row a P B S L R A W E p s3 s1 s2 e1 e2 e3 e4 e5 w1 w2 w3 w4 l1 n o f)) (mutex_sync _ (staffed_send a yP)) in
        let rest = as_row_sync (Mutex.the_field (Vec.the_row (Work.the_row P B S L R A W E p s3 s1 s2 e1 e3 e4 e5 w1 w2 w3 w4 l1 n o) Global.the_row ghosts)) (mutex_sync _ (Vec-send _ work_send)) in
        declared_sync (Hall.the_type a P B S L R A W E p s3 s1 s2 e1 e2 e3 e4 e5 w1 w2 w3 w4 l1 n o f) (board, (rest, (flag_sync, (count_sync, (count_sync, (sleepers_sync, (bell_sync, tt)))))))

    -- a worker at its seat may go, where what all workers share may be seen
    pub seated_send : (Rt G : RattleType) (t : gate.Ghosts G.Denot) → IsSync P → IsSync Rt → IsSync G → (a b c d : NamedLft) → IsSend (Seated.the_row a b c d P B Rt G S L R A W E p s3 s1 s2 e1 e3 e4 e5 w1 w2 w3 w4 l1 n o f t e2)
    seated_send Rt G t yP yRt yG a b c d =
        let all : IsSync (Setting.the_row b d P Rt G t) = search (of_setting.the_sync, yP, yRt, yG) depth 6 in
        let setting = as_row_send (row_field (ShrRef a.mir a.lft (Setting.the_row b d P Rt G t))) (shr_send a.mir a.lft (Setting.the_row b d P Rt G t) all) in
        let hall = as_row_send (row_field (ShrRef c.mir c.lft (Hall.the_row d P B S L R A W E p s3 s1 s2 e1 e2 e3 e4 e5 w1 w2 w3 w4 l1 n o f))) (shr_send c.mir c.lft (Hall.the_row d P B S L R A W E p s3 s1 s2 e1 e2 e3 e4 e5 w1 w2 w3 w4 l1 n o f) (hall_sync d yP)) in
        declared_send (Seated.the_type a b c d P B Rt G S L R A W E p s3 s1 s2 e1 e3 e4 e5 w1 w2 w3 w4 l1 n o f t e2) (setting, (hall, (of_pace.the_send, (of_seat.the_send _ work_send, (queue_send, tt)))))
