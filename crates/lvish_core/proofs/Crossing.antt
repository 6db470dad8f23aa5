-- A core may go to another thread where its program may be seen from one, and its states, local states and
-- events may go there. Each fact is one step of a search, which would else go down all links of each name.
use denote.Hole.{as_row}
use denote.Param.Send.{IsSend, IsSync, sendable, shr_send, view_send}
use denote.Param.SendFields.{as_row_send, declared_send}
use denote.RattleType.{RattleType}
use denote.Ref.{NamedLft, ShrRef}
use denote.Builtin.{usize}
use denote.Struct.Field.{row_field, u64-field, usize-field}
use Rattle.std.proofs.Crossing.{Vec-send, crosses}
use Rattle.std.proofs.MapsCrossing as maps
use Rattle.std.specs.contracts.alloc.Global as Global
use Rattle.std.specs.contracts.impls.GlobalAllocator.TheImpl.{ghosts}
use Rattle.std.specs.contracts.option.Option as Option
use Rattle.std.specs.contracts.vec.Vec as Vec
use Rattle.std.specs.declared.cmp.Eq as equal
use Rattle.std.specs.declared.cmp.Ord as order
use Rattle.std.specs.declared.cmp.PartialEq as same
use Rattle.std.specs.declared.cmp.PartialOrd as partial
use Rattle.std.specs.declared.hash.Hash as hash
use Rattle.lvish_lattice.specs.declared.lattice.Lattice as lattice
use Rattle.lvish_lattice.specs.declared.lattice.Reads as reads
use Rattle.lvish_names.proofs.Crossing.{name_send, handler_send}
use Rattle.lvish_names.specs.contracts.handler_name.HandlerName as HandlerName
use Rattle.lvish_names.specs.contracts.task_name.TaskName as TaskName
use Rattle.lvish_calculus.specs.declared.program.Program as program
use Rattle.lvish_variable.specs.contracts.variable.Variable as Variable
use Rattle.lvish_handlers.specs.contracts.handlers.Handlers as Handlers
use Rattle.lvish_core.specs.contracts.fault.RunError as RunError
use Rattle.lvish_core.specs.contracts.handler_place.HandlerSeat as HandlerSeat
use Rattle.lvish_core.specs.contracts.machine.Core as Core
use Rattle.lvish_core.specs.contracts.machine.Core.TheInside as inside
use Rattle.lvish_core.specs.contracts.places.Places as Places
use Rattle.lvish_core.specs.contracts.tasks.Tasks as Tasks
use Rattle.lvish_core.specs.contracts.touched.Touched as Touched

size_send : IsSend (as_row usize-field)
size_send = search sendable depth 20

index_send : IsSend usize
index_send = search sendable depth 20

freezes_send : IsSend (Vec.the_row usize Global.the_row ghosts)
freezes_send = Vec-send _ index_send

number_send : IsSend (as_row u64-field)
number_send = search sendable depth 20

seat_send : IsSend HandlerSeat.the_row
seat_send = search sendable depth 20

touched_send : IsSend (Option.the_row Touched.the_row)
touched_send = search sendable depth 24

module _ (E : RattleType) (s : IsSend E) (y : IsSync E) where
  name : IsSend (TaskName.the_row E)
  name = name_send E s y

  handler : IsSend (HandlerName.the_row E)
  handler = handler_send E s y

  fault_send : IsSend (Option.the_row (RunError.the_row E))
  fault_send = search (name, sendable) depth 24

  -- the ghosts of the events, of the states and of the program are those of any impl
  module _ (S : RattleType) (sS : IsSend S) (e1 : order.Ghosts E.Denot) (e2 : equal.Ghosts E.Denot) (e3 : same.Ghosts E.Denot) (e4 : partial.Ghosts E.Denot) (e5 : hash.Ghosts E.Denot)
      (s1 : lattice.Ghosts S.Denot E.Denot) (s2 : same.Ghosts S.Denot) where
    variable_send : IsSend (Variable.the_row S E s1 s2 e1 e3 e4 e5)
    variable_send = search (name, crosses, sendable) depth 30

    handlers_send : IsSend (Handlers.the_row S E s1 s2 e1 e3 e4 e5)
    handlers_send = search (handler, crosses, sendable) depth 30

    places_send : IsSend (Places.the_row E e1 e2 e3 e4)
    places_send = search (handler, crosses, maps.crosses, sendable) depth 30

    tasks_send : (L : RattleType) → IsSend L → IsSend (Tasks.the_row E L e2 e3 e5)
    tasks_send L l = search (name, crosses, maps.crosses, sendable) depth 40

    module _ (P L R A W : RattleType) (p : program.Ghosts P.Denot S.Denot L.Denot R.Denot A.Denot W.Denot E.Denot) (s3 : reads.Ghosts S.Denot R.Denot A.Denot W.Denot E.Denot)
        (w1 : order.Ghosts W.Denot) (w2 : same.Ghosts W.Denot) (w3 : partial.Ghosts W.Denot) (w4 : hash.Ghosts W.Denot) (l1 : same.Ghosts L.Denot) where
      pub core_send : (a : NamedLft) → IsSync P → IsSend L → IsSend (Core.the_row a P S L R A W E p s3 s1 s2 e1 e2 e3 e4 e5 w1 w2 w3 w4 l1)
      core_send a yP sL =
          let program = as_row_send (row_field (ShrRef a.mir a.lft P)) (shr_send a.mir a.lft P yP) in
          let variables : IsSend (Vec.the_row (Variable.the_row S E s1 s2 e1 e3 e4 e5) Global.the_row ghosts) = Vec-send _ variable_send in
          let handlers : IsSend (Vec.the_row (Handlers.the_row S E s1 s2 e1 e3 e4 e5) Global.the_row ghosts) = Vec-send _ handlers_send in
          let tasks = as_row_send (Tasks.the_field E L e2 e3 e5) (tasks_send L sL) in
          let places = as_row_send (Places.the_field E e1 e2 e3 e4) places_send in
          view_send (inside.the_row a P S L R A W E p s3 s1 s2 e1 e2 e3 e4 e5 w1 w2 w3 w4 l1) _ _ _ _
          (declared_send (inside.the_type a P S L R A W E p s3 s1 s2 e1 e2 e3 e4 e5 w1 w2 w3 w4 l1)
          (program, (variables, (handlers, (tasks, (places, (seat_send, (size_send, (number_send, (fault_send, (touched_send, (freezes_send, tt))))))))))))
