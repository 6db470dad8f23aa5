use Rattle.std.proofs.Common.{◌≡◌, ℕ, ◌+◌, ◌^◌, ◌<◌, true, List, length, Option, Some, None, Bor, sym, arith}
use Rattle.std.specs.List.{slice_get}
use Rattle.std.specs.Option.{option_copied, IfSome}
use Rattle.std.proofs.lemmas.Option.{slice_get_within}
use borrow.Author.Tests.{ltb-true}
use Rattle.lvish_code.specs.Sound.{lands}
use Rattle.lvish_task.specs.Vocabulary.{Instruction, SkipIfZero, GoOn}
use Rattle.lvish_task.specs.Jumps.{AllLand, HasPlaces}
use Rattle.lvish_task.proofs.stride.next.Goals as goal

-- an instruction among so few leads to numbers of 64 bits
has_room : (count place : ℕ) (i : Instruction) → count < 2 ^ 64 → place < count → lands count place i ≡ true → HasPlaces place i
has_room count place (SkipIfZero a n) few there h = let w : place + 1 + n < count = ltb-true _ _ h in omega arith
has_room count place (GoOn n) few there h = let w : place + 1 + n < count = ltb-true _ _ h in omega arith
has_room count place i few there h = omega arith

room_of : (is : List Instruction) (place : ℕ) (o : Option (Bor Instruction)) → option_copied o ≡ slice_get is place → length is < 2 ^ 64 → AllLand is → IfSome o (λ i. HasPlaces place i.now)
room_of is place None e few land = tt
room_of is place (Some i) e few land = has_room (length is) place i.now few (slice_get_within is place i.now (sym e)) (land place i.now (sym e))

pub returns-clause-room : goal.returns-clause-room
returns-clause-room c =
    let few : length c.args.instructions.now < 2 ^ 64 = omega arith in
    room_of c.args.instructions.now c.args.place c.at.result c.at.ensures few c.requires
