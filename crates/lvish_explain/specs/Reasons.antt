-- What is wrong, its sentence, and the fault that it belongs to.
use Rattle.std.specs.Prelude.{ℕ, List, codes, Option, Some, None}
use Rattle.lvish_checks.specs.declared.fault.Fault.{Fault}
use Rattle.lvish_checks.specs.declared.fault.Fault.TheVariants as fault
use Rattle.lvish_explain.specs.declared.known.Space.{Space}
use Rattle.lvish_explain.specs.declared.known.Space.TheVariants.{Variable, Pool, Procedure, Local}
use Rattle.lvish_explain.specs.declared.reason.Reason.{Reason}
use Rattle.lvish_explain.specs.declared.reason.Reason.TheVariants.{TooLong, NotAscii, NoForm, BelowProcedure, LateVersion, OfVersionTwo, ReservedInTwo, BadNumber, DeclaredAgain, ParameterAgain, UnknownVariable, LateVariable, UnknownPool, UnknownProcedure, UnknownLocal, WrongPut, WrongGet, OtherPool, WrongCount, OutsideProcedure, WithinProcedure, NoIf, LeftOpen, Compatible, NoMain, MainHasParameters, TooManyVariables, TooManyPools, TooManyProcedures, TooDeep, Memory}

-- the fault of which a reason tells more
abbrev pub fault_of : Reason → Fault
fault_of TooLong = fault.TooLong
fault_of NotAscii = fault.NotAscii
fault_of NoForm = fault.BadLine
fault_of BelowProcedure = fault.BadLine
fault_of LateVersion = fault.BadLine
fault_of OfVersionTwo = fault.BadLine
fault_of ReservedInTwo = fault.BadLine
fault_of BadNumber = fault.BadNumber
fault_of DeclaredAgain = fault.DoubleName
fault_of ParameterAgain = fault.DoubleName
fault_of UnknownVariable = fault.UnknownName
fault_of LateVariable = fault.UnknownName
fault_of UnknownPool = fault.UnknownName
fault_of UnknownProcedure = fault.UnknownName
fault_of UnknownLocal = fault.UnknownName
fault_of WrongPut = fault.WrongKind
fault_of WrongGet = fault.WrongKind
fault_of OtherPool = fault.WrongKind
fault_of WrongCount = fault.WrongCount
fault_of OutsideProcedure = fault.OpenBlock
fault_of WithinProcedure = fault.OpenBlock
fault_of NoIf = fault.OpenBlock
fault_of LeftOpen = fault.OpenBlock
fault_of Compatible = fault.Compatible
fault_of NoMain = fault.NoMain
fault_of MainHasParameters = fault.NoMain
fault_of TooManyVariables = fault.TooMany
fault_of TooManyPools = fault.TooMany
fault_of TooManyProcedures = fault.TooMany
fault_of TooDeep = fault.TooMany
fault_of Memory = fault.Memory

-- the sentence that says it
abbrev pub sentence_of : Reason → List ℕ
sentence_of TooLong = codes "a script has at most 65536 bytes"
sentence_of NotAscii = codes "a script has no bytes but tabs, line ends and those from space to ~"
sentence_of NoForm = codes "this line has none of the forms of a line"
sentence_of BelowProcedure = codes "variables and pools are declared above the first procedure"
sentence_of LateVersion = codes "`lvish 2` stands above all other lines with words"
sentence_of OfVersionTwo = codes "this word is one of version 2, and the script is of version 1"
sentence_of ReservedInTwo = codes "this word is reserved in version 2"
sentence_of BadNumber = codes "this is no number within 64 bits"
sentence_of DeclaredAgain = codes "this name is declared a second time"
sentence_of ParameterAgain = codes "this parameter is named twice"
sentence_of UnknownVariable = codes "no variable of this name is declared"
sentence_of LateVariable = codes "no variable of this name is declared above its pool"
sentence_of UnknownPool = codes "no pool of this name is declared"
sentence_of UnknownProcedure = codes "no procedure of this name is declared"
sentence_of UnknownLocal = codes "the procedure has no local of this name"
sentence_of WrongPut = codes "this put doesn't fit the kind of its variable"
sentence_of WrongGet = codes "this get doesn't fit the kind of its variable"
sentence_of OtherPool = codes "this pool isn't on the variable that is frozen"
sentence_of WrongCount = codes "the procedure has another number of parameters"
sentence_of OutsideProcedure = codes "this line stands outside a procedure"
sentence_of WithinProcedure = codes "this procedure begins within another one"
sentence_of NoIf = codes "the innermost open block isn't an `if` without an `else`"
sentence_of LeftOpen = codes "a block or procedure is open at the end"
sentence_of Compatible = codes "one content can have two different members of this `in`"
sentence_of NoMain = codes "there is no procedure `main`"
sentence_of MainHasParameters = codes "the procedure `main` has parameters"
sentence_of TooManyVariables = codes "a script has at most 64 variables"
sentence_of TooManyPools = codes "a script has at most 64 pools"
sentence_of TooManyProcedures = codes "a script has at most 64 procedures"
sentence_of TooDeep = codes "at most 64 blocks stand in one another, the procedure first"
sentence_of Memory = codes "there was no memory to read the script"

-- what a name was meant for that isn't declared
abbrev pub space_meant : Reason → Option Space
space_meant UnknownVariable = Some Variable
space_meant UnknownPool = Some Pool
space_meant UnknownProcedure = Some Procedure
space_meant NoMain = Some Procedure
space_meant UnknownLocal = Some Local
space_meant r = None
