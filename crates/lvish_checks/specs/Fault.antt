-- The numbers and names of the faults.
use Rattle.std.specs.Prelude.{ℕ, List, codes}
use Rattle.lvish_checks.specs.Vocabulary.{Fault, TooLong, NotAscii, BadLine, BadNumber, DoubleName, UnknownName, WrongKind, WrongCount, OpenBlock, Compatible, NoMain, TooMany, Memory}

-- the number of a fault: the place of its check, and Memory after them
abbrev pub fault_number : Fault → ℕ
fault_number TooLong = 1
fault_number NotAscii = 2
fault_number BadLine = 3
fault_number BadNumber = 4
fault_number DoubleName = 5
fault_number UnknownName = 6
fault_number WrongKind = 7
fault_number WrongCount = 8
fault_number OpenBlock = 9
fault_number Compatible = 10
fault_number NoMain = 11
fault_number TooMany = 12
fault_number Memory = 13

-- the name of a fault, by its bytes
abbrev pub fault_name : Fault → List ℕ
fault_name TooLong = codes "TooLong"
fault_name NotAscii = codes "NotAscii"
fault_name BadLine = codes "BadLine"
fault_name BadNumber = codes "BadNumber"
fault_name DoubleName = codes "DoubleName"
fault_name UnknownName = codes "UnknownName"
fault_name WrongKind = codes "WrongKind"
fault_name WrongCount = codes "WrongCount"
fault_name OpenBlock = codes "OpenBlock"
fault_name Compatible = codes "Compatible"
fault_name NoMain = codes "NoMain"
fault_name TooMany = codes "TooMany"
fault_name Memory = codes "Memory"
