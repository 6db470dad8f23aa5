use Rattle.lvish_checks.proofs.Verdicts.{found_first}
use Rattle.lvish_checks.proofs.verdict.first_line.Goals as goal

pub returns-in-NotAscii : goal.returns-in-NotAscii
returns-in-NotAscii c = rw c.in-NotAscii.is c.first_not_ascii.ensures

pub returns-in-BadLine : goal.returns-in-BadLine
returns-in-BadLine c = rw c.in-BadLine.is c.first_bad_line.ensures

pub returns-in-BadNumber : goal.returns-in-BadNumber
returns-in-BadNumber c = rw c.in-BadNumber.is (found_first c.args.bad_number)

pub returns-in-DoubleName : goal.returns-in-DoubleName
returns-in-DoubleName c = rw c.in-DoubleName.is c.first_double_name.ensures

pub returns-in-UnknownName : goal.returns-in-UnknownName
returns-in-UnknownName c = rw c.in-UnknownName.is c.first_unknown_name.ensures

pub returns-in-WrongKind : goal.returns-in-WrongKind
returns-in-WrongKind c = rw c.in-WrongKind.is c.first_wrong_kind.ensures

pub returns-in-WrongCount : goal.returns-in-WrongCount
returns-in-WrongCount c = rw c.in-WrongCount.is c.first_wrong_count.ensures

pub returns-in-OpenBlock : goal.returns-in-OpenBlock
returns-in-OpenBlock c = rw c.in-OpenBlock.is c.first_open_block.ensures

pub returns-in-Compatible : goal.returns-in-Compatible
returns-in-Compatible c = rw c.in-Compatible.is c.first_compatible.ensures

pub returns-in-NoMain : goal.returns-in-NoMain
returns-in-NoMain c = rw c.in-NoMain.is c.first_no_main.ensures

pub returns-in-TooMany : goal.returns-in-TooMany
returns-in-TooMany c = rw c.in-TooMany.is c.first_too_many.ensures
