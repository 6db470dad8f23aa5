use Rattle.std.proofs.Common.{refl}
use Rattle.lvish_code.proofs.scope.Scope.command.Goals as goal

pub returns-in-Let : goal.returns-in-Let
returns-in-Let c = rw (c.in-Let.is, c.local.ensures, c.expression.ensures) refl

pub returns-in-Put : goal.returns-in-Put
returns-in-Put c = rw (c.in-Put.is, c.put.ensures, c.whole.ensures) refl

pub returns-in-PutAt : goal.returns-in-PutAt
returns-in-PutAt c = rw (c.in-PutAt.is, c.put-in-PutAt.ensures, c.part.ensures) refl

pub returns-in-Get : goal.returns-in-Get
returns-in-Get c = rw c.in-Get.is (rw c.whole-in-Get.ensures at c.get.ensures)

pub returns-in-GetAt : goal.returns-in-GetAt
returns-in-GetAt c = rw c.in-GetAt.is (rw c.part-in-GetAt.ensures at c.get-in-GetAt.ensures)

pub returns-in_ok-operands-in-Fork : goal.returns-in_ok-operands-in-Fork
returns-in_ok-operands-in-Fork c = rw (c.in-Fork.is, c.procedure.ensures, c.in_ok-operands-in-Fork.ensures, c.as_slice.ensures) refl

pub returns-in_ok-operands-in-Call : goal.returns-in_ok-operands-in-Call
returns-in_ok-operands-in-Call c = rw (c.in-Call.is, c.procedure-in-Call.ensures, c.in_ok-operands-in-Call.ensures, c.as_slice-in-Call.ensures) refl

pub returns-in-Handle : goal.returns-in-Handle
returns-in-Handle c = rw (c.in-Handle.is, c.pool.ensures, c.procedure-in-Handle.ensures) refl

pub returns-in-Freeze : goal.returns-in-Freeze
returns-in-Freeze c = rw c.in-Freeze.is c.freeze.ensures

pub returns-in-FreezeEach : goal.returns-in-FreezeEach
returns-in-FreezeEach c = rw c.in-FreezeEach.is (rw c.procedure-in-FreezeEach.ensures at c.freeze-in-FreezeEach.ensures)
