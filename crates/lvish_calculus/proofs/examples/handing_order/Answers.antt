use Rattle.lvish_calculus.proofs.HandingRuns.{in_put_order_ends, one_first_ends, not_core, is_core, handing_lawful}
use Rattle.lvish_calculus.proofs.ModelRuns.{in_put_order_closed, main_freezes, introduces_three, introduces_one, hands_well, twice_is_not_well}
use Rattle.lvish_calculus.proofs.examples.handing_order.Goals as goal

pub returns-clause-ends : goal.returns-clause-ends
returns-clause-ends g = in_put_order_ends

pub returns-clause-other_ends : goal.returns-clause-other_ends
returns-clause-other_ends g = one_first_ends

pub returns-clause-other_is_no_core_run : goal.returns-clause-other_is_no_core_run
returns-clause-other_is_no_core_run g = not_core

pub returns-clause-is_core_run : goal.returns-clause-is_core_run
returns-clause-is_core_run g = is_core

pub returns-clause-closed : goal.returns-clause-closed
returns-clause-closed g = in_put_order_closed

pub returns-clause-lawful : goal.returns-clause-lawful
returns-clause-lawful g = handing_lawful

pub returns-clause-main_freezes : goal.returns-clause-main_freezes
returns-clause-main_freezes g = main_freezes

pub returns-clause-introduces_three : goal.returns-clause-introduces_three
returns-clause-introduces_three g = introduces_three

pub returns-clause-introduces_one : goal.returns-clause-introduces_one
returns-clause-introduces_one g = introduces_one

pub returns-clause-hands_well : goal.returns-clause-hands_well
returns-clause-hands_well g = hands_well

pub returns-clause-twice_is_not_well : goal.returns-clause-twice_is_not_well
returns-clause-twice_is_not_well g = twice_is_not_well
