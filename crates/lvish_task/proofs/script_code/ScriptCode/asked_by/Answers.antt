use Rattle.std.proofs.Common.{◌≡◌, rules, Some, sym, ◌∙◌, w64}
use Rattle.std.proofs.lemmas.Int.{to_z-of_z}
use mir.Val.{SFits}
use Rattle.lvish_task.specs.States.{put_at}
use Rattle.lvish_task.specs.Run.{target_place}
use Rattle.lvish_task.proofs.AtOnce.{put_request, put_place, get_request, get_place}
use Rattle.lvish_task.proofs.script_code.ScriptCode.asked_by.Goals as goal

pub returns-in-Some-clause-request : goal.returns-in-Some-clause-request
returns-in-Some-clause-request c =
    let values : c.stack.result.now.top.values ≡ c.args.at.top.values = λ k. (c.stack.ensures k).top.values in
    let fits : SFits w64 c.operand-n.result = search rules in
    let state : put_at (target_place c.stack.result.now.top.values c.in-Put.target) c.operand-n.result ≡ Some c.in-Some.state = (λ k. put_at (target_place c.stack.result.now.top.values c.in-Put.target) (sym (to_z-of_z w64 c.operand-n.result fits) k)) ∙ c.in-Some.ensures in
    put_request c.args.self.now.flat c.args.at _ _ c.requires.asks c.in-Ask.is _ _ _ _ _ _ c.in-Put.is values c.operand-n.ensures state

pub returns-in-Some-clause-at : goal.returns-in-Some-clause-at
returns-in-Some-clause-at c =
    let values : c.stack.result.now.top.values ≡ c.args.at.top.values = λ k. (c.stack.ensures k).top.values in
    let fits : SFits w64 c.operand-n.result = search rules in
    let state : put_at (target_place c.stack.result.now.top.values c.in-Put.target) c.operand-n.result ≡ Some c.in-Some.state = (λ k. put_at (target_place c.stack.result.now.top.values c.in-Put.target) (sym (to_z-of_z w64 c.operand-n.result fits) k)) ∙ c.in-Some.ensures in
    put_place c.args.self.now.flat c.args.at _ _ c.requires.asks c.in-Ask.is _ _ _ _ _ _ c.in-Put.is values c.operand-n.ensures state

pub returns-in-Some-read_at_once-clause-request : goal.returns-in-Some-read_at_once-clause-request
returns-in-Some-read_at_once-clause-request c =
    let values : c.stack.result.now.top.values ≡ c.args.at.top.values = λ k. (c.stack.ensures k).top.values in
    get_request c.args.self.now.flat c.args.at _ _ c.requires.asks c.in-Ask.is _ _ _ _ _ _ c.in-Get.is values c.in-Some-read_at_once.ensures

pub returns-in-Some-read_at_once-clause-at : goal.returns-in-Some-read_at_once-clause-at
returns-in-Some-read_at_once-clause-at c =
    let values : c.stack.result.now.top.values ≡ c.args.at.top.values = λ k. (c.stack.ensures k).top.values in
    get_place c.args.self.now.flat c.args.at _ _ c.requires.asks c.in-Ask.is _ _ _ _ _ _ c.in-Get.is values c.in-Some-read_at_once.ensures
