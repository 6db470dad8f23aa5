use Rattle.std.proofs.Common.{◌≡◌, OnOk, sym, subst, ◌∙◌}
use Rattle.lvish_calculus.specs.declared.request.Request.TheVariants.{Get, Freeze}
use Rattle.lvish_calculus.specs.Handing.{IsAmong}
use Rattle.lvish_board.specs.Shelved.{IsOnItsList, get_list}
use Rattle.lvish_board.proofs.Lists.{stays_on}
use Rattle.lvish_board.proofs.parked.list_index.Goals as goal

pub returns-in-Some-clause-kept : goal.returns-in-Some-clause-kept
returns-in-Some-clause-kept g c = λ r t on. stays_on g.P.Lat.Spot.PartialEq.eq g.P.Lat.Reads.watched c.args.whole.now.lists.items c.args.whole.now.lists.items c.args.spots.now.tables.items c.push.new.self.tables.items c.args.freezes.now.lists.items c.args.freezes.now.lists.items r t (λ v i. i) (λ v w. c.push.ensures.kept v w t) (λ v i. i) on

pub returns-in-Some-clause-there : goal.returns-in-Some-clause-there
returns-in-Some-clause-there g c =
    let asks : (g.P.Program.functions g.B.BoardBrand.program).request c.args.asked.now.from ≡ Get c.in-Get.variable c.in-Get.read = sym c.request.ensures ∙ c.in-Get.is in
    let at = sym c.watch.ensures ∙ c.in-Some.is in
    subst (λ r. OnOk c.push.result (IsOnItsList g.P.Lat.Spot.PartialEq.eq g.P.Lat.Reads.watched c.args.whole.now.lists.items c.push.new.self.tables.items c.args.freezes.now.lists.items r c.args.index)) (sym asks)
    (subst (λ o. OnOk c.push.result (IsAmong c.args.index (get_list g.P.Lat.Spot.PartialEq.eq c.args.whole.now.lists.items c.push.new.self.tables.items c.in-Get.variable o))) (sym at) c.push.ensures.there)

pub returns-in-None-clause-kept : goal.returns-in-None-clause-kept
returns-in-None-clause-kept g c = λ r t on. stays_on g.P.Lat.Spot.PartialEq.eq g.P.Lat.Reads.watched c.args.whole.now.lists.items c.push-in-None.new.self.lists.items c.args.spots.now.tables.items c.args.spots.now.tables.items c.args.freezes.now.lists.items c.args.freezes.now.lists.items r t (λ v. c.push-in-None.ensures.kept v t) (λ v w i. i) (λ v i. i) on

pub returns-in-None-clause-there : goal.returns-in-None-clause-there
returns-in-None-clause-there g c =
    let asks : (g.P.Program.functions g.B.BoardBrand.program).request c.args.asked.now.from ≡ Get c.in-Get.variable c.in-Get.read = sym c.request.ensures ∙ c.in-Get.is in
    let at = sym c.watch.ensures ∙ c.in-None.is in
    subst (λ r. OnOk c.push-in-None.result (IsOnItsList g.P.Lat.Spot.PartialEq.eq g.P.Lat.Reads.watched c.push-in-None.new.self.lists.items c.args.spots.now.tables.items c.args.freezes.now.lists.items r c.args.index)) (sym asks)
    (subst (λ o. OnOk c.push-in-None.result (IsAmong c.args.index (get_list g.P.Lat.Spot.PartialEq.eq c.push-in-None.new.self.lists.items c.args.spots.now.tables.items c.in-Get.variable o))) (sym at) c.push-in-None.ensures.there)

pub returns-in-Freeze-clause-kept : goal.returns-in-Freeze-clause-kept
returns-in-Freeze-clause-kept g c = λ r t on. stays_on g.P.Lat.Spot.PartialEq.eq g.P.Lat.Reads.watched c.args.whole.now.lists.items c.args.whole.now.lists.items c.args.spots.now.tables.items c.args.spots.now.tables.items c.args.freezes.now.lists.items c.push-in-Freeze.new.self.lists.items r t (λ v i. i) (λ v w i. i) (λ v. c.push-in-Freeze.ensures.kept v t) on

pub returns-in-Freeze-clause-there : goal.returns-in-Freeze-clause-there
returns-in-Freeze-clause-there g c =
    let asks : (g.P.Program.functions g.B.BoardBrand.program).request c.args.asked.now.from ≡ Freeze c.in-Freeze.variable c.in-Freeze.field-1 = sym c.request.ensures ∙ c.in-Freeze.is in
    subst (λ r. OnOk c.push-in-Freeze.result (IsOnItsList g.P.Lat.Spot.PartialEq.eq g.P.Lat.Reads.watched c.args.whole.now.lists.items c.args.spots.now.tables.items c.push-in-Freeze.new.self.lists.items r c.args.index)) (sym asks) c.push-in-Freeze.ensures.there
