use Rattle.std.proofs.Common.{◌≡◌, rules, length, pos, replicate, ◌++◌, ◌-◌, ap, sym, ◌∙◌, arith}
use Rattle.std.proofs.lemmas.List.{length-take-le}
use Rattle.lvish_task.specs.declared.limits.TheConstants.{IN_PLACE}
use Rattle.lvish_task.proofs.Filled.{filled_up, fewer_behind}
use Rattle.lvish_task.proofs.in_place.InPlace.filled.Goals as goal

pub invariant_of-result : goal.invariant_of-result
invariant_of-result c =
    let all : length c.self.inside.numbers ≡ IN_PLACE = search rules in
    let long : length c.args.self ≡ c.self.inside.count = ap length (sym c.self.view_is) ∙ length-take-le c.self.inside.count c.self.inside.numbers (omega (arith, all, c.self.invariant.0)) in
    (c.requires.few, fewer_behind c.self.inside.numbers c.self.inside.count c.args.count IN_PLACE (pos 0) (omega (arith, long, c.requires.more)) c.self.invariant.1)

pub returns : goal.returns
returns c =
    let all : length c.self.inside.numbers ≡ IN_PLACE = search rules in
    let long : length c.args.self ≡ c.self.inside.count = ap length (sym c.self.view_is) ∙ length-take-le c.self.inside.count c.self.inside.numbers (omega (arith, all, c.self.invariant.0)) in
    filled_up c.self.inside.numbers c.self.inside.count c.args.count IN_PLACE (pos 0) (omega (arith, long, c.requires.more)) c.requires.few c.self.invariant.1
    ∙ (λ k. c.self.view_is k ++ replicate (c.args.count - sym long k) (pos 0))
