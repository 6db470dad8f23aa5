use Rattle.std.proofs.Common.{◌≡◌, ◌∙◌, ◌∷◌, ◌++◌, ◌+◌, [], not, cond, false, ◌&&◌, ap, sym, take, take_all, arith}
use Rattle.std.proofs.lemmas.List.{take_more}
use Rattle.std.specs.Ordering.{is_eq}
use Rattle.lvish_lattice.specs.Elements.{has}
use Rattle.lvish_lattice.proofs.Several.{one_goes, none_goes}
use Rattle.lvish_lattice.proofs.trees.take_out.Goals as goal

pub loop-x-init : goal.loop-x-init
loop-x-init g c = record { ascending = c.requires; without = none_goes g.met.V.Ord.total c.args.tree.now.keys }

pub loop-x-preserved : goal.loop-x-preserved
loop-x-preserved g c =
    let R = g.V.Ord.cmp in
    let values = c.args.values.now in
    let i = c.loop-x.x-index in
    let x = c.x-item.result in
    let more : take (i + 1) values ≡ take i values ++ x ∷ [] = take_more values i x c.loop-x-test.true ∙ ap (λ y. take i values ++ y ∷ []) (sym c.x-item.is) in
    record {
      ascending = c.remove.ensures.ordered;
      without = one_goes g.met.V.Ord.total x (take i values) (take (i + 1) values) c.args.tree.now.keys c.loop-x.tree.keys c.remove.new.self.keys more (λ q. c.remove.ensures.updates.0 q ∙ ap (λ y. cond (is_eq (R y q)) false (has R c.loop-x.tree.keys q)) c.new.ensures) c.loop-x.invariant.without;
    }

pub returns-clause-ascending : goal.returns-clause-ascending
returns-clause-ascending g c = c.loop-x.invariant.ascending

pub returns-clause-others : goal.returns-clause-others
returns-clause-others g c q =
    let R = g.V.Ord.cmp in
    let all : take c.loop-x.x-index c.args.values.now ≡ c.args.values.now = take_all _ c.args.values.now (omega (arith, c.loop-x-test.false)) in
    c.loop-x.invariant.without q ∙ ap (λ went. has R c.args.tree.now.keys q && not (has R went q)) all
