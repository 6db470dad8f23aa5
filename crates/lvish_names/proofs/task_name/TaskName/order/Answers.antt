use Rattle.std.proofs.Common.{◌≡◌, ◌-◌, length, drop, sym, ap, ◌∙◌}
use Rattle.std.specs.Option.{option_copied}
use Rattle.std.specs.declared.cmp.Ordering.TheVariants.{Less, Greater}
use Rattle.std.specs.Ordering.{ordering_then}
use Rattle.lvish_names.specs.NameOrder.{name_cmp}
use Rattle.lvish_names.specs.Path.{path_parts}
use Rattle.lvish_names.proofs.Paths.{name_cmp-shorter, name_cmp-longer}
use Rattle.lvish_names.proofs.task_name.TaskName.order.Goals as goal

pub returns-in-Less : goal.returns-in-Less
returns-in-Less g c =
    let k = c.len-others_depth.result - c.len-depth.result in
    let beside : path_parts (option_copied c.before-beside.result) ≡ drop k c.args.other.now = c.before-beside.ensures ∙ ap (drop k) c.link-others.ensures.parts in
    c.order-in-Less.ensures
    ∙ (λ i. ordering_then (name_cmp g.E.Ord.cmp (c.link-own.ensures.parts i) (beside i)) Less)
    ∙ sym (name_cmp-shorter g.E.Ord.cmp c.args.self.now c.args.other.now c.len-depth.result c.len-others_depth.result c.len-depth.ensures.length c.len-others_depth.ensures.length c.in-Less.ensures)

pub returns-in-Greater : goal.returns-in-Greater
returns-in-Greater g c =
    let k = c.len-depth.result - c.len-others_depth.result in
    let beside : path_parts (option_copied c.before-beside-in-Greater.result) ≡ drop k c.args.self.now = c.before-beside-in-Greater.ensures ∙ ap (drop k) c.link-own.ensures.parts in
    c.order-in-Greater.ensures
    ∙ (λ i. ordering_then (name_cmp g.E.Ord.cmp (beside i) (c.link-others.ensures.parts i)) Greater)
    ∙ sym (name_cmp-longer g.E.Ord.cmp c.args.self.now c.args.other.now c.len-depth.result c.len-others_depth.result c.len-depth.ensures.length c.len-others_depth.ensures.length c.in-Greater.ensures)
