use Rattle.std.proofs.Common.{◌≡◌, option_map, ap, ◌∙◌}
use Rattle.std.specs.Arc.{arc_value}
use Rattle.lvish_names.specs.Names.{same_name}
use Rattle.lvish_names.specs.Path.{path_parts}
use Rattle.lvish_names.proofs.NameLaws.{runs_in-iff}
use Rattle.lvish_names.proofs.task_name.TaskName.runs_in.Goals as goal

pub returns-then-number : goal.returns-then-number
returns-then-number g c =
    let before = path_parts (option_map arc_value c.in-Some.before.now) in
    let number : c.in-Some.number ≡ c.args.handler.now.number = c.if-number.true ∙ c.number.ensures in
    let told : c.has_path.result ≡ same_name g.E.PartialEq.eq c.args.handler.now.adder before = c.has_path.ensures ∙ ap (λ t. same_name g.E.PartialEq.eq t before) c.adder.ensures.adder in
    runs_in-iff g.met.E.Plain.identical g.met.E.Eq.laws.refl (record { adder = before; number = c.in-Some.number }) c.args.handler.now _ c.in-Some.ensures.pool number _ told
