use Rattle.std.proofs.Common.{◌≡◌, length, option_map, ap, arith}
use Rattle.std.specs.Arc.{arc_value}
use Rattle.lvish_names.specs.Path.{path_parts}
use Rattle.lvish_names.proofs.NameLaws.{not_deep-from_lt}
use Rattle.lvish_names.proofs.task_name.TaskName.pool_of.Goals as goal

pub of-requires : goal.of-requires
of-requires g c =
    let same : length (path_parts (option_map arc_value c.in_ok-path-in-Some.path)) ≡ length (path_parts (option_map arc_value c.in-Some.before.now)) = ap (λ p. length (path_parts p)) c.in_ok-path-in-Some.ensures in
    not_deep-from_lt (path_parts (option_map arc_value c.in_ok-path-in-Some.path)) (omega (arith, same, c.in-Some.ensures.few))
