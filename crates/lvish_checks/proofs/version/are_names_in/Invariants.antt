use Rattle.std.proofs.Common.{◌≡◌, drop}
use Rattle.std.specs.List.{list_all}
use Rattle.lvish_syntax.specs.Version.{is_name_in}
use Rattle.lvish_checks.proofs.version.are_names_in.Given as goal

abbrev pub invariant-loop-name : goal.invariant-loop-name
invariant-loop-name l = list_all (is_name_in l.version) (drop l.name-index l.names) ≡ list_all (is_name_in l.version) l.names
