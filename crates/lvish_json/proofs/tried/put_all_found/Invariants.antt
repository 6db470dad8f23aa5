use Rattle.std.proofs.Common.{drop}
use Rattle.json.specs.Tree.{json_tokens}
use Rattle.lvish_report.specs.Text.{variables_of}
use Rattle.lvish_json.specs.Shape.{each}
use Rattle.lvish_json.specs.Tried.{found_value}
use Rattle.lvish_json.proofs.Adding.{Leads, left}
use Rattle.lvish_json.proofs.tried.put_all_found.Given as goal

abbrev pub invariant-loop-found : goal.invariant-loop-found
invariant-loop-found l = let show = found_value (variables_of l.script.declarations) in Leads l.fn.text l.text (left show (drop l.found-index l.all)) (json_tokens (each show l.all))
