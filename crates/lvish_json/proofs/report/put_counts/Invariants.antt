use Rattle.std.proofs.Common.{drop}
use Rattle.json.specs.Tree.{json_tokens}
use Rattle.lvish_json.specs.Shape.{each, count}
use Rattle.lvish_json.proofs.Adding.{Leads, left}
use Rattle.lvish_json.proofs.report.put_counts.Given as goal

abbrev pub invariant-loop-number : goal.invariant-loop-number
invariant-loop-number l = Leads l.fn.text l.text (left count (drop l.number-index l.counts)) (json_tokens (each count l.counts))
