use Rattle.json.specs.Tree.{json_tokens}
use Rattle.lvish_lattice.specs.GrowSet.{items_of as elements_of}
use Rattle.lvish_json.specs.Shape.{each, whole}
use Rattle.lvish_json.proofs.Adding.{Leads, left}
use Rattle.lvish_json.proofs.content.put_set.Given as goal

abbrev pub invariant-loop-element : goal.invariant-loop-element
invariant-loop-element l = Leads l.fn.text l.text (left whole l.element-iterator) (json_tokens (each whole (elements_of l.set)))
