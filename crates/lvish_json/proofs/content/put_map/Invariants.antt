use Rattle.json.specs.Tree.{json_tokens}
use Rattle.lvish_compound.specs.MapOf.{entries_of}
use Rattle.lvish_json.specs.Shape.{each}
use Rattle.lvish_json.specs.Content.{entry_value}
use Rattle.lvish_json.proofs.Adding.{Leads, left}
use Rattle.lvish_json.proofs.content.put_map.Given as goal

abbrev pub invariant-loop-key : goal.invariant-loop-key
invariant-loop-key l = Leads l.fn.text l.text (left entry_value l.key-iterator) (json_tokens (each entry_value (entries_of l.map)))
