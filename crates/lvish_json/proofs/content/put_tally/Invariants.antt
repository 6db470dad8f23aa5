use Rattle.json.specs.Tree.{json_tokens}
use Rattle.lvish_compound.specs.Tally.{entries_of as amounts_of}
use Rattle.lvish_json.specs.Shape.{each}
use Rattle.lvish_json.specs.Content.{amount_value}
use Rattle.lvish_json.proofs.Adding.{Leads, left}
use Rattle.lvish_json.proofs.content.put_tally.Given as goal

abbrev pub invariant-loop-key : goal.invariant-loop-key
invariant-loop-key l = Leads l.fn.text l.text (left amount_value l.key-iterator) (json_tokens (each amount_value (amounts_of l.tally)))
