use Rattle.std.proofs.Common.{◌≡◌, ◌++◌, length, sym, ◌∙◌, ap, arith}
use Rattle.std.proofs.lemmas.Grind.{flat_map-append}
use Rattle.lvish_lattice.specs.GrowSet.{items_of}
use Rattle.lvish_facts.specs.declared.node.Node.{Node}
use Rattle.lvish_facts.specs.Names.{names_in}
use Rattle.lvish_pointing.specs.Answers.{line_with, lines_with}
use Rattle.lvish_pointing.specs.Rows.{row_of, rows_of}
use Rattle.lvish_pointing.proofs.Counted.{pointed_fits, pointed_more, row_pointed}
use Rattle.lvish_pointing.proofs.listing.listing.Goals as goal

-- the text holds a byte for each name that is pointed to, so their number fits
pub overflow_add-count : goal.overflow_add-count
overflow_add-count c =
    let names = names_in c.args.names.now in
    let items = items_of c.in-Some.targets.now in
    let pointer : Node = record { number = c.loop-number.number } in
    let rows = rows_of items_of names c.args.answer.now.states c.loop-number.number in
    let more = row_of names pointer items in
    let told = c.put_row.new.text in
    let text : told.items ≡ lines_with (rows ++ more) = c.in_ok-put_row.ensures ∙ ap (λ t. t ++ lines_with more) c.loop-number.invariant.text ∙ sym (flat_map-append line_with rows more) in
    omega (arith, c.loop-number.invariant.counted, c.len-count.ensures, pointed_fits (rows ++ more), pointed_more rows more, row_pointed names pointer items, ap length text, told.ok.0, told.small)
