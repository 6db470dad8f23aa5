use Rattle.std.proofs.Common.{rules, ◌≡◌, ◌++◌, codes, sym, ap, ◌∙◌, string_bytes}
use Rattle.std.specs.Fmt.{signed_decimal}
use Rattle.lvish_lattice.specs.GrowSet.{items_of}
use Rattle.lvish_report.specs.StateText.{set_text}
use Rattle.std.specs.Map.Iter.{deref}
use Rattle.std.proofs.lemmas.Map.Iter.{rest_all}
use Rattle.lvish_report.proofs.Braces.{pieces, after_piece, closed}
use Rattle.lvish_report.proofs.state_text.push_set.Goals as goal

pub loop-element-preserved : goal.loop-element-preserved
loop-element-preserved c =
    let text = string_bytes c.loop-element.text in
    let first = c.loop-element.is_first in
    let longer : string_bytes c.push_number.new.text ≡ string_bytes c.push_gap.new.text ++ signed_decimal c.in-Some.element.now = search rules in
    after_piece signed_decimal first c.in-Some.element.now c.next.new.self text (string_bytes c.push_gap.new.text) (string_bytes c.push_number.new.text) c.in_ok-push_gap.ensures longer
    ∙ ap (λ xs. text ++ (pieces signed_decimal first xs ++ codes "}")) (sym c.in-Some.ensures.steps)
    ∙ c.loop-element.invariant

pub returns : goal.returns
returns c =
    let done = rest_all deref _ _ _ c.in-None.is c.next.ensures.steps in
    let all : string_bytes c.loop-element.text ++ codes "}" ≡ string_bytes c.args.text.now ++ set_text (items_of c.args.set.now) = closed signed_decimal c.loop-element.is_first (items_of c.args.set.now) _ (string_bytes c.loop-element.text) (string_bytes c.args.text.now) done c.loop-element.invariant in
    search (rules, all)
