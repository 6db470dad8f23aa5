use Rattle.std.proofs.Common.{rules, ◌≡◌, ◌++◌, codes, sym, ap, ◌∙◌, string_bytes}
use Rattle.lvish_compound.specs.Tally.{entries_of}
use Rattle.lvish_report.specs.StateText.{amount_text, tally_text}
use Rattle.std.specs.Map.Iter.{deref_pair}
use Rattle.std.proofs.lemmas.Map.Iter.{rest_all}
use Rattle.lvish_report.proofs.Braces.{pieces, after_piece, closed}
use Rattle.lvish_report.proofs.state_text.push_tally.Goals as goal

pub loop-key-preserved : goal.loop-key-preserved
loop-key-preserved c =
    let text = string_bytes c.loop-key.text in
    let first = c.loop-key.is_first in
    let longer : string_bytes c.push_amount.new.text ≡ string_bytes c.push_gap.new.text ++ amount_text (c.in-Some.key.now, c.in-Some.amount.now) = search rules in
    after_piece amount_text first (c.in-Some.key.now, c.in-Some.amount.now) c.next.new.self text (string_bytes c.push_gap.new.text) (string_bytes c.push_amount.new.text) c.in_ok-push_gap.ensures longer
    ∙ ap (λ xs. text ++ (pieces amount_text first xs ++ codes "}")) (sym c.in-Some.ensures.steps)
    ∙ c.loop-key.invariant

pub returns : goal.returns
returns c =
    let done = rest_all deref_pair _ _ _ c.in-None.is c.next.ensures.steps in
    let all : string_bytes c.loop-key.text ++ codes "}" ≡ string_bytes c.args.text.now ++ tally_text (entries_of c.args.tally.now) = closed amount_text c.loop-key.is_first (entries_of c.args.tally.now) _ (string_bytes c.loop-key.text) (string_bytes c.args.text.now) done c.loop-key.invariant in
    search (rules, all)
