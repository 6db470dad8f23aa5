use Rattle.std.proofs.Common.{Contains, length, map, refl, sym, ◌∙◌, ap, subst}
use Rattle.std.specs.List.Sorted.{IsStrictlySortedBy}
use Rattle.std.specs.Ordering.{nat_cmp}
use Rattle.std.specs.Cmp.Lexicographic.{slice_cmp}
use Rattle.lvish_lattice.specs.GrowSet.{items_of, items_ascend}
use Rattle.lvish_rules.specs.Sets.{only}
use Rattle.lvish_facts.specs.Names.{names_in}
use Rattle.lvish_pointing.specs.Numbers.{spelled, names_of}
use Rattle.lvish_pointing.specs.Answers.{lines_with, pointed}
use Rattle.lvish_pointing.specs.Rows.{rows_of}
use Rattle.lvish_pointing.proofs.Composed.{answered}
use Rattle.lvish_pointing.proofs.answer.points_answer.Goals as goal

pub constraints_of-requires-clause-there : goal.constraints_of-requires-clause-there
constraints_of-requires-clause-there g c = λ w h.
    let facts = c.as_slice-3.ensures.value ∙ sym c.as_slice.ensures.value in
    subst (λ ns. Contains (names_in ns) w) (sym c.as_slice-2.ensures.value) ((c.in_ok-names.ensures.same w).1 (subst (λ fs. Contains (names_of (map spelled fs)) w) facts h))

pub returns-clause-answer : goal.returns-clause-answer
returns-clause-answer g c =
    let k = c.in_ok-constraints.constraints in
    let a = c.in_ok-answer.answer in
    let names = names_in c.as_slice-2.result.now in
    let rise : IsStrictlySortedBy (slice_cmp nat_cmp) names = subst (λ ns. IsStrictlySortedBy (slice_cmp nat_cmp) (names_in ns)) (sym c.as_slice-2.ensures.value) c.in_ok-names.ensures.rising in
    let again = c.as_slice-4.ensures.value ∙ sym c.as_slice-2.ensures.value in
    let text = c.in_ok-text.ensures.text ∙ (λ i. lines_with (rows_of items_of (names_in (again i)) a.states (length (names_in (again i))))) in
    let counted = c.in_ok-text.ensures.counted ∙ (λ i. pointed (rows_of items_of (names_in (again i)) a.states (length (names_in (again i))))) in
    let facts = c.in_ok-constraints.ensures.named ∙ ap (map spelled) c.as_slice-3.ensures.value ∙ c.in_ok-facts.ensures.facts in
    answered only items_of (λ x. refl) items_ascend names rise k.names c.in_ok-constraints.ensures.names k.facts k.inside a.states c.args.text.now c.in_ok-text.field-0.text.items c.in_ok-text.field-0.count c.is_whole.result facts text counted c.in_ok-answer.ensures.sound (λ w.
    c.in_ok-answer.ensures.exact (sym c.is_whole.ensures ∙ w))
