use Rattle.std.proofs.Common.{◌≡◌, ◌+◌, ◌<◌, ℤ, List, length, pos, take, get_or, nat_eq, slice_index_or, if◌then◌else◌, sym, ap, ◌∙◌, arith, to_z, of_z, w64, rules}
use Rattle.std.proofs.lemmas.List.{get_or_past}
use Rattle.lvish_task.specs.declared.shared_numbers.Change.{Change}
use Rattle.lvish_task.specs.Changes.{changed}
use Rattle.lvish_task.proofs.Changes.{length_changed, changed_next, later_value}
use Rattle.lvish_task.proofs.shared_numbers.value_after.Goals as goal

pub returns-then-local-numbers : goal.returns-then-local-numbers
returns-then-local-numbers c =
    let long = length_changed c.args.numbers.now c.args.changes.now in
    let past = c.if-local-numbers.true in
    sym (get_or_past (changed c.args.numbers.now c.args.changes.now) c.args.local (pos 0) (omega (arith, long, past)))

pub loop-change-preserved : goal.loop-change-preserved
loop-change-preserved c =
    let none : Change = record { local = 0; value = pos 0 } in
    let at = c.loop-change.change-index in
    let one = get_or c.args.changes.now at none in
    let before : List ℤ = changed c.args.numbers.now (take at c.args.changes.now) in
    let long = length_changed c.args.numbers.now (take at c.args.changes.now) in
    let there = c.if-local-numbers.false in
    let within : c.args.local < length before = omega (arith, long, there) in
    let next : c.later-value.result ≡ slice_index_or (changed c.args.numbers.now (take (at + 1) c.args.changes.now)) c.args.local (pos 0) =
    c.later-value.ensures
    ∙ ap (λ v. if nat_eq one.local c.args.local then one.value else v) c.loop-change.invariant
    ∙ sym (later_value before one c.args.local within)
    ∙ ap (λ xs. slice_index_or xs c.args.local (pos 0)) (sym (changed_next c.args.numbers.now c.args.changes.now at none c.loop-change-test.true)) in
    let same : to_z w64 (of_z w64 c.later-value.result) ≡ c.later-value.result = search rules in
    same ∙ next
