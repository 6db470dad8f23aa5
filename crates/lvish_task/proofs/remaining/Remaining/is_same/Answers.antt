use Rattle.std.proofs.Common.{◌≡◌, ◌∙◌, sym, ap, rules, List, ℤ, true, take, drop, length, ◌-◌, refl}
use mir.Syntax.{w64}
use mir.Val.{SFits, to_z}
use Rattle.std.specs.Cmp.Lexicographic.{pointwise}
use Rattle.std.specs.Ordering.{int_eq}
use Rattle.std.proofs.lemmas.Int.{to_z-of_z}
use Rattle.lvish_compound.specs.Kinds.{same_kind}
use Rattle.lvish_compound.specs.laws.KindLaws.{kinds_identical}
use Rattle.lvish_compound.specs.contracts.event.EventPartialEq.TheImpl.{eq-value}
use Rattle.lvish_task.specs.Remaining.{events_in, shared_events}
use Rattle.lvish_task.proofs.Left.{from_on}
use Rattle.lvish_task.proofs.ByNumbers.{alike_equal}
use Rattle.lvish_task.proofs.remaining.Remaining.is_same.Goals as goal

pub returns-in-Alike-Alike : goal.returns-in-Alike-Alike
returns-in-Alike-Alike c =
    let m = c.in-Alike-Alike in
    let i = c.self.inside.next in
    let j = c.other.inside.next in
    let key_fits : SFits w64 m.key = search rules in
    let other_fits : SFits w64 m.other_key = search rules in
    let keys : m.key ≡ m.other_key = sym (to_z-of_z w64 m.key key_fits) ∙ ap (to_z w64) c.if-key-other_key.true ∙ to_z-of_z w64 m.other_key other_fits in
    let told : true ≡ same_kind m.kind m.other_kind = search rules in
    let xs : List ℤ = c.as_slice.result.now in
    let ys : List ℤ = c.as_slice-in-Alike-Alike.result.now in
    let found : c.are_equal.result ≡ pointwise int_eq (take (length xs - i) (drop i xs)) (take (length ys - j) (drop j ys)) = c.are_equal.ensures in
    found
    ∙ (λ k. pointwise int_eq (from_on i xs m.numbers.items c.as_slice.ensures.value k) (from_on j ys m.others.items c.as_slice-in-Alike-Alike.ensures.value k))
    ∙ alike_equal m.key m.kind eq-value.it (λ d e. refl) i j m.numbers.items m.others.items m.other_key m.other_kind _ _
    (sym c.self.view_is ∙ ap (λ o. drop i (shared_events o)) c.in-Some-Some.is-0 ∙ ap (λ s. drop i (events_in s)) (sym c.deref.ensures ∙ m.is-0))
    (sym c.other.view_is ∙ ap (λ o. drop j (shared_events o)) c.in-Some-Some.is-1 ∙ ap (λ s. drop j (events_in s)) (sym c.deref-2.ensures ∙ m.is-1))
    keys (kinds_identical m.kind m.other_kind (sym told))
