use Rattle.std.proofs.Common.{map, ap, sym, refl, ◌∙◌, ◌≡◌, inr}
use Rattle.std.specs.Prelude.{filter}
use Rattle.lvish_script.specs.Spells.{script_lines, says_something}
use Rattle.lvish_checks.specs.Checks.{IsFirstFault, IsAccepted, version_of}
use Rattle.lvish_script.proofs.Accepted.{too_long, sound_when_accepted}
use Rattle.lvish_checks.proofs.Order.{lines_well_placed, blocks_closed}
use Rattle.lvish_script.proofs.Reading.{of_parts}
use Rattle.lvish_script.proofs.read.read_script.Goals as goal

pub returns-then-is_too_long : goal.returns-then-is_too_long
returns-then-is_too_long c = inr (too_long _ (sym c.is_too_long.ensures ∙ c.if-is_too_long.true))

pub returns-in-Some : goal.returns-in-Some
returns-in-Some c =
    let verdict = rw c.in-Some.is at c.in_ok-fault.ensures.verdict in
    inr (of_parts c.args.text.now c.as_slice-lines.result.now _ c.as_slice-2.result.now (ap (map (λ w. w.now)) c.as_slice-lines.ensures.value ∙ c.in_ok-lines.ensures) refl (c.as_slice-2.ensures.value ∙ c.in_ok-said.ensures.lines) (λ p. IsFirstFault p c.in-Some.fault.fault c.in-Some.fault.line) (verdict c.args.text.now _ (sym c.is_too_long.ensures ∙ c.if-is_too_long.false) c.in_ok-said.ensures.bad_number))

pub nest-requires-clause-placed : goal.nest-requires-clause-placed
nest-requires-clause-placed c =
    let verdict = rw c.in-None.is at c.in_ok-fault.ensures.verdict in
    let accepted = verdict c.args.text.now _ (sym c.is_too_long.ensures ∙ c.if-is_too_long.false) c.in_ok-said.ensures.bad_number in
    λ l. rw (sym c.as_slice-2.ensures.value) (lines_well_placed _ accepted l)

pub nest-requires-clause-closed : goal.nest-requires-clause-closed
nest-requires-clause-closed c =
    let verdict = rw c.in-None.is at c.in_ok-fault.ensures.verdict in
    let accepted = verdict c.args.text.now _ (sym c.is_too_long.ensures ∙ c.if-is_too_long.false) c.in_ok-said.ensures.bad_number in
    λ l. rw (sym c.as_slice-2.ensures.value) (blocks_closed _ accepted l)

pub of-requires : goal.of-requires
of-requires c =
    let verdict = rw c.in-None.is at c.in_ok-fault.ensures.verdict in
    let accepted = verdict c.args.text.now _ (sym c.is_too_long.ensures ∙ c.if-is_too_long.false) c.in_ok-said.ensures.bad_number in
    let heard = c.as_slice-2.result.now in
    let version = c.version_of-version.result in
    let declarations = c.in_ok-declarations-in-None.declarations in
    let procedures = c.in_ok-declarations-in-None.procedures in
    let same : version ≡ version_of heard = c.version_of-version.ensures ∙ ap version_of (c.as_slice.ensures.value ∙ sym c.as_slice-2.ensures.value) in
    let lines : script_lines declarations procedures ≡ filter says_something heard = rw c.as_slice-2.ensures.value c.in_ok-declarations-in-None.ensures in
    let q = of_parts c.args.text.now c.as_slice-lines.result.now _ heard (ap (map (λ w. w.now)) c.as_slice-lines.ensures.value ∙ c.in_ok-lines.ensures) refl (c.as_slice-2.ensures.value ∙ c.in_ok-said.ensures.lines) (λ p. IsAccepted p × (version ≡ version_of p.said) × (script_lines declarations procedures ≡ filter says_something p.said)) (accepted, same, lines) in
    sound_when_accepted c.args.text.now version declarations procedures q.1 q.2 q.0

pub returns : goal.returns
returns c =
    let verdict = rw c.in-None.is at c.in_ok-fault.ensures.verdict in
    let accepted = verdict c.args.text.now _ (sym c.is_too_long.ensures ∙ c.if-is_too_long.false) c.in_ok-said.ensures.bad_number in
    let heard = c.as_slice-2.result.now in
    let script = c.of.result in
    let same : script.version ≡ version_of heard = c.of.ensures.version ∙ c.version_of-version.ensures ∙ ap version_of (c.as_slice.ensures.value ∙ sym c.as_slice-2.ensures.value) in
    let lines : script_lines script.declarations script.procedures ≡ filter says_something heard = rw (c.of.ensures.declarations, c.of.ensures.procedures, c.as_slice-2.ensures.value) c.in_ok-declarations-in-None.ensures in
    let q = of_parts c.args.text.now c.as_slice-lines.result.now _ heard (ap (map (λ w. w.now)) c.as_slice-lines.ensures.value ∙ c.in_ok-lines.ensures) refl (c.as_slice-2.ensures.value ∙ c.in_ok-said.ensures.lines) (λ p. IsAccepted p × (script.version ≡ version_of p.said) × (script_lines script.declarations script.procedures ≡ filter says_something p.said)) (accepted, same, lines) in
    record { accepted = q.0; version = q.1; lines = q.2 }
