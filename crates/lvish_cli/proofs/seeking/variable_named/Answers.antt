use Rattle.std.proofs.Common.{◌≡◌, ◌<◌, ◌∷◌, [], rules, ap, ◌∙◌, length, refl}
use Rattle.std.proofs.lemmas.Option.{slice_get_read}
use Rattle.lvish_report.specs.Text.{declared_variable}
use Rattle.lvish_cli.proofs.Named.{at_piece}
use Rattle.lvish_cli.proofs.seeking.variable_named.Goals as goal

pub returns-then-eq : goal.returns-then-eq
returns-then-eq c =
    let lines = c.args.declarations.now in
    let line = c.index-declarations-i.result in
    let same : c.in-Variable.declared ≡ c.args.name.now = search rules in
    let within : c.loop-i.i < length lines = search rules in
    let there = slice_get_read lines (length lines) c.loop-i.i line refl within c.index-declarations-i.is in
    let is = ap declared_variable c.in-Variable.is ∙ ap (λ w. (w, c.in-Variable.kind) ∷ []) same in
    rw c.loop-i.invariant.0 (at_piece declared_variable lines c.loop-i.i line (c.args.name.now, c.in-Variable.kind) there is)
