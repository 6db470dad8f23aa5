use Rattle.std.proofs.Common.{refl, sym, ◌∙◌}
use Rattle.std.proofs.lemmas.Bool.{eqb-true}
use Rattle.std.proofs.lemmas.List.{nil_from_length}
use Rattle.std.proofs.lemmas.Result.{IfOk-weaker}
use Rattle.lvish_lattice.specs.Ascending.{ties_are_same}
use Rattle.lvish_lattice.proofs.Several.{missing_rises, missing_apart, missing_merge, none_missing}
use Rattle.lvish_lattice.proofs.elements.Elements.put_all.Goals as goal

pub returns-then-is_empty-clause-put : goal.returns-then-is_empty-clause-put
returns-then-is_empty-clause-put g c =
    let v = g.met.V in
    let same = ties_are_same g.V.Ord.cmp v.Plain.identical v.Ord.matches_eq in
    let none = nil_from_length c.in_ok-missing.missing.items (sym c.in_ok-missing.missing.ok.0 ∙ eqb-true _ _ (sym c.is_empty.ensures ∙ c.if-is_empty.true)) in
    missing_merge v.Ord.total same g.V.PartialEq.eq v.Ord.matches_eq c.args.self.now c.args.others.now c.in_ok-missing.missing.items c.args.self.now c.in_ok-missing.ensures refl c.requires.first c.requires.second c.args.self.now (none_missing g.V.Ord.cmp c.in_ok-missing.missing.items c.args.self.now none)

pub put_missing-requires-clause-values : goal.put_missing-requires-clause-values
put_missing-requires-clause-values g c =
    let v = g.met.V in
    let same = ties_are_same g.V.Ord.cmp v.Plain.identical v.Ord.matches_eq in
    missing_rises v.Ord.total same g.V.PartialEq.eq v.Ord.matches_eq c.args.self.now c.args.others.now c.in_ok-missing.missing.items c.args.self.now c.in_ok-missing.ensures refl c.requires.second

pub put_missing-requires-clause-apart : goal.put_missing-requires-clause-apart
put_missing-requires-clause-apart g c =
    let v = g.met.V in
    let same = ties_are_same g.V.Ord.cmp v.Plain.identical v.Ord.matches_eq in
    missing_apart v.Ord.total same g.V.PartialEq.eq v.Ord.matches_eq c.args.self.now c.args.others.now c.in_ok-missing.missing.items c.args.self.now c.in_ok-missing.ensures refl

pub returns-clause-put : goal.returns-clause-put
returns-clause-put g c =
    let v = g.met.V in
    let same = ties_are_same g.V.Ord.cmp v.Plain.identical v.Ord.matches_eq in
    IfOk-weaker c.put_missing.result _ _ (λ u put. missing_merge v.Ord.total same g.V.PartialEq.eq v.Ord.matches_eq c.args.self.now c.args.others.now c.in_ok-missing.missing.items c.args.self.now c.in_ok-missing.ensures refl c.requires.first c.requires.second c.put_missing.new.self put) c.put_missing.ensures.put
