use Rattle.std.proofs.Common.{◌∙◌, ap, sym, map}
use Rattle.std.proofs.lemmas.List.{drop-map}
use Rattle.std.specs.List.{list_all}
use Rattle.lvish_syntax.specs.Words.{is_name}
use Rattle.lvish_checks.proofs.Loops.{rest_whole}
use Rattle.lvish_checks.proofs.Forms.{front_taken, front_passes, freeze_taken}
use Rattle.lvish_checks.proofs.form.freeze.freeze_after.Goals as goal

pub names_of-requires : goal.names_of-requires
names_of-requires c = ap (list_all is_name) (front_taken (λ w. w.now) is_name c.args.words.now c.name_count-count.result c.name_count-count.ensures) ∙ front_passes is_name _

pub returns : goal.returns
returns c =
    c.freeze_each.ensures
    ∙ freeze_taken c.args.local c.args.variable _ c.name_count-count.result _ _ c.name_count-count.ensures c.if-count-eq0.false
    (c.in_ok-pools.ensures ∙ front_taken (λ w. w.now) is_name c.args.words.now c.name_count-count.result c.name_count-count.ensures)
    (ap (map (λ w. w.now)) (rest_whole c.name_count-count.result c.args.words.now) ∙ sym (drop-map (λ w. w.now) c.name_count-count.result c.args.words.now))
