use Rattle.std.proofs.Common.{◌≡◌, ◌<◌, ◌∷◌, length, option_map, sym, ap, subst, ◌∙◌, arith}
use Rattle.std.specs.Arc.{arc_value}
use Rattle.lvish_names.specs.Path.{link_parts, path_parts}
use Rattle.lvish_names.specs.Summaries.{IsSummed, IsPathSummed, with_part, summary_of}
use Rattle.lvish_names.specs.declared.limits.TheConstants.{MOST_PARTS}
use Rattle.lvish_names.specs.declared.summary.Summary.{Summary}
use Rattle.lvish_names.proofs.Links.{parts-roll, summed-roll}
use Rattle.lvish_names.proofs.NameLaws.{lt-from_not_deep}
use Rattle.lvish_names.proofs.Summaries.{depth-length}
use Rattle.lvish_names.proofs.task_name.TaskName.followed_by.Goals as goal

pub followed_by-summary-requires : goal.followed_by-summary-requires
followed_by-summary-requires g c =
    let few : length c.args.self.now < MOST_PARTS = lt-from_not_deep c.args.self.now c.requires in
    let depth : c.summary.result.depth ≡ length c.args.self.now = ap (λ (s : Summary). s.depth) c.summary.ensures.of ∙ depth-length c.args.self.now in
    omega (arith, few, depth)

pub invariant_of-result : goal.invariant_of-result
invariant_of-result g c =
    let few : length c.args.self.now < MOST_PARTS = lt-from_not_deep c.args.self.now c.requires in
    let before = option_map arc_value c.in_ok-before.before in
    let shared : before ≡ option_map arc_value c.self.inside.path = c.in_ok-before.ensures in
    let own : c.args.self.now ≡ path_parts before = sym c.self.view_is ∙ ap (λ p. path_parts p) (sym shared) in
    let summary : c.followed_by-summary.result ≡ with_part (summary_of (path_parts before)) c.args.part = c.followed_by-summary.ensures ∙ ap (λ s. with_part s c.args.part) (c.summary.ensures.of ∙ ap (λ t. summary_of t) own) in
    let summed : IsPathSummed before = subst IsPathSummed (sym shared) c.self.invariant.0 in
    let long : length (link_parts (arc_value c.in_ok-new.field-0)) ≡ length (c.args.part ∷ path_parts before) = ap (λ l. length (link_parts l)) c.in_ok-new.ensures.ok ∙ ap length (parts-roll c.args.part c.in_ok-before.before c.followed_by-summary.result) in (
      subst IsSummed (sym c.in_ok-new.ensures.ok) (summed-roll c.args.part c.in_ok-before.before c.followed_by-summary.result summed summary),
      omega (arith, long, few, ap length own),
    )
