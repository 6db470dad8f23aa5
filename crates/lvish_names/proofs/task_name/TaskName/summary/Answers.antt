use Rattle.std.proofs.Common.{◌≡◌, length, ap, subst, ◌∙◌, arith}
use Rattle.std.specs.Option.{option_copied}
use Rattle.lvish_names.specs.Path.{link_parts, path_parts}
use Rattle.lvish_names.specs.Summaries.{IsSummed, IsPathSummed}
use Rattle.lvish_names.specs.declared.path.Link.{out-Link}
use Rattle.lvish_names.proofs.Links.{summary-link}
use Rattle.lvish_names.proofs.Summaries.{depth-length}
use Rattle.lvish_names.proofs.task_name.TaskName.summary.Goals as goal

pub returns-in-Some-clause-few : goal.returns-in-Some-clause-few
returns-in-Some-clause-few g c =
    let link = c.in-Some.link.now in
    let summed : IsSummed link = subst (λ p. IsPathSummed (option_copied p)) c.in-Some.is c.link.ensures.summed in
    let long : (out-Link _ link).summary.depth ≡ length (link_parts link) = ap (λ s. s.depth) (summary-link link summed) ∙ depth-length (link_parts link) in
    let same : length (path_parts (option_copied c.link.result)) ≡ length (link_parts link) = ap (λ p. length (path_parts (option_copied p))) c.in-Some.is in
    omega (arith, long, same, c.link.ensures.few)
