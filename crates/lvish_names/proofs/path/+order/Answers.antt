use Rattle.std.proofs.Common.{◌≡◌, ◌∷◌, length, option_map, sym, ap, ◌∙◌, arith}
use Rattle.std.specs.Arc.{arc_value}
use Rattle.std.specs.Option.{option_copied}
use Rattle.std.specs.Ordering.{ordering_then}
use Rattle.lvish_names.specs.declared.path.Link.{out-Link}
use Rattle.lvish_names.specs.NameOrder.{name_cmp}
use Rattle.lvish_names.specs.Path.{path_parts}
use Rattle.lvish_names.proofs.Links.{parts-link}
use Rattle.lvish_names.proofs.Paths.{name_cmp-cons}
use Rattle.lvish_names.proofs.path.+order.Goals as goal

pub returns-in-Some-Some : goal.returns-in-Some-Some
returns-in-Some-Some g t c =
    let one = out-Link _ c.in-Some-Some.one.now in
    let other = out-Link _ c.in-Some-Some.other.now in
    let before = path_parts (option_map arc_value one.before) in
    let beside = path_parts (option_map arc_value other.before) in
    let first : path_parts (option_copied c.args.one) ≡ one.last ∷ before = rw c.in-Some-Some.is-0 (parts-link c.in-Some-Some.one.now) in
    let second : path_parts (option_copied c.args.other) ≡ other.last ∷ beside = rw c.in-Some-Some.is-1 (parts-link c.in-Some-Some.other.now) in
    let long : length (one.last ∷ before) ≡ length (other.last ∷ beside) = sym (ap length first) ∙ c.requires ∙ ap length second in
    let here : c.order.result ≡ ordering_then (name_cmp g.E.Ord.cmp before beside) c.then.result = c.order.ensures ∙ (λ i. ordering_then (name_cmp g.E.Ord.cmp (path_parts (c.link_of.ensures i)) (path_parts (c.link_of-in-Some-Some.ensures i))) c.then.result) in
    let then : c.then.result ≡ ordering_then c.cmp-last.result c.args.rest = c.then.ensures in
    here
    ∙ ap (λ o. ordering_then (name_cmp g.E.Ord.cmp before beside) o) (then ∙ ap (λ o. ordering_then o c.args.rest) c.cmp-last.ensures)
    ∙ sym (name_cmp-cons g.E.Ord.cmp before beside one.last other.last c.args.rest (omega (arith, long)))
    ∙ (λ i. ordering_then (name_cmp g.E.Ord.cmp (sym first i) (sym second i)) c.args.rest)
