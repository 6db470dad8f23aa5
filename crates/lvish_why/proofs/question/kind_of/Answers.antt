use Rattle.std.proofs.Common.{refl, sym, ap, ◌∙◌, option_and_then, w64}
use Rattle.std.proofs.lemmas.Bool.{ltb-false}
use Rattle.std.proofs.lemmas.Int.{to_z-of_z}
use Rattle.std.proofs.lemmas.Option.{slice_get_past, slice_get_read}
use Rattle.lvish_why.specs.Why.{kind_at}
use Rattle.lvish_why.proofs.question.kind_of.Goals as goal

pub returns-in-Some : goal.returns-in-Some
returns-in-Some c =
    c.kind_at.ensures ∙ ap (λ key. kind_at key c.in-Some.kind.now) (to_z-of_z w64 c.args.key c.ranges.key)
    ∙ sym (ap (option_and_then (kind_at c.args.key)) (slice_get_read c.args.kinds.now _ c.args.variable c.in-Some.kind.now refl c.in-Some.ensures.lookup.3.0 c.in-Some.ensures.lookup.1))

pub returns-in-None : goal.returns-in-None
returns-in-None c = sym (ap (option_and_then (kind_at c.args.key)) (slice_get_past c.args.kinds.now c.args.variable (ltb-false c.args.variable _ (sym c.in-None.ensures.lookup.0))))
