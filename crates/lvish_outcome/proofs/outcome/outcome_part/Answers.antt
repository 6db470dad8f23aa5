use Rattle.std.proofs.Common.{inl, inr}
use Rattle.std.proofs.lemmas.Result.{IfOk-weaker}
use Rattle.lvish_outcome.proofs.outcome.outcome_part.Goals as goal

pub returns-in-None : goal.returns-in-None
returns-in-None c = record { code = c.in_ok-code.code; of = c.in_ok-code.ensures; told = inl (rw c.in-None.is at c.in_ok-retrace.ensures.told, c.new-in-None.ensures.items) }

pub returns : goal.returns
returns c =
    let told = rw c.in-Some.is at c.in_ok-retrace.ensures.told in
    IfOk-weaker c.part_of.result _ _
    (λ t e. record { code = c.in_ok-code.code; of = c.in_ok-code.ensures; told = inr (record { puts = c.in-Some.told.story.brought.items; brought = told.brought.each; part = rw (c.as_slice.ensures.value, c.in_ok-lines-in-Some.ensures, told.told.count) at e }) })
    c.part_of.ensures
