-- Every answer has a status of its own, and it alone is written.
use Rattle.std.proofs.Common.{◌≡◌, ◌⊎◌, ◌==◌, inl, inr, ℕ, Bool, true, false, List, Option, IfSome, refl, subst, sym, if◌then◌else◌}
use Rattle.std.specs.Io.KnownBytes.{Appends, Keeps}
use Rattle.lvish_compound.specs.declared.event.Event.{Event}
use Rattle.lvish_syntax.specs.declared.script.Script.{Script}
use Rattle.lvish_try.specs.declared.tried.Tried.{Tried}
use Rattle.lvish_trace.specs.declared.outcome.Outcome.{Outcome}
use Rattle.lvish_trace.specs.declared.outcome.Outcome.TheVariants as outcome
use Rattle.lvish_run.specs.declared.fault.RunFault.{RunFault}
use Rattle.lvish_run.specs.declared.fault.RunFault.TheVariants as run
use Rattle.lvish_run.specs.declared.scripts.RunMeaning as runs
use Rattle.lvish_cli.specs.declared.order.Order.{Order}
use Rattle.lvish_cli.specs.declared.order.Order.TheVariants.{Check, Run, Pick, Try, Why, Graph, Format}
use Rattle.lvish_cli.specs.declared.order.WhyOrder.{WhyOrder}
use Rattle.lvish_cli.specs.declared.status.Status.{Status}
use Rattle.lvish_cli.specs.declared.status.Status.TheVariants.{Done, Blocked, Differ, Absent, Usage, Refused, Unwritten}
use Rattle.lvish_cli.specs.Answers.{IsAnswer, IsAnswerIf, IsAnswerAbout, IsUnanswered, IsScriptAnswer}
use Rattle.lvish_cli.specs.Derivations.{IsWhyAnswer, there_status}
use Rattle.lvish_cli.specs.Layouts.{IsFormatAnswer}
use Rattle.lvish_cli.specs.Orders.{asks_format, AsksEvent}
use Rattle.lvish_cli.specs.Performs.{WritesAnswer, Performs}
use Rattle.lvish_cli.specs.Runs.{outcome_status}
use Rattle.lvish_cli.specs.Statuses.{fault_status}
use Rattle.lvish_cli.specs.Tries.{IsTriedStatus}
use Rattle.lvish_cli.specs.Streams.{TakesFront, text_seen}

module _ (of : runs.Ghosts Script) (order : Order) (given old new : Option (List ℕ)) where
  -- what is written with the status of an outcome
  by_outcome : (blocked : ℕ) (o : Outcome Event) → WritesAnswer of order given old new (outcome_status blocked o) → Performs of order given old new (outcome_status blocked o)
  by_outcome blocked outcome.Ended w = by (blocked == 0) w
    where
      by : (b : Bool) → WritesAnswer of order given old new (if b then Done else Blocked) → Performs of order given old new (if b then Done else Blocked)
      by true w = w
      by false w = w
  by_outcome blocked (outcome.Error kind v t) w = w
  by_outcome blocked outcome.Budget w = w

  module _ (input : List ℕ) (read : IfSome given (λ bytes. input ≡ text_seen bytes)) where
    -- where there is an answer, it is written
    performed : (status : Status) (text : List ℕ) → Appends old new text → IsAnswer of order input status text → Performs of order given old new status
    performed status text put answer = by answer
      where
        at : (s : Status) → status ≡ s → (WritesAnswer of order given old new s → Performs of order given old new s) → Performs of order given old new status
        at s e up = subst (Performs of order given old new) (sym e) (up (text, record { input = input; read = read; answer = subst (λ q. IsAnswer of order input q text) e answer }, put))

        by_tried : (tried : Tried) → IsTriedStatus tried status → Performs of order given old new status
        by_tried tried (inl k) = at Done k.0 (λ w. w)
        by_tried tried (inr k) = at Differ k.0 (λ w. w)

        by_there : (there : Bool) → status ≡ there_status there → Performs of order given old new status
        by_there true k = at Done k (λ w. w)
        by_there false k = at Absent k (λ w. w)

        by_why : (script : Script) (asked : WhyOrder) → order ≡ Why asked → IsWhyAnswer of.is_picked_run script asked status text → Performs of order given old new status
        by_why script asked e (inl k) = by_there k.5.0 k.5.2
        by_why script asked e (inr k) = at (Usage k.0) k.1 (λ w. (subst AsksEvent (sym e) tt, w))

        by_script : (script : Script) (q : Order) → order ≡ q → IsScriptAnswer of script q status text → Performs of order given old new status
        by_script script (Check asked) e h = at Done h.0 (λ w. w)
        by_script script (Run asked) e h = at (outcome_status h.0.blocked h.0.outcome) h.2 (by_outcome h.0.blocked h.0.outcome)
        by_script script (Pick asked) e h = at (outcome_status h.0.blocked h.0.outcome) h.2 (by_outcome h.0.blocked h.0.outcome)
        by_script script (Try asked) e h = by_tried h.0 h.2
        by_script script (Why asked) e h = by_why script asked e h
        by_script script (Graph asked) e h = at Done h.0 (λ w. w)
        by_script script Format e h = absurd h

        by_format : IsFormatAnswer input status text → Performs of order given old new status
        by_format (inl h) = at Done h.0 (λ w. w)
        by_format (inr h) = at Refused h.0 (λ w. w)

        by_about : IsAnswerAbout of order input status text → Performs of order given old new status
        by_about (inl h) = by_script h.0 order refl h.2
        by_about (inr h) = at Refused h.2.1 (λ w. w)

        by_kind : (b : Bool) → IsAnswerIf of b order input status text → Performs of order given old new status
        by_kind true h = by_format h
        by_kind false h = by_about h

        by : IsAnswer of order input status text → Performs of order given old new status
        by = by_kind (asks_format order)

    -- as far as the writer takes it
    pub answered : (status told : Status) (text : List ℕ) → IsAnswer of order input status text → ((told ≡ status) × Appends old new text) ⊎ ((told ≡ Unwritten) × TakesFront old new text) → Performs of order given old new told
    answered status told text answer (inl w) = subst (Performs of order given old new) (sym w.0) (performed status text w.1 answer)
    answered status told text answer (inr w) = subst (Performs of order given old new) (sym w.0) (status, text, record { input = input; read = read; answer = answer }, w.1)

    -- where there is none nothing is written, and the status says why
    pub failed : (fault : RunFault) → IsUnanswered order input fault → Keeps old new → Performs of order given old new (fault_status fault)
    failed run.NoThread (inl e) kept = absurd (let y : ⊥ = cc in y)
    failed run.NoThread (inr h) kept = (input, read, (h.0, h.1), h.2, kept)
    failed run.Memory h kept = kept
    failed run.Stopped (inl e) kept = absurd (let y : ⊥ = cc in y)
    failed run.Stopped (inr h) kept = absurd h.2
    failed run.Mixed (inl e) kept = absurd (let y : ⊥ = cc in y)
    failed run.Mixed (inr h) kept = (input, read, (h.0, h.1), h.2, kept)
