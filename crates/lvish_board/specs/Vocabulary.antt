-- The words that Rattle makes of types of the calculus, of cores and boards, for one `use` line.
pub use Rattle.lvish_calculus.specs.declared.label.Label.{Label}
pub use Rattle.lvish_calculus.specs.declared.label.Label.TheVariants.{Act, Hand}
pub use Rattle.lvish_calculus.specs.declared.request.ErrorKind.{ErrorKind}
pub use Rattle.lvish_calculus.specs.declared.request.ErrorKind.TheVariants.{Conflict, Frozen, Late, Deep}
pub use Rattle.lvish_calculus.specs.declared.request.Request.{Request}
pub use Rattle.lvish_calculus.specs.declared.request.Request.TheVariants.{Put, Get, Fork, Add, Freeze, Pause, End}
pub use Rattle.lvish_calculus.specs.declared.request.Reply.{Reply}
pub use Rattle.lvish_calculus.specs.declared.request.Reply.TheVariants.{Done, Answer, Content}
pub use Rattle.lvish_variable.specs.declared.entry.Entry.{Entry}
pub use Rattle.lvish_handlers.specs.declared.held.Held.{Held}
pub use Rattle.lvish_core.specs.declared.limits.TheConstants.{MOST_PROGRAM_STEPS}
pub use Rattle.lvish_core.specs.declared.fault.RunError.{RunError}
pub use Rattle.lvish_core.specs.declared.fault.Stepped.{Stepped}
pub use Rattle.lvish_core.specs.declared.fault.Stepped.TheVariants.{Done as DoneStep, Error as ErrorStep}
pub use Rattle.lvish_core.specs.declared.touched.Touched.{Touched}
pub use Rattle.lvish_core.specs.declared.touched.Touched.TheVariants.{Put as PutOn, Handed, Ended as EndedIn, Other}
pub use Rattle.lvish_core.specs.declared.moved.Made.{Made}
pub use Rattle.lvish_core.specs.declared.moved.Moved.{Moved}
pub use Rattle.lvish_trace.specs.declared.trace_entry.TraceEntry.{TraceEntry}
pub use Rattle.lvish_trace.specs.declared.packed_step.PackedStep.{PackedStep}
pub use Rattle.lvish_trace.specs.declared.packed_step.Step.{Step}
pub use Rattle.lvish_trace.specs.declared.packed_step.Step.TheVariants.{Act as ActStep, Hand as HandStep}
pub use Rattle.lvish_trace.specs.declared.trace.TracedStep.{TracedStep}
pub use Rattle.lvish_trace.specs.declared.trace.TracedStep.TheVariants.{Run as RunOf, Hand as HandOf}
pub use Rattle.lvish_trace.specs.declared.outcome.Outcome.{Outcome}
pub use Rattle.lvish_trace.specs.declared.outcome.Outcome.TheVariants.{Ended as EndedOver, Error as ErrorOver, Budget}
pub use Rattle.lvish_board.specs.declared.work.Work.{Work}
pub use Rattle.lvish_board.specs.declared.work.Work.TheVariants.{Stretch, Act as ActOn, Hand as HandTo}
pub use Rattle.lvish_board.specs.declared.step_work.StepWork.{StepWork}
pub use Rattle.lvish_board.specs.declared.act_answer.ActAnswer.{ActAnswer}
pub use Rattle.lvish_board.specs.declared.act_answer.ActAnswer.TheVariants.{Over, Stale, Parked, Memory, Next, Gone}
pub use Rattle.lvish_board.specs.declared.act_kind.ActKind.{ActKind}
pub use Rattle.lvish_board.specs.declared.act_kind.ActKind.TheVariants.{Over as OverKind, Stale as StaleKind, Parked as ParkedKind, Memory as MemoryKind, Next as NextKind, Gone as GoneKind}
