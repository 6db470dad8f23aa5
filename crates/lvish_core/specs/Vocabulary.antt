-- The words that Rattle makes of types of the calculus, of variables, handlers and cores, for one `use` line.
pub use Rattle.lvish_calculus.specs.declared.label.Label.{Label}
pub use Rattle.lvish_calculus.specs.declared.label.Label.TheVariants.{Act, Hand}
pub use Rattle.lvish_calculus.specs.declared.request.ErrorKind.{ErrorKind}
pub use Rattle.lvish_calculus.specs.declared.request.ErrorKind.TheVariants.{Conflict, Frozen, Late, Deep}
pub use Rattle.lvish_calculus.specs.declared.request.Request.{Request}
pub use Rattle.lvish_calculus.specs.declared.request.Request.TheVariants.{Put, Get, Fork, Add, Freeze, Pause, End}
pub use Rattle.lvish_calculus.specs.declared.request.Reply.{Reply}
pub use Rattle.lvish_calculus.specs.declared.request.Reply.TheVariants.{Done, Answer, Content}
pub use Rattle.lvish_variable.specs.declared.entry.Entry.{Entry}
pub use Rattle.lvish_handlers.specs.declared.held.Held.{Held}
pub use Rattle.lvish_core.specs.declared.limits.TheConstants.{MOST_PROGRAM_STEPS}
pub use Rattle.lvish_core.specs.declared.fault.RunError.{RunError}
pub use Rattle.lvish_core.specs.declared.fault.Stepped.{Stepped}
pub use Rattle.lvish_core.specs.declared.fault.Stepped.TheVariants.{Done as DoneStep, Error as ErrorStep}
pub use Rattle.lvish_core.specs.declared.touched.Touched.{Touched}
pub use Rattle.lvish_core.specs.declared.touched.Touched.TheVariants.{Put as PutOn, Handed, Ended as EndedIn, Other}
pub use Rattle.lvish_core.specs.declared.moved.Made.{Made}
pub use Rattle.lvish_core.specs.declared.moved.Moved.{Moved}
pub use Rattle.lvish_variable.specs.declared.put_fault.PutFault.{PutFault}
pub use Rattle.lvish_variable.specs.declared.put_fault.PutFault.TheVariants.{Conflict as PutConflict, Frozen as PutFrozen}
pub use Rattle.lvish_core.specs.declared.handler_place.HandlerPlace.{HandlerPlace}
pub use Rattle.lvish_core.specs.declared.fault.StepFault.{StepFault}
pub use Rattle.lvish_core.specs.declared.fault.StepFault.TheVariants.{NotEnabled, Full, Memory}
pub use Rattle.lvish_core.specs.declared.stage.Stage.{Stage}
