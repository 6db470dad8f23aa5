use Rattle.lvish_retrace.proofs.Entries.{AreNoted}
use Rattle.lvish_retrace.proofs.bringer.note_entries.Given as goal

abbrev pub invariant-loop-place : goal.invariant-loop-place
invariant-loop-place g l = AreNoted l.variable l.step l.log l.from l.initial.brought.items l.place l.brought.items
