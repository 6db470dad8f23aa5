use Rattle.lvish_core.proofs.machine.Core.step.Goals as goal

-- the index is filled, and the core stays as it is
pub returns-in-Act : goal.returns-in-Act
returns-in-Act g c = record { stepped = rw c.in-Act.is (rw c.index_names.ensures at c.step_task.ensures) }
