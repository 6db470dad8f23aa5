use Rattle.lvish_core.proofs.laws.entries_carry_their_puts.Goals as goal

pub returns-clause-named : goal.returns-clause-named
returns-clause-named g c = λ p k xs run v x at. Rattle.lvish_core.proofs.Puts.entry_named _ (c.lawful.ensures p) xs _ run.reached v x.log (run.brings v x at)

pub returns-clause-each : goal.returns-clause-each
returns-clause-each g c = λ p k xs run v x at. Rattle.lvish_core.proofs.Puts.entry_is_there _ (c.lawful.ensures p) xs _ v x.log (run.logs v x at) (run.brings v x at)
