use Rattle.lvish_core.proofs.laws.hands_one_event.Goals as goal

pub returns-clause-one : goal.returns-clause-one
returns-clause-one g c = λ p. Rattle.lvish_core.proofs.Takes.hands_one_event _ (c.lawful.ensures p) (c.handlers_are_held.ensures.posts p)

pub returns-clause-open : goal.returns-clause-open
returns-clause-open g c = λ p. Rattle.lvish_core.proofs.Takes.hands_what_comes _ (c.lawful.ensures p) (c.handed_next.ensures.next p)
