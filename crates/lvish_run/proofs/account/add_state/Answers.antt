use Rattle.lvish_run.proofs.account.add_state.Goals as goal

pub returns : goal.returns
returns g c = rw (c.into_parts-content.ensures.state, c.into_parts-content.ensures.frozen) at c.in_ok-push.ensures.items
