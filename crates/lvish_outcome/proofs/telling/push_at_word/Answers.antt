use Rattle.lvish_outcome.proofs.telling.push_at_word.Goals as goal

pub returns-in-Err : goal.returns-in-Err
returns-in-Err c = c.fail.ensures _
