use Rattle.lvish_explain.proofs.draft.Draft.add_asked.Goals as goal

pub returns-in-Err : goal.returns-in-Err
returns-in-Err c = λ bytes asked. c.fail.ensures bytes
