use Rattle.lvish_explain.proofs.laws.marks_are_words.Goals as goal

pub returns : goal.returns
returns c = Rattle.lvish_explain.proofs.Marks.marks_are_words
