use Rattle.std.proofs.Common.{inl, inr}
use Rattle.lvish_try.proofs.Noting.{counted_there, texts_stay, added_there}
use Rattle.lvish_try.proofs.gather.note.Goals as goal

pub returns-in-Some-clause-texts : goal.returns-in-Some-clause-texts
returns-in-Some-clause-texts c =
    let at = rw (c.as_slice.ensures.value, c.as_slice-2.ensures, c.in_ok-text.ensures) at c.in-Some.ensures in
    texts_stay c.args.script.now c.args.report c.args.found.now.items c.args.texts.now.items c.requires.texts c.in-Some.place at c.count_at.new.found.items c.count_at.ensures

pub returns-in-Some-clause-noted : goal.returns-in-Some-clause-noted
returns-in-Some-clause-noted c =
    let at = rw (c.as_slice.ensures.value, c.as_slice-2.ensures, c.in_ok-text.ensures) at c.in-Some.ensures in
    inl (counted_there c.args.script.now c.args.report c.args.found.now.items c.args.texts.now.items c.requires.texts c.in-Some.place at c.count_at.new.found.items c.count_at.ensures)

pub returns-in_ok-push-in-None-2-clause-noted : goal.returns-in_ok-push-in-None-2-clause-noted
returns-in_ok-push-in-None-2-clause-noted c =
    let none = rw (c.as_slice.ensures.value, c.as_slice-2.ensures, c.in_ok-text.ensures) at c.in-None.ensures in
    let first = rw (c.as_slice-in-None.ensures, c.in_ok-text.ensures) at c.in_ok-one-in-None.ensures in
    inr (added_there c.args.script.now c.args.report c.args.found.now.items c.args.texts.now.items c.requires.texts c.args.budget c.push-in-None.new.self.items c.in_ok-one-in-None.one none first c.in_ok-push-in-None-2.ensures.items)
