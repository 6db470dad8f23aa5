use Rattle.lvish_try.specs.Drawn.{words}
use Rattle.lvish_try.proofs.Drawing.{word_given, no_word}
use Rattle.lvish_try.proofs.draw.words.Goals as goal

pub loop-done-preserved : goal.loop-done-preserved
loop-done-preserved c = word_given c.loop-done.picks.items c.push.new.self.items (words c.args.count c.args.generator) c.loop-done._done c.args.count c.loop-done.generator c.next_word.new.self c.next_word.result c.from.result c.loop-done-test.true c.next_word.ensures c.from.ensures c.in_ok-push.ensures.items c.loop-done.invariant

pub returns : goal.returns
returns c = no_word c.loop-done.picks.items (words c.args.count c.args.generator) c.loop-done._done c.args.count c.loop-done.generator c.loop-done-test.false c.loop-done.invariant
