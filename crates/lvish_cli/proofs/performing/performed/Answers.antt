use Rattle.std.proofs.Common.{◌≤◌, subst}
use Rattle.std.proofs.KnownBytes.{Keeps-refl}
use Rattle.lvish_run.specs.contracts.scripts.ScriptRunMeaning.TheImpl.{ghosts}
use Rattle.lvish_cli.specs.declared.reading.TheConstants.{MOST_READ}
use Rattle.lvish_cli.proofs.Orders.{answered, failed}
use Rattle.lvish_cli.proofs.performing.performed.Goals as goal

pub returns-in-Err-clause-performs : goal.returns-in-Err-clause-performs
returns-in-Err-clause-performs g c = rw c.unanswered.ensures (failed ghosts c.args.order.now (g.R.Read.remaining c.args.reader.now) (g.W.Write.contents c.args.writer.now) (g.W.Write.contents c.args.writer.now)
    c.in-Ok.input.items c.in-Ok.ensures.given c.in-Err.fault (rw c.as_slice.ensures.value at c.in-Err.ensures.err) (Keeps-refl _))

pub returns-clause-performs : goal.returns-clause-performs
returns-clause-performs g c = answered ghosts c.args.order.now (g.R.Read.remaining c.args.reader.now) (g.W.Write.contents c.args.writer.now) (g.W.Write.contents c.write_answer.new.writer)
    c.in-Ok.input.items c.in-Ok.ensures.given c.in-Ok-answer_to.answer.status c.write_answer.result c.in-Ok-answer_to.answer.text.items (rw c.as_slice.ensures.value at c.in-Ok-answer_to.ensures.ok) (rw c.as_slice-2.ensures.value at c.write_answer.ensures)

pub returns-clause-reads : goal.returns-clause-reads
returns-clause-reads g c = (c.in-Ok.input.items, subst (λ n. n ≤ MOST_READ) c.in-Ok.input.ok.0 c.in-Ok.ensures.most, c.in-Ok.ensures.consumed)
