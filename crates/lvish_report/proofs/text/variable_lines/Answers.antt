use Rattle.std.proofs.Common.{[], ap, sym, arith, length, lt-ltb}
use Rattle.std.proofs.lemmas.Bool.{both_ways}
use Rattle.lvish_report.specs.Text.{declared_variable, shown_line}
use Rattle.lvish_report.proofs.Texts.{left_from, state_there, line_first}
use Rattle.lvish_report.proofs.text.variable_lines.Goals as goal
use Rattle.lvish_report.proofs.text.variable_lines.Goals.{in-Variable+in-Some+in_ok-push_shown_line, in_default}

pub unreachable-requires : goal.unreachable-requires
unreachable-requires c =
    let there = state_there c.args.declarations.now c.loop-i.i c.index-declarations-i.result (omega arith) c.index-declarations-i.is _ (ap declared_variable c.in-Variable.is) c.args.states.now c.loop-i.place c.loop-i.invariant.long in
    both_ways _ (sym c.in_default-get.ensures.lookup.0) (lt-ltb _ _ there)

pub loop-i-preserved : goal.loop-i-preserved
loop-i-preserved c = elim c.match-declarations-i.branch [
  | in-Variable+in-Some+in_ok-push_shown_line w ↦
      let own = ap declared_variable w.in-Variable.is in
      let more = ap length (left_from c.args.declarations.now c.loop-i.i c.index-declarations-i.result (omega arith) c.index-declarations-i.is _ own) in
      let text = line_first c.args.declarations.now c.loop-i.i c.index-declarations-i.result (omega arith) c.index-declarations-i.is _ own c.args.states.now c.loop-i.place c.loop-i.invariant.long c.args.all w.in-Some.state.now _ _ _ _
      (ap (shown_line c.args.all (w.in-Variable.name, w.in-Variable.kind)) w.in-Some.ensures.lookup.1) w.in_ok-push_shown_line.ensures c.loop-i.invariant.text in
      record {
        few = let b = c.loop-i.invariant.few in let e = w.place-is in omega (arith, b, e);
        long = omega (arith, c.loop-i.invariant.long, more, w.place-is);
        text = rw (w.text-is, w.place-is) text;
      }
  | in_default w ↦
      let same = left_from c.args.declarations.now c.loop-i.i c.index-declarations-i.result (omega arith) c.index-declarations-i.is [] (ap declared_variable w.in_default.is) in
      record {
        few = let b = c.loop-i.invariant.few in let e = w.place-is in omega (arith, b, e);
        long = omega (arith, c.loop-i.invariant.long, ap length same, w.place-is);
        text = rw (w.text-is, w.place-is) (rw same at c.loop-i.invariant.text);
      }
]
