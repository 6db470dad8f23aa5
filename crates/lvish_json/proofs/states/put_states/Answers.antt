use Rattle.std.proofs.Common.{T, not, ap, subst, arith}
use Rattle.std.proofs.Math.Dec.{ltb→lt, nltb→le}
use Rattle.lvish_syntax.specs.Words.{Word}
use Rattle.lvish_syntax.specs.declared.kind.VariableKind.{VariableKind}
use Rattle.json.specs.Json.{array}
use Rattle.json.specs.Tree.{json_tokens}
use Rattle.lvish_report.specs.Text.{declared_variable, variables_of}
use Rattle.lvish_json.specs.Shape.{items_of}
use Rattle.lvish_json.specs.Report.{state_values}
use Rattle.lvish_json.proofs.Adding.{Leads}
use Rattle.lvish_json.proofs.StatesLeft.{no_variable, no_state, state_written}
use Rattle.lvish_json.proofs.states.put_states.Goals as goal
use Rattle.lvish_json.proofs.states.put_states.Goals.{in-Variable+in-Some, in-Variable+in_default-get, in_default}

pub loop-i-preserved : goal.loop-i-preserved
loop-i-preserved c =
    let l = c.loop-i in
    let ds = c.args.declarations.now in
    let ss = c.args.states.now in
    let d = c.index-declarations-i.result in
    let within = c.loop-i-test.true in
    let is = c.index-declarations-i.is in
    let whole = json_tokens (array (items_of (state_values (variables_of ds) ss))) in
    elim c.match-declarations-i.branch [
      | in-Variable+in-Some w ↦
          let v : Word × VariableKind = (w.in-Variable.name, w.in-Variable.kind) in
          let own = ap declared_variable w.in-Variable.is in
          let there = ltb→lt _ _ (subst T w.in-Some.ensures.lookup.0 tt) in
          record {
            few = let b = l.invariant.few in let e = w.place-is in omega (arith, b, e);
            text = rw (w.text-is, w.place-is) (state_written ds l.i d within is ss l.place v own w.in-Some.state.now there w.in-Some.ensures.lookup.1 _ _ _ _ w.put_state.ensures l.invariant.text);
          }
      | in-Variable+in_default-get w ↦
          let past = nltb→le _ _ (subst (λ b. T (not b)) w.in_default-get.ensures.lookup.0 tt) in
          record {
            few = let b = l.invariant.few in let e = w.place-is in omega (arith, b, e);
            text = rw (w.text-is, w.place-is) (subst (λ ts. Leads c.args.text.now l.text ts whole) (no_state ds l.i d within is ss l.place past) l.invariant.text);
          }
      | in_default w ↦
          record {
            few = let b = l.invariant.few in let e = w.place-is in omega (arith, b, e);
            text = rw (w.text-is, w.place-is) (subst (λ ts. Leads c.args.text.now l.text ts whole) (no_variable ds l.i d within is ss l.place (ap declared_variable w.in_default.is)) l.invariant.text);
          }
    ]
