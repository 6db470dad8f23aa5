-- What is told nests no deeper than a reader takes.
use Rattle.std.proofs.Common.{◌≡◌, ℕ, ℤ, ◌≤◌, ◌+◌, Bool, true, false, cond, List, [], ◌∷◌, ◌++◌, Option, Some, None, map, sym, ap, subst, ◌∙◌, arith, append-nil, IsUtf8}
use Rattle.std.specs.Prelude.{pos, option_and_then}
use Rattle.json.specs.Token.{Token}
use Rattle.json.specs.Lex.{tokens}
use Rattle.json.specs.Json.{Json, number, string, if_last, value, max_depth}
use Rattle.json.specs.Print.{print}
use Rattle.json.specs.Tree.{json_tokens, depth, items_depth, members_depth}
use Rattle.json.proofs.Printed.Trees.{value-json_tokens}
use Rattle.lvish_lattice.specs.declared.flat.Flat.{Flat}
use Rattle.lvish_lattice.specs.declared.flat.Flat.TheVariants.{Bottom, Value}
use Rattle.lvish_lattice.specs.declared.max_counter.MaxCounter.{MaxCounter}
use Rattle.lvish_lattice.specs.MaxCounter.{number_of}
use Rattle.lvish_lattice.specs.GrowSet.{items_of as elements_of}
use Rattle.lvish_compound.specs.declared.any.Any.{Any}
use Rattle.lvish_compound.specs.declared.any.Any.TheVariants as any
use Rattle.lvish_compound.specs.declared.part.Part.{Part}
use Rattle.lvish_compound.specs.declared.part.Part.TheVariants as part
use Rattle.lvish_compound.specs.Above.{state_of}
use Rattle.lvish_compound.specs.MapOf.{entries_of}
use Rattle.lvish_compound.specs.Tally.{entries_of as amounts_of}
use Rattle.lvish_syntax.specs.Words.{Word}
use Rattle.lvish_syntax.specs.declared.kind.SimpleKind.{SimpleKind}
use Rattle.lvish_syntax.specs.declared.kind.SimpleKind.TheVariants.{Cell, Set, Max}
use Rattle.lvish_syntax.specs.declared.kind.VariableKind.{VariableKind}
use Rattle.lvish_syntax.specs.declared.kind.VariableKind.TheVariants.{Simple, Map, Pair, Tally}
use Rattle.lvish_trace.specs.declared.outcome.Outcome.{Outcome}
use Rattle.lvish_trace.specs.declared.outcome.Outcome.TheVariants.{Ended, Error as ErrorOutcome, Budget}
use Rattle.lvish_report.specs.declared.report.FinalState.{FinalState}
use Rattle.lvish_report.specs.declared.report.Report.{Report}
use Rattle.lvish_try.specs.declared.tried.Found.{Found}
use Rattle.lvish_try.specs.declared.tried.Tried.{Tried}
use Rattle.lvish_json.specs.Tried.{event_key, event_number, found_value, tried_value}
use Rattle.lvish_json.specs.Shape.{items_of, members_of, if_any, whole, count, IsLineOf}
use Rattle.lvish_checks.specs.Fault.{fault_number}
use Rattle.lvish_checks.specs.declared.script_fault.ScriptFault.{ScriptFault}
use Rattle.lvish_json.specs.declared.alike.Alike.{Alike}
use Rattle.lvish_json.specs.Answers.{refusal_value, alike_steps, alike_field, check_value}
use Rattle.lvish_json.specs.Content.{entry_value, amount_value, simple_content, pair_content, content}
use Rattle.lvish_json.specs.Report.{state_value, state_values, picks_field, name_value, outcome_error, report_value}

-- the tokens of a value are a line of it
pub line_of : (j : Json) (ts : List Token) (bytes : List ℕ) → ts ≡ json_tokens j → depth j ≤ max_depth → bytes ≡ print ts ++ 10 ∷ [] → tokens (print ts) ≡ ts → IsUtf8 (print ts) → IsLineOf j bytes
line_of j ts bytes same shallow text back utf8 =
    let again : tokens (print (json_tokens j)) ≡ json_tokens j = subst (λ us. tokens (print us) ≡ us) same back in
    record {
      text = text ∙ ap (λ us. print us ++ 10 ∷ []) same;
      reads_back = ap (option_and_then (λ p. if_last p.0 p.1)) (ap (value max_depth) (again ∙ sym (append-nil (json_tokens j))) ∙ value-json_tokens j max_depth [] shallow);
      utf8 = subst (λ us. IsUtf8 (print us)) same utf8;
    }

either_flat : (b : Bool) (s t : List ℕ) → depth (cond b (number s) (string t)) ≤ 0
either_flat true s t = omega arith
either_flat false s t = omega arith

pub whole_flat : (z : ℤ) → depth (whole z) ≤ 0
whole_flat z = either_flat _ _ _

pub count_flat : (n : ℕ) → depth (count n) ≤ 0
count_flat n = whole_flat (pos n)

pub any_within : {X : Type 0} (show : X → Json) (d : ℕ) → ((x : X) → depth (show x) ≤ d) → (o : Option X) → depth (if_any show o) ≤ d
any_within show d h None = omega arith
any_within show d h (Some x) = h x

-- where each value nests no deeper than d, the array of all nests no deeper than d + 1
pub each_within : {X : Type 0} (show : X → Json) (d : ℕ) → ((x : X) → depth (show x) ≤ d) → (xs : List X) → items_depth (items_of (map show xs)) ≤ d
each_within show d h [] = omega arith
each_within show d h (x ∷ xs) = omega (arith, h x, each_within show d h xs)

entry_within : (e : ℤ × Flat ℤ) → depth (entry_value e) ≤ 1
entry_within (k, Value n) = omega (arith, whole_flat k, whole_flat n)
entry_within (k, Bottom) = omega (arith, whole_flat k)

amount_within : (e : ℤ × MaxCounter) → depth (amount_value e) ≤ 1
amount_within e = omega (arith, whole_flat e.0, whole_flat (number_of e.1))

simple_within : (k : SimpleKind) (p : Part) → depth (simple_content k p) ≤ 1
simple_within Cell (part.Cell n) = omega (arith, whole_flat n)
simple_within Cell part.Empty = omega arith
simple_within Cell (part.Set s) = omega arith
simple_within Cell (part.Max c) = omega arith
simple_within Set (part.Set s) = omega (arith, each_within whole 0 whole_flat (elements_of (state_of s)))
simple_within Set part.Empty = omega arith
simple_within Set (part.Cell n) = omega arith
simple_within Set (part.Max c) = omega arith
simple_within Max (part.Max c) = omega (arith, whole_flat (number_of (state_of c)))
simple_within Max part.Empty = omega arith
simple_within Max (part.Cell n) = omega arith
simple_within Max (part.Set s) = omega arith

pair_within : (a b : SimpleKind) (one two : Part) → depth (pair_content a b one two) ≤ 2
pair_within a b one two = omega (arith, simple_within a one, simple_within b two)

content_within : (k : VariableKind) (s : Any) → depth (content k s) ≤ 2
content_within (Simple k) (any.Part p) = omega (arith, simple_within k p)
content_within (Simple k) (any.Map m) = omega (arith, simple_within k part.Empty)
content_within (Simple k) (any.Sides z) = omega (arith, simple_within k part.Empty)
content_within (Simple k) (any.Tally t) = omega (arith, simple_within k part.Empty)
content_within Map (any.Map m) = omega (arith, each_within entry_value 1 entry_within (entries_of (state_of m)))
content_within Map (any.Part p) = omega arith
content_within Map (any.Sides z) = omega arith
content_within Map (any.Tally t) = omega arith
content_within (Pair a b) (any.Sides z) = pair_within a b _ _
content_within (Pair a b) (any.Part p) = pair_within a b part.Empty part.Empty
content_within (Pair a b) (any.Map m) = pair_within a b part.Empty part.Empty
content_within (Pair a b) (any.Tally t) = pair_within a b part.Empty part.Empty
content_within Tally (any.Tally t) = omega (arith, each_within amount_value 1 amount_within (amounts_of (state_of t)))
content_within Tally (any.Part p) = omega arith
content_within Tally (any.Map m) = omega arith
content_within Tally (any.Sides z) = omega arith

state_within : (v : Word × VariableKind) (s : FinalState Any) → depth (state_value v s) ≤ 3
state_within v s = omega (arith, content_within v.1 s.content)

states_within : (vs : List (Word × VariableKind)) (ss : List (FinalState Any)) → items_depth (items_of (state_values vs ss)) ≤ 3
states_within [] ss = omega arith
states_within (v ∷ vs) [] = omega arith
states_within (v ∷ vs) (s ∷ ss) = omega (arith, state_within v s, states_within vs ss)

picks_within : (picks : Option (List ℕ)) → members_depth (members_of (picks_field picks)) ≤ 1
picks_within None = omega arith
picks_within (Some picks) = omega (arith, each_within count 0 count_flat picks)

module _ (variables : List (Word × VariableKind)) where
  name_flat : (v : ℕ) → depth (name_value variables v) ≤ 0
  name_flat v = any_within (λ x. string x.0) 0 (λ x. omega arith) _

  module _ {E : Type 0} (key number : E → ℤ) where
    outcome_within : (o : Outcome E) → depth (outcome_error variables key number o) ≤ 1
    outcome_within Ended = omega arith
    outcome_within (ErrorOutcome kind v t) = omega (arith, any_within (name_value variables) 0 name_flat v)
    outcome_within Budget = omega arith

    pub report_within : (r : Report Any E) (picks : Option (List ℕ)) → depth (report_value variables key number r picks) ≤ 5
    report_within r picks =
        omega (
          arith,
          outcome_within r.outcome,
          count_flat r.steps,
          count_flat r.blocked,
          each_within count 0 count_flat r.by_worker,
          each_within (name_value variables) 0 name_flat r.freezes,
          states_within variables r.states,
          picks_within picks,
        )

pub refusal_within : (e : ScriptFault) → depth (refusal_value e) ≤ 2
refusal_within e = omega (arith, count_flat (fault_number e.fault), count_flat e.line)

alike_within : (a : Option Alike) → members_depth (members_of (alike_field a)) ≤ 1
alike_within None = omega arith
alike_within (Some a) = omega (arith, any_within count 0 count_flat (alike_steps a))

pub check_within : (ends : Option (Option ℕ)) (a : Option Alike) → depth (check_value ends a) ≤ 2
check_within None a = omega (arith, alike_within a)
check_within (Some bound) a = omega (arith, any_within count 0 count_flat bound, alike_within a)

found_within : (variables : List (Word × VariableKind)) (f : Found) → depth (found_value variables f) ≤ 6
found_within variables f = omega (arith, count_flat f.times, report_within variables event_key event_number f.report (Some f.picks))

pub tried_within : (variables : List (Word × VariableKind)) (t : Tried) → depth (tried_value variables t) ≤ 8
tried_within variables t = omega (arith, count_flat t.times, count_flat t.seed, each_within (found_value variables) 6 (found_within variables) t.found)
