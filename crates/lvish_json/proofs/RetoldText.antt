-- The text of a report is printed again from what is told of it.
use Rattle.std.proofs.Common.{◌≡◌, ℕ, ℤ, ◌+◌, Bool, true, false, cond, codes, List, [], ◌∷◌, ◌++◌, Option, Some, None, map, flat_map, unwrap_or, option_map, refl, ap, ap₂}
use Rattle.std.specs.Fmt.{digits, signed_decimal}
use Rattle.std.specs.Prelude.{pos, slice_get, if◌then◌else◌, ◌||◌}
use Rattle.json.specs.Json.{Json, number, string, array}
use Rattle.lvish_lattice.specs.declared.flat.Flat.{Flat}
use Rattle.lvish_lattice.specs.declared.flat.Flat.TheVariants.{Bottom, Value}
use Rattle.lvish_lattice.specs.declared.max_counter.MaxCounter.{MaxCounter}
use Rattle.lvish_lattice.specs.MaxCounter.{number_of}
use Rattle.lvish_lattice.specs.GrowSet.{items_of as elements_of}
use Rattle.lvish_compound.specs.declared.any.Any.{Any}
use Rattle.lvish_compound.specs.declared.any.Any.TheVariants as any
use Rattle.lvish_compound.specs.declared.part.Part.{Part}
use Rattle.lvish_compound.specs.declared.part.Part.TheVariants as part
use Rattle.lvish_compound.specs.Above.{state_of}
use Rattle.lvish_compound.specs.MapOf.{entries_of}
use Rattle.lvish_compound.specs.Tally.{entries_of as amounts_of}
use Rattle.lvish_syntax.specs.Words.{Word}
use Rattle.lvish_syntax.specs.declared.kind.SimpleKind.{SimpleKind}
use Rattle.lvish_syntax.specs.declared.kind.SimpleKind.TheVariants.{Cell, Set, Max}
use Rattle.lvish_syntax.specs.declared.kind.VariableKind.{VariableKind}
use Rattle.lvish_syntax.specs.declared.kind.VariableKind.TheVariants.{Simple, Map, Pair, Tally}
use Rattle.lvish_names.specs.Names.{Name}
use Rattle.lvish_names.specs.NameText.{name_text}
use Rattle.lvish_calculus.specs.declared.request.ErrorKind.{ErrorKind}
use Rattle.lvish_trace.specs.declared.outcome.Outcome.{Outcome}
use Rattle.lvish_trace.specs.declared.outcome.Outcome.TheVariants.{Ended, Error as ErrorOutcome, Budget}
use Rattle.lvish_report.specs.declared.report.FinalState.{FinalState}
use Rattle.lvish_report.specs.declared.report.Report.{Report}
use Rattle.lvish_report.specs.StateText.{braced, entry_text, amount_text, simple_text, sides_text, state_text}
use Rattle.lvish_report.specs.Text.{shown_line, variable_lines, count_lines, kind_name, budget_line, error_line, outcome_text, shown_variable}
use Rattle.lvish_json.specs.Shape.{items_of, each, fields, if_any, whole, count}
use Rattle.lvish_json.specs.Content.{entry_value, amount_value, simple_content, kind_text, content}
use Rattle.lvish_json.specs.Report.{outcome_name, state_value, state_values, picks_field, name_value, outcome_error}
use Rattle.lvish_json.specs.Retold.{listed, word, word_or, piece_text, part_text, content_text, line_of_state, retold, AreRetold}

either : (f : Json → List ℕ) (s : List ℕ) → f (number s) ≡ s → f (string s) ≡ s → (b : Bool) → f (cond b (number s) (string s)) ≡ s
either f s as_number as_string true = as_number
either f s as_number as_string false = as_string

-- the digits of a number are there
word_whole : (nothing : List ℕ) (z : ℤ) → word_or nothing (whole z) ≡ signed_decimal z
word_whole nothing z = either (word_or nothing) (signed_decimal z) refl refl _

piece_whole : (z : ℤ) → piece_text (whole z) ≡ signed_decimal z
piece_whole z = either piece_text (signed_decimal z) refl refl _

part_whole : (z : ℤ) → part_text (whole z) ≡ signed_decimal z
part_whole z = either part_text (signed_decimal z) refl refl _

pieces : {X : Type 0} (show : X → Json) (text : X → List ℕ) → ((x : X) → piece_text (show x) ≡ text x) → (xs : List X) → map piece_text (listed (items_of (map show xs))) ≡ map text xs
pieces show text same [] = refl
pieces show text same (x ∷ xs) = ap₂ (λ t ts. t ∷ ts) (same x) (pieces show text same xs)

entry_retold : (e : ℤ × Flat ℤ) → piece_text (entry_value e) ≡ entry_text e
entry_retold (k, Value n) = ap₂ (λ s t. s ++ (codes ":" ++ t)) (word_whole [] k) (word_whole (codes "empty") n)
entry_retold (k, Bottom) = ap (λ s. s ++ codes ":empty") (word_whole [] k)

amount_retold : (e : ℤ × MaxCounter) → piece_text (amount_value e) ≡ amount_text e
amount_retold e = ap₂ (λ s t. s ++ (codes ":" ++ t)) (word_whole [] e.0) (word_whole (codes "empty") (number_of e.1))

-- the digits of 0 are those of a counter that nobody put into
zero_text : part_text (whole (pos 0)) ≡ codes "0"
unfolding digits
zero_text = refl

part_retold : (k : SimpleKind) (p : Part) → part_text (simple_content k p) ≡ simple_text k p
part_retold Cell (part.Cell n) = part_whole n
part_retold Cell part.Empty = refl
part_retold Cell (part.Set s) = refl
part_retold Cell (part.Max c) = refl
part_retold Set (part.Set s) = ap braced (pieces whole signed_decimal piece_whole (elements_of (state_of s)))
part_retold Set part.Empty = refl
part_retold Set (part.Cell n) = refl
part_retold Set (part.Max c) = refl
part_retold Max (part.Max c) = part_whole (number_of (state_of c))
part_retold Max part.Empty = zero_text
part_retold Max (part.Cell n) = zero_text
part_retold Max (part.Set s) = zero_text

simple_retold : (k : SimpleKind) (p : Part) → content_text (kind_text (Simple k)) (simple_content k p) ≡ simple_text k p
simple_retold Cell p = part_retold Cell p
simple_retold Set p = part_retold Set p
simple_retold Max p = part_retold Max p

pair_retold : (a b : SimpleKind) (one two : Part) → sides_text (part_text (simple_content a one)) (part_text (simple_content b two)) ≡ sides_text (simple_text a one) (simple_text b two)
pair_retold a b one two = ap₂ sides_text (part_retold a one) (part_retold b two)

content_retold : (k : VariableKind) (s : Any) → content_text (kind_text k) (content k s) ≡ state_text k s
content_retold (Simple k) (any.Part p) = simple_retold k p
content_retold (Simple k) (any.Map m) = simple_retold k part.Empty
content_retold (Simple k) (any.Sides z) = simple_retold k part.Empty
content_retold (Simple k) (any.Tally t) = simple_retold k part.Empty
content_retold Map (any.Map m) = ap braced (pieces entry_value entry_text entry_retold (entries_of (state_of m)))
content_retold Map (any.Part p) = refl
content_retold Map (any.Sides z) = refl
content_retold Map (any.Tally t) = refl
content_retold (Pair a b) (any.Sides z) = pair_retold a b _ _
content_retold (Pair a b) (any.Part p) = pair_retold a b part.Empty part.Empty
content_retold (Pair a b) (any.Map m) = pair_retold a b part.Empty part.Empty
content_retold (Pair a b) (any.Tally t) = pair_retold a b part.Empty part.Empty
content_retold Tally (any.Tally t) = ap braced (pieces amount_value amount_text amount_retold (amounts_of (state_of t)))
content_retold Tally (any.Part p) = refl
content_retold Tally (any.Map m) = refl
content_retold Tally (any.Sides z) = refl

line_retold : (all : Bool) (v : Word × VariableKind) (s : FinalState Any) → line_of_state all (state_value v s) ≡ shown_line all v s
line_retold all v s = ap (λ t. if all || s.frozen then v.0 ++ (codes " = " ++ (t ++ 10 ∷ [])) else []) (content_retold v.1 s.content)

lines_retold : (all : Bool) (vs : List (Word × VariableKind)) (ss : List (FinalState Any)) → flat_map (line_of_state all) (listed (items_of (state_values vs ss))) ≡ variable_lines all vs ss
lines_retold all [] ss = refl
lines_retold all (v ∷ vs) [] = refl
lines_retold all (v ∷ vs) (s ∷ ss) = ap₂ (λ l ls. l ++ ls) (line_retold all v s) (lines_retold all vs ss)

found_name : (o : Option (Word × VariableKind)) → word_or (codes "-") (if_any (λ x. string x.0) o) ≡ unwrap_or (option_map (λ x. x.0) o) (codes "-")
found_name None = refl
found_name (Some x) = refl

name_retold : (variables : List (Word × VariableKind)) (v : Option ℕ) → word_or (codes "-") (if_any (name_value variables) v) ≡ shown_variable variables v
name_retold variables None = refl
name_retold variables (Some v) = found_name (slice_get variables v)

module _ {E : Type 0} (key number : E → ℤ) (all : Bool) (variables : List (Word × VariableKind)) where
  -- a report, its outcome by itself
  abbrev with_outcome : Report Any E → Outcome E → Option (List ℕ) → Json
  with_outcome r o picks = fields (
      (codes "outcome", string (outcome_name o))
      ∷ (codes "error", outcome_error variables key number o)
      ∷ (codes "steps", count r.steps)
      ∷ (codes "blocked", count r.blocked)
      ∷ (codes "by_worker", each count r.by_worker)
      ∷ (codes "freezes", each (name_value variables) r.freezes)
      ∷ (codes "states", array (items_of (state_values variables r.states)))
      ∷ picks_field picks)

  end_retold : (r : Report Any E) → flat_map (line_of_state all) (listed (items_of (state_values variables r.states))) ++ (codes "steps " ++ (word (count r.steps) ++ (10 ∷ (codes "blocked " ++ (word (count r.blocked) ++ 10 ∷ []))))) ≡ variable_lines all variables r.states ++ count_lines r.steps r.blocked
  end_retold r =
      ap₂ (λ ls t. ls ++ t) (lines_retold all variables r.states)
      (ap₂ (λ s b. codes "steps " ++ (s ++ (10 ∷ (codes "blocked " ++ (b ++ 10 ∷ []))))) (word_whole [] (pos r.steps)) (word_whole [] (pos r.blocked)))

  error_retold : (kind : ErrorKind) (v : Option ℕ) (t : Name E) → codes "error " ++ (kind_name kind ++ (codes " " ++ (word_or (codes "-") (if_any (name_value variables) v) ++ (codes " " ++ (name_text key number t ++ 10 ∷ []))))) ≡ error_line key number variables kind v t
  error_retold kind v t = ap (λ n. codes "error " ++ (kind_name kind ++ (codes " " ++ (n ++ (codes " " ++ (name_text key number t ++ 10 ∷ [])))))) (name_retold variables v)

  budget_retold : (steps : ℕ) → codes "budget " ++ (word (count steps) ++ 10 ∷ []) ≡ budget_line steps
  budget_retold steps = ap (λ s. codes "budget " ++ (s ++ 10 ∷ [])) (word_whole [] (pos steps))

  outcome_retold : (r : Report Any E) (o : Outcome E) (picks : Option (List ℕ)) → retold all (with_outcome r o picks) ≡ outcome_text key number variables r all o
  outcome_retold r Ended None = end_retold r
  outcome_retold r Ended (Some picks) = end_retold r
  outcome_retold r (ErrorOutcome kind v t) None = error_retold kind v t
  outcome_retold r (ErrorOutcome kind v t) (Some picks) = error_retold kind v t
  outcome_retold r Budget None = budget_retold r.steps
  outcome_retold r Budget (Some picks) = budget_retold r.steps

pub reports_retold : {E : Type 0} (key number : E → ℤ) → AreRetold key number
reports_retold keys numbers all variables r picks = outcome_retold keys numbers all variables r r.outcome picks
