-- Where in a variable puts and gets are, in the statements and in the code.
use Rattle.std.proofs.Common.{◌≡◌, ℤ, pos, Bool, true, false, Option, Some, None, refl, sym, ap}
use Rattle.std.specs.Prelude.{if◌then◌else◌, option_and_then, is_some}
use Rattle.std.specs.Option.{option_map_or}
use Rattle.std.specs.Ordering.{int_eq}
use Rattle.lvish_compound.specs.declared.place.Place.TheVariants as place
use Rattle.lvish_syntax.specs.Sound.{kind_at, is_of_kind, is_read_of}
use Rattle.lvish_syntax.specs.Sound.{side_kind as kind_of_side}
use Rattle.lvish_task.specs.Vocabulary.{SimpleKind, VariableKind, Simple, Map, Pair, Tally, Term, Threshold, First, Second}
use Rattle.lvish_syntax.specs.declared.term.Term.TheVariants.{Number}
use Rattle.lvish_code.specs.declared.target.Target.TheVariants as target
use Rattle.lvish_code.specs.Compile.{Names, operand_of, whole_of, side_of, part_of}
use Rattle.lvish_task.specs.Meaning.{Valuation, term_value, kind_meant, place_meant}
use Rattle.lvish_task.specs.Run.{operand_value, target_place}

abbrev Fitted : Option VariableKind → Option Term → Type 0
Fitted o at = is_some (option_map_or (λ k. kind_at k at) o None) ≡ true

pub whole_alike : (values : _) (o : Option VariableKind) → Fitted o None → option_and_then (λ k. place_meant k None) o ≡ Some (target_place values (whole_of o))
whole_alike values (Some (Simple k)) e = refl
whole_alike values o e = absurd cc

-- what a get waits for is read of a variable of this kind
abbrev Got : Option VariableKind → Option Term → Threshold → Type 0
Got o at r = option_map_or (λ k. is_read_of k at r) o false ≡ true

pub whole_got : (values : _) (o : Option VariableKind) (r : Threshold) → Got o None r → option_and_then (λ k. place_meant k None) o ≡ Some (target_place values (whole_of o))
whole_got values (Some (Simple k)) r e = refl
whole_got values (Some Tally) r e = refl
whole_got values o r e = absurd cc

side_alike : (values : _) (a b : SimpleKind) (z : ℤ) → is_some (kind_of_side a b (Number z)) ≡ true → place_meant (Pair a b) (Some z) ≡ Some (target_place values (side_of a b (Number z)))
side_alike values a b z e = by (int_eq z (pos 1)) (int_eq z (pos 2)) e
  where
    by : (s t : Bool) → is_some (if s then Some a else if t then Some b else None) ≡ true → (if s then Some (place.Side 1 (kind_meant a)) else if t then Some (place.Side 2 (kind_meant b)) else None) ≡ Some (target_place values (if s then target.Side First a else target.Side Second b))
    by true t e = refl
    by false true e = refl
    by false false e = absurd cc

pub part_alike : (names : Names) (values : _) (f : Valuation) (o : Option VariableKind) (t : Term) → operand_value values (operand_of names t) ≡ term_value f t → Fitted o (Some t) → option_and_then (λ k. place_meant k (Some (term_value f t))) o ≡ Some (target_place values (part_of names o t))
part_alike names values f (Some Map) t h e = ap (λ n. Some (place.Key n)) (sym h)
part_alike names values f (Some (Pair a b)) (Number z) h e = side_alike values a b z e
part_alike names values f (Some Tally) t h e = ap (λ n. Some (place.Amount n)) (sym h)
part_alike names values f o t h e = absurd cc

-- what is got at a place is there
there : (r : Threshold) (o : Option SimpleKind) → option_map_or (λ k. is_of_kind k r) o false ≡ true → is_some o ≡ true
there r None e = absurd cc
there r (Some k) e = refl

got_there : (o : Option VariableKind) (t : Term) (r : Threshold) → Got o (Some t) r → Fitted o (Some t)
got_there None t r e = absurd cc
got_there (Some k) t r e = there r (kind_at k (Some t)) e

pub part_got : (names : Names) (values : _) (f : Valuation) (o : Option VariableKind) (t : Term) (r : Threshold) → operand_value values (operand_of names t) ≡ term_value f t → Got o (Some t) r → option_and_then (λ k. place_meant k (Some (term_value f t))) o ≡ Some (target_place values (part_of names o t))
part_got names values f o t r h e = part_alike names values f o t h (got_there o t r e)
