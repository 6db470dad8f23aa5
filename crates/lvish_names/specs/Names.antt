-- Names of tasks and handlers, as paths from main.
use Rattle.std.specs.Prelude.{ℕ, suc, Bool, true, false, ◌&&◌, List, [], ◌∷◌, Option, Some, None, nat_eq, nat_le}
use Rattle.lvish_names.specs.declared.name_part.NamePart.{NamePart}
use Rattle.lvish_names.specs.declared.name_part.NamePart.TheVariants.{Fork as ForkPart, Hand as HandPart}
use Rattle.lvish_names.specs.declared.limits.TheConstants.{MOST_PARTS}

-- a task's name is its parts after main, the last one first
abbrev pub Name : Type 0 → Type 0
Name E = List (NamePart E)

pattern abbrev pub main : {E : Type 0} → Name E
main = []

-- the i-th task that t forked
pattern abbrev pub forked : {E : Type 0} → Name E → ℕ → Name E
forked t i = ForkPart i ∷ t

-- the task that handles e for the j-th handler that t added
pattern abbrev pub handed : {E : Type 0} → Name E → ℕ → E → Name E
handed t j e = HandPart j e ∷ t

-- a handler's name is the task that added it, and the number of this handler among those that the task added
pub record Handler (E : Type 0) : Type 0 where
  pub adder : Name E
  pub number : ℕ

-- the number of parts after main
abbrev pub part_count : {E : Type 0} → Name E → ℕ
part_count main = 0
part_count (forked t i) = suc (part_count t)
part_count (handed t j e) = suc (part_count t)

-- a name of 64 parts, which no part may be added to
abbrev pub is_deep : {E : Type 0} → Name E → Bool
is_deep t = nat_le MOST_PARTS (part_count t)

-- the handler of the last Hand part, in whose pool the task runs
abbrev pub handler_of : {E : Type 0} → Name E → Option (Handler E)
handler_of main = None
handler_of (forked t i) = handler_of t
handler_of (handed t j e) = Some (record { adder = t; number = j })

-- whether two names are the same
abbrev pub same_name : {E : Type 0} → (E → E → Bool) → Name E → Name E → Bool
same_name eq main main = true
same_name eq (forked t i) (forked u k) = nat_eq i k && same_name eq t u
same_name eq (handed t i e) (handed u k f) = nat_eq i k && (eq e f && same_name eq t u)
same_name eq _ _ = false

abbrev pub same_handler : {E : Type 0} → (E → E → Bool) → Handler E → Handler E → Bool
same_handler eq h k = nat_eq h.number k.number && same_name eq h.adder k.adder
