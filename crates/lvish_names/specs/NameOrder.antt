-- The order of names: part by part from main, a prefix first.
use Rattle.std.specs.Prelude.{Bool, false, ◌&&◌, reverse, nat_eq}
use Rattle.std.specs.declared.cmp.Ordering.{Ordering}
use Rattle.std.specs.declared.cmp.Ordering.TheVariants.{Less, Greater}
use Rattle.std.specs.Ordering.{nat_cmp, ordering_then}
use Rattle.std.specs.Cmp.Lexicographic.{slice_cmp}
use Rattle.lvish_names.specs.declared.name_part.NamePart.{NamePart}
use Rattle.lvish_names.specs.declared.name_part.NamePart.TheVariants.{Fork, Hand}
use Rattle.lvish_names.specs.Names.{Name, Handler}

-- whether two parts are the same
abbrev pub part_eq : {E : Type 0} → (E → E → Bool) → NamePart E → NamePart E → Bool
part_eq eq (Fork i) (Fork k) = nat_eq i k
part_eq eq (Fork i) (Hand k f) = false
part_eq eq (Hand i e) (Fork k) = false
part_eq eq (Hand i e) (Hand k f) = nat_eq i k && eq e f

-- a fork before what a handler is handed; forks by their number, and the rest by the handler's number and then by the event
abbrev pub part_cmp : {E : Type 0} → (E → E → Ordering) → NamePart E → NamePart E → Ordering
part_cmp cmp (Fork i) (Fork k) = nat_cmp i k
part_cmp cmp (Fork i) (Hand k f) = Less
part_cmp cmp (Hand i e) (Fork k) = Greater
part_cmp cmp (Hand i e) (Hand k f) = ordering_then (nat_cmp i k) (cmp e f)

-- part by part from main, a prefix first
abbrev pub name_cmp : {E : Type 0} → (E → E → Ordering) → Name E → Name E → Ordering
name_cmp cmp t u = slice_cmp (part_cmp cmp) (reverse t) (reverse u)

-- by the adder, and then by the number
abbrev pub handler_cmp : {E : Type 0} → (E → E → Ordering) → Handler E → Handler E → Ordering
handler_cmp cmp h k = ordering_then (name_cmp cmp h.adder k.adder) (nat_cmp h.number k.number)
