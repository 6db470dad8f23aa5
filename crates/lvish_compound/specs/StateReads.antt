-- Reads of a script's variables: the members and the answers.
use Rattle.std.specs.Prelude.{◌≡◌, ℕ, ℤ, pos, cond, nat_eq, Option, Some, None, option_and_then}
use Rattle.std.specs.Set.{is_member}
use Rattle.std.specs.Ordering.{int_eq}
use Rattle.lvish_lattice.specs.GrowSet as grow_set
use Rattle.lvish_lattice.specs.MaxCounter.{number_of}
use Rattle.lvish_compound.specs.Vocabulary.{Kind, Test, Part, Place}
use Rattle.lvish_compound.specs.declared.kind.Kind.TheVariants as kind
use Rattle.lvish_compound.specs.declared.place.Place.TheVariants as place
use Rattle.lvish_compound.specs.MapOf as map_of
use Rattle.lvish_compound.specs.Numbers.{ByNumber, cell_answer, first_that, is_reached}
use Rattle.lvish_compound.specs.Parts.{cell_in, set_in, max_in}
use Rattle.lvish_compound.specs.States.{Any, cell, set, counter, entry, amount, of_tally, side, part_in, map_in, sides_in, tally_in}
use Rattle.lvish_compound.specs.Tally as tally
use Rattle.lvish_compound.specs.declared.tally.Tally as tallies

-- the state that a number stands for, of a kind that a side can have
abbrev pub state_of : Kind → ℤ → Option Any
state_of kind.Cell n = Some (cell n)
state_of kind.Set n = Some (set n)
state_of kind.Max n = counter n
state_of kind.Map n = None
state_of kind.Tally n = None

-- s is a tally of this total
abbrev pub HasTotal : ℤ → Any → Type 0
HasTotal n s = (t : tallies.Tally) × (pos (tally.total t) ≡ n) × (of_tally t ≡ s)

-- s is one of the states that a number stands for at a place
abbrev pub StateAt : Place → ℤ → Any → Type 0
StateAt place.Cell n s = state_of kind.Cell n ≡ Some s
StateAt place.Set n s = state_of kind.Set n ≡ Some s
StateAt place.Max n s = state_of kind.Max n ≡ Some s
StateAt (place.Key k) n s = entry k n ≡ s
StateAt (place.Amount k) n s = amount k n ≡ Some s
StateAt place.Total n s = HasTotal n s
StateAt (place.Side i l) n s = option_and_then (side i) (state_of l n) ≡ Some s

-- the members are the states for which the numbers of the test stand; each answers its number
abbrev pub MemberAt : Place → Test → Any → ℤ → Type 0
MemberAt p t s n = ByNumber t (StateAt p) s n

-- the answer in a part
abbrev pub part_answer : Kind → Test → Part → Option ℤ
part_answer kind.Cell t s = cell_answer t (cell_in s)
part_answer kind.Set t s = first_that (is_member int_eq (grow_set.items_of (set_in s))) t
part_answer kind.Max t s = first_that (is_reached (number_of (max_in s))) t
part_answer kind.Map t s = None
part_answer kind.Tally t s = None

-- the side of this number
abbrev pub side_in : ℕ → Any → Part
side_in i s = cond (nat_eq i 1) (sides_in s).one (sides_in s).two

-- the answer at a place
abbrev pub answer_at : Place → Test → Any → Option ℤ
answer_at place.Cell t s = part_answer kind.Cell t (part_in s)
answer_at place.Set t s = part_answer kind.Set t (part_in s)
answer_at place.Max t s = part_answer kind.Max t (part_in s)
answer_at (place.Key k) t s = cell_answer t (map_of.at (map_in s) k)
answer_at (place.Amount k) t s = first_that (is_reached (number_of (tally.amount (tally_in s) k))) t
answer_at place.Total t s = first_that (is_reached (pos (tally.total (tally_in s)))) t
answer_at (place.Side i l) t s = part_answer l t (side_in i s)
