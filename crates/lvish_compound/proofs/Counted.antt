-- How many events there are in a counter, and in a map of cells.
use Rattle.std.proofs.Common.{◌≡◌, ℤ, pos, Bool, true, not, List, [], ◌∷◌, length, refl, sym, ◌∙◌, ap, arith, true≢false}
use Rattle.std.proofs.lemmas.List.{length-append, length-map}
use Rattle.std.proofs.lemmas.List.FromFn.{length-map-range_with_len}
use Rattle.lvish_lattice.specs.Ascending.{and_left, and_right}
use Rattle.lvish_lattice.specs.Flat as flat
use Rattle.lvish_lattice.specs.MaxCounter.{level, events_of as levels_of}
use Rattle.lvish_compound.specs.Keyed.{has_no, of_key, events_of}
use Rattle.lvish_compound.specs.Held.{HeldState}
use Rattle.lvish_compound.specs.MapOf as map_of
use Rattle.lvish_compound.specs.Pair.{of_two, sides}
use Rattle.lvish_compound.specs.Parts as parts
use Rattle.lvish_compound.specs.States.{Map}
use Rattle.lvish_compound.specs.Vocabulary.{Flat, Bottom, Value, Part, Max, SideOf}

-- a counter has an event for each number up to its own
pub levels_counted : (s : Part) (x : _) → s ≡ Max x → level x.state ≡ length (parts.events_of s)
levels_counted s x is = sym (ap (λ t. length (parts.events_of t)) is ∙ length-map {B = SideOf ℤ (SideOf ℤ ℤ)} (sides [] (levels_of x.state)) of_two ∙ length-map {B = SideOf ℤ ℤ} (levels_of x.state) of_two ∙ length-map-range_with_len pos 1 (level x.state))

cell_counted : (eq : Flat ℤ → Flat ℤ → Bool) → eq Bottom Bottom ≡ true → (k : ℤ) (v : Flat ℤ) → not (eq v Bottom) ≡ true → length (of_key k (flat.events_of v)) ≡ 1
cell_counted eq same k Bottom h = absurd (true≢false (sym h ∙ ap not same))
cell_counted eq same k (Value n) h = refl

keys_counted : (eq : Flat ℤ → Flat ℤ → Bool) → eq Bottom Bottom ≡ true → (es : List (ℤ × Flat ℤ)) → has_no eq Bottom es ≡ true → length es ≡ length (events_of flat.events_of es)
keys_counted eq same [] h = refl
keys_counted eq same (e ∷ es) h = omega (arith, cell_counted eq same e.0 e.1 (and_left _ _ h), keys_counted eq same es (and_right (not (eq e.1 Bottom)) _ h), length-append (of_key e.0 (flat.events_of e.1)) (events_of flat.events_of es))

-- each key of a map of cells has one event
pub cells_counted : (m : HeldState Map) → length (map_of.entries_of m) ≡ length (map_of.map_events_of m)
cells_counted m = keys_counted (map_of.part_test m) refl m.entries m.above
