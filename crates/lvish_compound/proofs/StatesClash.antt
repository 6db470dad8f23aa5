-- Where the states of a script's variables clash.
use Rattle.std.proofs.Common.{◌≡◌, ◌≢◌, ◌↔◌, ℤ, Bool, true, false, cond, Option, Some, None, option_map, refl, sym, ◌∙◌, ap, true≢false}
use Rattle.std.proofs.lemmas.Cmp.{int_cmp_total, int_eq_equiv}
use Rattle.std.specs.Ordering.{int_eq}
use Rattle.lvish_lattice.specs.Plain.{int_identical}
use Rattle.lvish_lattice.specs.Top.{IsTopWhere, TwoValues}
use Rattle.lvish_compound.specs.Vocabulary.{Value, Empty, Cell, Set, Max}
use Rattle.lvish_compound.specs.declared.part.Part as part
use Rattle.lvish_compound.specs.Clashes.{AtSomeKey, PartsClash, Clash}
use Rattle.lvish_compound.specs.Held.{HeldState, held}
use Rattle.lvish_compound.specs.MapOf as map_of
use Rattle.lvish_compound.specs.Parts as parts
use Rattle.lvish_compound.specs.States.{Part, Map, Sides, Tally, Any, nothing, of_map, of_pair, of_tally, unless_part, joined}
use Rattle.lvish_lattice.specs.laws.MembersLaws.{never_top}
use Rattle.lvish_compound.specs.laws.TallyLaws.{tallies_top}
use Rattle.lvish_compound.proofs.Clashes.{pairs_clash}

mapped_top : {A B : Type 0} (f : A → B) (r : Option A) → (option_map f r ≡ None) ↔ (r ≡ None)
mapped_top f None = (λ _. refl, λ _. refl)
mapped_top f (Some a) = (λ h. absurd cc, λ h. absurd cc)

cells_by : (t : Bool) (m n : ℤ) → int_eq m n ≡ t → (option_map parts.of_cell (cond t (Some (Value m)) None) ≡ None) ↔ (m ≢ n)
cells_by true m n e = (λ h. absurd cc, λ d. absurd (d (int_identical m n e)))
cells_by false m n e = (λ _ s. true≢false (sym (int_eq_equiv.refl m) ∙ ap (int_eq m) s ∙ e), λ _. refl)

pub parts_top : IsTopWhere parts.joined PartsClash
parts_top Empty t = (λ h. absurd cc, λ w. absurd (w.0 refl))
parts_top s Empty = (λ h. absurd cc, λ w. absurd (w.1 refl))
parts_top (Cell m) (Cell n) = cells_by (int_eq m n) m n refl
parts_top (Set x) (Set y) = (λ h. never_top int_cmp_total x.state y.state ((mapped_top (held Set Empty) _).0 h), λ w. absurd w)
parts_top (Max x) (Max y) = (λ h. absurd cc, λ w. absurd w)
parts_top s t = (λ _. (λ e. absurd cc, λ e. absurd cc), λ _. refl)

-- a part and a state of another kind
unless_top : (s : part.Part) (t : Any) → (unless_part s t ≡ None) ↔ (Part s ≢ nothing)
unless_top Empty t = (λ h. absurd cc, λ w. absurd (w refl))
unless_top s t = (λ _ e. absurd cc, λ _. refl)

part_first : (s : part.Part) (t : Any) → t ≢ nothing → (unless_part s t ≡ None) ↔ ((Part s ≢ nothing) × (t ≢ nothing))
part_first s t d = let u = unless_top s t in (λ h. (u.0 h, d), λ w. u.1 w.0)

part_second : (s : part.Part) (t : Any) → t ≢ nothing → (unless_part s t ≡ None) ↔ ((t ≢ nothing) × (Part s ≢ nothing))
part_second s t d = let u = unless_top s t in (λ h. (d, u.0 h), λ w. u.1 w.1)

module _ (maps : (x y : HeldState Map) → (map_of.joined x y ≡ None) ↔ AtSomeKey TwoValues x y) where
  pub states_top : IsTopWhere joined Clash
  states_top (Part s) (Part t) = let p = parts_top s t in (λ h. p.0 ((mapped_top Part _).0 h), λ w. (mapped_top Part _).1 (p.1 w))
  states_top (Map x) (Map y) = let p = maps x.state y.state in (λ h. p.0 ((mapped_top of_map _).0 h), λ w. (mapped_top of_map _).1 (p.1 w))
  states_top (Sides x) (Sides z) = let p = pairs_clash parts_top parts_top x.pair z.pair in (λ h. p.0 ((mapped_top of_pair _).0 h), λ w. (mapped_top of_pair _).1 (p.1 w))
  states_top (Tally x) (Tally y) = let p = tallies_top x.state y.state in (λ h. p.0 ((mapped_top of_tally _).0 h), λ w. (mapped_top of_tally _).1 (p.1 w))
  states_top (Part s) t = part_first s t (λ e. absurd cc)
  states_top s (Part t) = part_second t s (λ e. absurd cc)
  states_top s t = (λ _. (λ e. absurd cc, λ e. absurd cc), λ _. refl)
