-- What wakes a get that waits at a spot, over any machine.
use Rattle.std.proofs.Common.{inl, inr, [], ◌∷◌, ◌++◌, Option, Contains, sym, ap, subst, ◌∙◌, Decides}
use Rattle.std.specs.Set.{is_member}
use Rattle.std.proofs.lemmas.Bool.{both_ways}
use Rattle.std.proofs.lemmas.List.{map-append}
use Rattle.std.proofs.lemmas.Map.Made.{is_member-Decides}
use Rattle.std.proofs.lemmas.List.Elements.{Contains-append_cases}
use Rattle.lvish_lattice.specs.Lattice.{IsWatched}
use Rattle.lvish_calculus.specs.Machine.{Machine, IsLawful}
use Rattle.lvish_variable.specs.declared.entry.Entry.{Entry}
use Rattle.lvish_variable.specs.Variable.{logged}
use Rattle.lvish_core.specs.Changes.{brought}
use Rattle.lvish_core.specs.Core.{state, IsRunTo}
use Rattle.lvish_core.specs.laws.Runs.{content_at}
use Rattle.lvish_core.specs.Spots.{WakesAtItsSpot}

module _ {S E R A L : Type 0} (M : Machine S E R A L) (ok : IsLawful M) where
  member : (s : S) (e : E) → Decides (is_member M.event_same (M.events s) e) (Contains (M.events s) e)
  member s = is_member-Decides (λ a b. ((ok.event_same_is a b).0, (ok.event_same_is a b).1)) (M.events s)

module _ {P S E R A L W : Type 0} (M : Machine S E R A L) (ok : IsLawful M) (spot_of : E → W) (watched : R → Option W) (waits : IsWatched M.event_same M.events spot_of watched M.answer) where
  pub wakes_at_its_spot : WakesAtItsSpot P M spot_of watched
  wakes_at_its_spot c d xs l said run step v x y at_x at_y r w is none a some =
      let b = waits r w is x.state y.state a none some in
      let run_d : IsRunTo M d (xs ++ l ∷ []) = step.leads xs run in
      let there : Contains (M.events y.state) b.event = (member M ok y.state b.event).0 b.there in
      let logged_there : Contains (logged y.log) b.event = ((run_d.logs v y at_y).all b.event).1 (subst (λ s. Contains (M.events s) b.event) (sym (content_at M d v y at_y)) there) in
      let split : Contains (logged x.log ++ logged (brought M (state M c) l v)) b.event = subst (λ es. Contains es b.event) (ap logged (step.logs v x y at_x at_y) ∙ map-append (λ (z : Entry E). z.event) x.log (brought M (state M c) l v)) logged_there in
      elim (Contains-append_cases (logged x.log) (logged (brought M (state M c) l v)) b.event split) [
        | inl old ↦
            let before : Contains (M.events x.state) b.event = subst (λ s. Contains (M.events s) b.event) (content_at M c v x at_x) (((run.logs v x at_x).all b.event).0 old) in
            absurd (both_ways _ b.missing ((member M ok x.state b.event).1 before))
        | inr new ↦ record { event = b.event; there = new; at = b.at }
      ]
