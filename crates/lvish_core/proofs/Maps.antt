-- Maps by name, as the lists that they stand for.
use Rattle.std.proofs.Common.{◌≡◌, Bool, true, false, cond, if◌then◌else◌, List, [], ◌∷◌, Option, Some, None, refl, sym, ap, ◌∙◌, Ordering}
use Rattle.std.specs.Map.{lookup, keys_of}
use Rattle.lvish_calculus.specs.Calculus.{Absent}
use Rattle.lvish_names.specs.Names.{Name, same_name, Handler, same_handler}
use Rattle.lvish_core.specs.Vocabulary.{Stage, HandlerPlace}
use Rattle.lvish_core.specs.declared.stage.Stage.TheVariants.{Live as LiveStage, Ended as EndedStage}
use Rattle.lvish_picture.specs.Picture.{task_of}
use Rattle.lvish_core.specs.Tasks.{KeepsIndices, Sets, standing, standing_at, standings, task_names}
use Rattle.std.specs.Ordering.{eq_by_cmp}
use Rattle.std.specs.BTreeMap.{is_at}
use Rattle.lvish_names.specs.NameOrder.{handler_cmp}
use Rattle.lvish_core.specs.Places.{place_at, handlers_of, PlacesAt, SamePlaces}

picks : {X W : Type 0} (found : Option X → W) (b : Bool) (s : Option X) (r : W) (o : Option X) → r ≡ found o → (if b then found s else r) ≡ found (cond b s o)
picks found true s r o e = refl
picks found false s r o e = e

-- ---- stages by name, and tasks

pub names-standings : {E L : Type 0} (es : List (Name E × Stage L)) → task_names (standings es) ≡ keys_of es
names-standings [] = refl
names-standings (e ∷ es) = ap (λ ts. e.0 ∷ ts) (names-standings es)

module _ {E : Type 0} (eq : E → E → Bool) where
  -- a look-up finds the task of the list
  pub task_of-standings : {L : Type 0} (es : List (Name E × Stage L)) (t : Name E) → task_of eq (standings es) t ≡ standing_at (lookup (same_name eq t) es)
  task_of-standings [] t = refl
  task_of-standings (e ∷ es) t = picks standing_at (same_name eq t e.0) (Some e.1) (task_of eq (standings es) t) (lookup (same_name eq t) es) (task_of-standings es t)

  -- what changes a map at one name sets the task under it
  pub sets_by : {L : Type 0} → ((t u : Name E) → same_name eq t u ≡ same_name eq u t) → (es fs : List (Name E × Stage L)) (t : Name E) (s : Stage L)
      → ((q : Name E) → lookup (same_name eq q) fs ≡ cond (same_name eq t q) (Some s) (lookup (same_name eq q) es))
      → KeepsIndices (standings es) (standings fs) → Sets eq (standings es) t (standing s) (standings fs)
  sets_by symm es fs t s h stay = record {
    each = λ u. task_of-standings fs u ∙ ap standing_at (h u)
        ∙ sym (picks standing_at (same_name eq t u) (Some s) (task_of eq (standings es) u) (lookup (same_name eq u) es) (task_of-standings es u))
        ∙ ap (λ b. if b then standing s else task_of eq (standings es) u) (symm t u);
    indices = stay;
  }

  -- a name with a task is in the map
  pub found : {L : Type 0} (es : List (Name E × Stage L)) (t : Name E) → (task_of eq (standings es) t ≡ Absent → ⊥) → lookup (same_name eq t) es ≡ None → ⊥
  found es t some none = some (task_of-standings es t ∙ ap standing_at none)

  -- and a name without one isn't
  pub not_found : {L : Type 0} (es : List (Name E × Stage L)) (t : Name E) → task_of eq (standings es) t ≡ Absent → lookup (same_name eq t) es ≡ None
  not_found {L} es t none = by (lookup (same_name eq t) es) (sym (task_of-standings es t) ∙ none)
    where
      by : (o : Option (Stage L)) → standing_at o ≡ Absent → o ≡ None
      by None e = refl
      by (Some (LiveStage l f a p)) e = absurd (cc e)
      by (Some EndedStage) e = absurd (cc e)

-- ---- places by name

pub names-places : {E : Type 0} (es : List (Handler E × HandlerPlace)) → handlers_of es ≡ keys_of es
names-places [] = refl
names-places (e ∷ es) = ap (λ hs. e.0 ∷ hs) (names-places es)

-- a look-up finds the place of the list
pub place_at-lookup : {E : Type 0} (eq : E → E → Bool) (cmp : E → E → Ordering) → ((h g : Handler E) → same_handler eq h g ≡ eq_by_cmp (handler_cmp cmp) h g)
    → (es : List (Handler E × HandlerPlace)) (h : Handler E) → place_at eq es h ≡ lookup (is_at (handler_cmp cmp h)) es
place_at-lookup eq cmp ties [] h = refl
place_at-lookup eq cmp ties (e ∷ es) h =
    ap (λ b. if b then Some e.1 else place_at eq es h) (ties h e.0)
    ∙ ap (λ o. if is_at (handler_cmp cmp h) e.0 then Some e.1 else o) (place_at-lookup eq cmp ties es h)

module _ {E : Type 0} (eq : E → E → Bool) (cmp : E → E → Ordering) (ties : (h k : Handler E) → same_handler eq h k ≡ eq_by_cmp (handler_cmp cmp) h k) where
  -- what changes a map at one name changes the place under it
  pub places_by : ((h k : Handler E) → same_handler eq h k ≡ same_handler eq k h) → (es fs : List (Handler E × HandlerPlace)) (h : Handler E) (p : Option HandlerPlace)
      → ((q : Handler E) → lookup (is_at (handler_cmp cmp q)) fs ≡ cond (is_at (handler_cmp cmp h) q) p (lookup (is_at (handler_cmp cmp q)) es))
      → PlacesAt eq es h p fs
  places_by symm es fs h p f = record {
    each = λ k. place_at-lookup eq cmp ties fs k ∙ f k
        ∙ sym (picks (λ o. o) (is_at (handler_cmp cmp h) k) p (place_at eq es k) (lookup (is_at (handler_cmp cmp k)) es) (place_at-lookup eq cmp ties es k))
        ∙ ap (λ b. if b then p else place_at eq es k) (sym (ties h k) ∙ symm h k);
  }

-- a place that is put under a new name and taken out again
pub in_and_out : {E : Type 0} (eq : E → E → Bool) (same : (h k : Handler E) → same_handler eq h k ≡ true → h ≡ k) (old mid new : List (Handler E × HandlerPlace)) (h g k : Handler E) (p : HandlerPlace) → g ≡ h → k ≡ h → place_at eq old h ≡ None
    → PlacesAt eq old g (Some p) mid → PlacesAt eq mid k None new → SamePlaces eq old new
in_and_out {E} eq same old mid new h g k p gh kh none into out = record { same = λ q. each q (same_handler eq q h) refl }
  where
    each : (q : Handler E) (b : Bool) → same_handler eq q h ≡ b → place_at eq new q ≡ place_at eq old q
    each q true e = out.each q ∙ ap (λ (z : Handler E). if same_handler eq q z then None else place_at eq mid q) kh ∙ ap (λ b. if b then None else place_at eq mid q) e
        ∙ sym (ap (place_at eq old) (same q h e) ∙ none)
    each q false e = out.each q ∙ ap (λ (z : Handler E). if same_handler eq q z then None else place_at eq mid q) kh ∙ ap (λ b. if b then None else place_at eq mid q) e
        ∙ into.each q ∙ ap (λ (z : Handler E). if same_handler eq q z then Some p else place_at eq old q) gh ∙ ap (λ b. if b then Some p else place_at eq old q) e
