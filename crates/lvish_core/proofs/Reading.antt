-- The count of a pool beside a variable, read at its place.
use Rattle.std.proofs.Common.{◌≡◌, ◌<◌, ℕ, List, Some, length, get_or, slice_get, slice_index, subst}
use Rattle.std.proofs.lemmas.Option.{slice_get-get_or, slice_get_within}
use Rattle.lvish_handlers.specs.Handlers.{HandlersView as Handlers}
use Rattle.lvish_core.specs.Beside.{IsPoolAt}
use Rattle.lvish_core.specs.Vocabulary.{HandlerPlace}
use Rattle.lvish_core.proofs.Gets.{got}

module _ {E : Type 0} {Fits : ℕ → Type 0} {hss : List (Handlers E)} {p : HandlerPlace} (pool : IsPoolAt Fits hss p) where
  pub pool_within : p.variable < length hss
  pool_within = slice_get_within hss p.variable pool.beside pool.at

  -- the handlers that are read there are those, the pool is there, and its number of tasks fits
  pub pool_here : (d : Handlers E) → (slice_get hss p.variable ≡ Some (get_or hss p.variable d)) × (p.pool < length (get_or hss p.variable d).running) × Fits (slice_index (get_or hss p.variable d).running p.pool)
  pool_here d = (
    slice_get-get_or hss p.variable d pool_within,
    subst (λ (hs : Handlers E). p.pool < length hs.running) (got hss p.variable pool.beside d pool.at) pool.there,
    subst (λ (hs : Handlers E). Fits (slice_index hs.running p.pool)) (got hss p.variable pool.beside d pool.at) pool.fits,
  )
