use Rattle.std.proofs.Common.{arith, ap, refl, sym, ◌∙◌, slice_set}
use Rattle.std.proofs.lemmas.Option.{slice_get_within}
use Rattle.lvish_core.proofs.Gets.{get_some, got}
use Rattle.lvish_core.proofs.Reading.{pool_here, pool_within}
use Rattle.lvish_core.proofs.beside.hand_at.Goals as goal

pub returns : goal.returns
returns g c = record {
  at = c.index-variables-place.result;
  at_is = get_some c.args.variables.now c.args.place.variable c.index-variables-place.result (slice_get_within _ _ _ c.requires.fits.at_is) c.index-variables-place.is;
  from = _;
  was = (pool_here c.requires.fits.pool c.index-handlers-place.result).0;
  to = c.advance_at.new.self;
  advanced = c.in-Ok.ensures.ok c.args._name.now (c.requires.there _ (pool_here c.requires.fits.pool c.index-handlers-place.result).0);
  is = ap (λ x. slice_set c.args.handlers.now c.args.place.variable x) c.task_started.ensures;
}

pub bounds-variables-place : goal.bounds-variables-place
bounds-variables-place g c = slice_get_within _ _ _ c.requires.fits.at_is

pub bounds-handlers-place : goal.bounds-handlers-place
bounds-handlers-place g c = pool_within c.requires.fits.pool

pub advance_at-requires-clause-there : goal.advance_at-requires-clause-there
advance_at-requires-clause-there g c = (c.args._name.now, c.requires.there _ (pool_here c.requires.fits.pool c.index-handlers-place.result).0)

pub advance_at-requires-clause-within : goal.advance_at-requires-clause-within
advance_at-requires-clause-within g c =
    rw (← (got c.args.variables.now c.args.place.variable c.requires.fits.at c.index-variables-place.result c.requires.fits.at_is ∙ sym c.index-variables-place.is))
    (c.requires.fits.within _ (pool_here c.requires.fits.pool c.index-handlers-place.result).0)

pub task_started-requires-clause-pool_is_there : goal.task_started-requires-clause-pool_is_there
task_started-requires-clause-pool_is_there g c = rw (c.in-Ok.ensures.ok c.args._name.now (c.requires.there _ (pool_here c.requires.fits.pool c.index-handlers-place.result).0)).pools (pool_here c.requires.fits.pool c.index-handlers-place.result).1

pub task_started-requires-clause-few : goal.task_started-requires-clause-few
task_started-requires-clause-few g c = rw (c.in-Ok.ensures.ok c.args._name.now (c.requires.there _ (pool_here c.requires.fits.pool c.index-handlers-place.result).0)).pools (pool_here c.requires.fits.pool c.index-handlers-place.result).2

pub offset_bounds-variables-place : goal.offset_bounds-variables-place
offset_bounds-variables-place g c = omega (arith, slice_get_within c.args.variables.now c.args.place.variable c.requires.fits.at c.requires.fits.at_is)

pub offset_bounds-handlers-place : goal.offset_bounds-handlers-place
offset_bounds-handlers-place g c = omega (arith, pool_within c.requires.fits.pool)

pub unreachable-requires : goal.unreachable-requires
unreachable-requires g c =
    let here = (pool_here c.requires.fits.pool c.index-handlers-place.result).0 in
    let none = (c.in-Err.ensures.nothing c.args._name.now (c.requires.there _ here)).0 refl in
    let same = got c.args.variables.now c.args.place.variable c.requires.fits.at c.index-variables-place.result c.requires.fits.at_is ∙ sym c.index-variables-place.is in
    let some = rw same at (c.requires.fits.next _ here) in
    let z = sym none ∙ some in cc z
