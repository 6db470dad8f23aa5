use Rattle.std.proofs.Common.{Err, refl, sym, ap, ◌∙◌, arith}
use Rattle.std.proofs.lemmas.Bool.{false≢true}
use Rattle.std.proofs.lemmas.Option.{slice_get-get_or, slice_get_within}
use Rattle.lvish_core.proofs.Gets.{got}
use Rattle.lvish_core.proofs.beside.add_at.Goals as goal

pub returns-in-Ok : goal.returns-in-Ok
returns-in-Ok g c = record {
  from = _;
  was = slice_get-get_or c.args.handlers.now c.args.place.variable c.index-handlers-place.result (slice_get_within _ _ _ c.requires.fits.at);
  to = c.add.new.self;
  added = c.in-Ok.ensures.ok;
  is = refl;
}

pub bounds-handlers-place : goal.bounds-handlers-place
bounds-handlers-place g c = slice_get_within _ _ _ c.requires.fits.at

pub add-requires-clause-not_held : goal.add-requires-clause-not_held
add-requires-clause-not_held g c = rw (← got _ _ _ c.index-handlers-place.result c.requires.fits.at) c.requires.fits.fresh

pub add-requires-clause-pool_is_there : goal.add-requires-clause-pool_is_there
add-requires-clause-pool_is_there g c = rw (← got _ _ _ c.index-handlers-place.result c.requires.fits.at) c.requires.fits.there

pub unreachable-requires : goal.unreachable-requires
unreachable-requires g c = false≢true (sym c.requires.unfrozen ∙ c.in-Err-Late.ensures.late.0 (ap Err c.in-Err-Late.field-0-is))

pub offset_bounds-handlers-place : goal.offset_bounds-handlers-place
offset_bounds-handlers-place g c = omega (arith, slice_get_within c.args.handlers.now c.args.place.variable c.requires.fits.beside c.requires.fits.at)
