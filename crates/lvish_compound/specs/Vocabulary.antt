-- The words of the crate's types and of those below it, for one `use` line.
pub use Rattle.std.specs.declared.cmp.Ordering.{Ordering}
pub use Rattle.std.specs.declared.cmp.Ordering.TheVariants.{Less, Equal, Greater}
pub use Rattle.std.specs.declared.cmp.Ord.{Ghosts as OrdGhosts}
pub use Rattle.std.specs.declared.cmp.PartialEq.{Ghosts as PartialEqGhosts}
pub use Rattle.std.specs.declared.cmp.PartialOrd.{Ghosts as PartialOrdGhosts}
pub use Rattle.std.specs.declared.hash.Hash.{Ghosts as HashGhosts}
pub use Rattle.lvish_lattice.specs.declared.lattice.Lattice.{Ghosts as LatticeGhosts}
pub use Rattle.lvish_lattice.specs.declared.flat.Flat.{Flat}
pub use Rattle.lvish_lattice.specs.declared.flat.Flat.TheVariants.{Bottom, Value}
pub use Rattle.lvish_lattice.specs.declared.max_counter.MaxCounter.{MaxCounter}
pub use Rattle.lvish_base.specs.declared.limits.TheConstants.{HIGHEST_LEVEL}
pub use Rattle.lvish_compound.specs.declared.limits.TheConstants.{HIGHEST_TOTAL}
pub use Rattle.lvish_compound.specs.declared.key.Key.{Ghosts as KeyGhosts}
pub use Rattle.lvish_compound.specs.declared.above.Above.{Above}
pub use Rattle.lvish_compound.specs.declared.side_of.SideOf.{SideOf}
pub use Rattle.lvish_compound.specs.declared.side_of.SideOf.TheVariants.{One, Two}
pub use Rattle.lvish_compound.specs.declared.pair.Pair.{Pair}
pub use Rattle.lvish_compound.specs.declared.part.Part.{Part}
pub use Rattle.lvish_compound.specs.declared.part.Part.TheVariants.{Empty, Cell, Set, Max}
pub use Rattle.lvish_compound.specs.declared.kind.Kind.{Kind}
pub use Rattle.lvish_compound.specs.declared.event.Event.{Event}
pub use Rattle.lvish_compound.specs.declared.place.Place.{Place}
pub use Rattle.lvish_compound.specs.declared.number_test.Test.{Test}
