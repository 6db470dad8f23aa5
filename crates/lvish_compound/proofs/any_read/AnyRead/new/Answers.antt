use Rattle.std.proofs.Common.{refl, sym, ◌∙◌}
use Rattle.lvish_compound.proofs.Refused.{refused_where}
use Rattle.lvish_compound.proofs.any_read.AnyRead.new.Goals as goal

pub returns-then-not-fits-clause-refused : goal.returns-then-not-fits-clause-refused
returns-then-not-fits-clause-refused c = (λ _. (refused_where c.args.place c.args.test).0 (sym c.fits.ensures ∙ c.if-not-fits.true), λ _. refl)
