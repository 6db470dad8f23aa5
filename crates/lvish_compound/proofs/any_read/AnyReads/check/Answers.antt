use Rattle.std.proofs.Common.{sym, subst}
use Rattle.lvish_compound.specs.declared.kind.Kind.{Kind}
use Rattle.lvish_compound.specs.laws.AnyReadLaws.{any_checked}
use Rattle.lvish_compound.specs.AnyReads.{test_of}
use Rattle.lvish_compound.specs.Places.{IsApart}
use Rattle.lvish_compound.proofs.any_read.AnyReads.check.Goals as goal

pub returns : goal.returns
returns c =
    let t = test_of c.args.read.now in
    let k = any_checked c.args.read.now in (
      (λ b. k.0 (subst (λ (l : Kind). IsApart l t) c.kind.ensures (c.is_apart.ensures.0 b))),
      λ h. c.is_apart.ensures.1 (subst (λ (l : Kind). IsApart l t) (sym c.kind.ensures) (k.1 h)),
    )
