-- The read of a place by a test.
use Rattle.std.proofs.Common.{◌≡◌, Bool, true, false, Some, None, refl, sym, ◌∙◌, ap}
use Rattle.std.proofs.Math.Bool.{Bool-set}
use Rattle.lvish_compound.specs.Places.{test_fits}
use Rattle.lvish_task.specs.States.{read_by, read_at}
use Rattle.lvish_task.specs.Vocabulary.{Place, Test, AnyRead}

by_true : (r : AnyRead) (b : Bool) (e : test_fits r.place r.test ≡ b) → b ≡ true → Some r ≡ read_by r.place r.test b e
by_true r true e h = let same = Bool-set (test_fits r.place r.test) true r.fits e in λ i. Some (record { place = r.place; test = r.test; fits = same i })
by_true r false e h = absurd cc

by_false : (p : Place) (t : Test) (b : Bool) (e : test_fits p t ≡ b) → b ≡ false → None ≡ read_by p t b e
by_false p t true e h = absurd cc
by_false p t false e h = refl

pub read_found : (p : Place) (t : Test) (r : AnyRead) → r.place ≡ p → r.test ≡ t → Some r ≡ read_at p t
unfolding read_at
read_found p t r e f =
    by_true r (test_fits r.place r.test) refl r.fits ∙ ap (λ q. read_by q r.test (test_fits q r.test) refl) e ∙ ap (λ u. read_by p u (test_fits p u) refl) f

untrue : (b : Bool) → (b ≡ true → false ≡ true) → b ≡ false
untrue true h = sym (h refl)
untrue false h = refl

pub read_refused : (p : Place) (t : Test) → (test_fits p t ≡ true → false ≡ true) → None ≡ read_at p t
unfolding read_at
read_refused p t h = by_false p t (test_fits p t) refl (untrue (test_fits p t) h)
