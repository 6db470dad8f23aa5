-- The reads of gets are checked.
use Rattle.std.proofs.Common.{◌≡◌, ℕ, ℤ, Bool, true, false, List, [], ◌∷◌, Some, refl, sym, ◌∙◌, ap, subst, arith, Contains}
use Rattle.std.specs.List.{list_all}
use Rattle.std.specs.Ordering.{int_eq}
use Rattle.std.specs.Cmp.{int_eq_equiv}
use Rattle.std.proofs.lemmas.Bool.{and_parts, and_from}
use Rattle.std.proofs.lemmas.List.Sums.{AllPass-from_list_all}
use Rattle.lvish_lattice.specs.Lattice.{IsChecked}
use Rattle.lvish_lattice.specs.Plain.{int_identical}
use Rattle.lvish_task.specs.Vocabulary.{AnyRead, Test, Place, SimpleKind, Cell, Set, Max, Target, First, Second, Wanted}
use Rattle.lvish_compound.specs.Places.{test_fits, kind_read_at, IsApart}
use Rattle.lvish_compound.specs.AnyReads.{Member}
use Rattle.lvish_compound.specs.laws.AnyReadLaws.{any_checked}
use Rattle.lvish_compound.specs.States.{joined}
use Rattle.lvish_syntax.specs.Sound.{are_one}
use Rattle.lvish_code.specs.declared.target.Target.TheVariants as target
use Rattle.lvish_code.specs.declared.wanted.Wanted.TheVariants as wanted
use Rattle.lvish_code.specs.Sound.{is_wanted_of, is_wanted_sound, target_kind}
use Rattle.lvish_task.specs.States.{read_by, read_at}
use Rattle.lvish_task.specs.Meaning.{kind_meant}
use Rattle.lvish_task.specs.Run.{target_place, wanted_test}

-- each element of a list passes a test that all pass
pub passes : {X : Type 0} (p : X → Bool) (xs : List X) → list_all p xs ≡ true → (x : X) → Contains xs x → p x ≡ true
passes p xs e x (k, w, is) = ap p (sym is) ∙ AllPass-from_list_all p xs e k _ w

pub one : (zs : List ℤ) → are_one zs ≡ true → (m n : ℤ) → Contains zs m → Contains zs n → m ≡ n
one [] e m n (k, w, is) there = absurd (omega arith)
one (z ∷ zs) e m n h k =
    let all : list_all (int_eq z) (z ∷ zs) ≡ true = and_from _ _ (int_eq_equiv.refl z) e in
    sym (int_identical z m (passes (int_eq z) (z ∷ zs) all m h)) ∙ int_identical z n (passes (int_eq z) (z ∷ zs) all n k)

read_is : (p : Place) (t : Test) (b : Bool) (e : test_fits p t ≡ b) (r : AnyRead) → read_by p t b e ≡ Some r → (r.place ≡ p) × (r.test ≡ t)
read_is p t true e r h =
    let same : record { place = p; test = t; fits = e } ≡ r = cc in
    (ap (λ q. q.place) (sym same), ap (λ q. q.test) (sym same))
read_is p t false e r h = absurd cc

-- the read of a place by a test that is apart there is checked
pub read_checked : (p : Place) (t : Test) (r : AnyRead) → read_at p t ≡ Some r → IsApart (kind_read_at p) t → IsChecked joined (Member r)
unfolding read_at
read_checked p t r e h =
    let is = read_is p t (test_fits p t) refl r e in
    (any_checked r).0 (subst (λ q. IsApart (kind_read_at q) r.test) (sym is.0) (subst (λ u. IsApart (kind_read_at p) u) (sym is.1) h))

apart_kind : (values : List ℤ) (k : SimpleKind) (n : ℕ) (w : Wanted) → is_wanted_of k n w ≡ true → IsApart (kind_meant k) (wanted_test values w)
apart_kind values Set n (wanted.In zs) e = one zs e
apart_kind values Max n (wanted.In zs) e = one zs (and_parts _ _ e).1
apart_kind values Cell n w e = tt
apart_kind values k n (wanted.At a) e = tt
apart_kind values k n wanted.Any e = absurd cc

-- a test that code has at a target is apart there
pub apart_at : (values : List ℤ) (t : Target) (n : ℕ) (w : Wanted) → is_wanted_sound (target_kind t) n w ≡ true → IsApart (kind_read_at (target_place values t)) (wanted_test values w)
apart_at values (target.Whole Cell) n w e = apart_kind values Cell n w e
apart_at values (target.Whole Set) n w e = apart_kind values Set n w e
apart_at values (target.Whole Max) n w e = apart_kind values Max n w e
apart_at values (target.Entry a) n w e = tt
apart_at values (target.Side First k) n w e = apart_kind values k n w e
apart_at values (target.Side Second k) n w e = apart_kind values k n w e
apart_at values (target.Amount a) n w e = apart_kind values Max n w e
apart_at values target.Total n (wanted.At a) e = tt
apart_at values target.Total n w e = absurd cc
