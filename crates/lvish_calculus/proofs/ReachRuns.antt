-- The walk ends with what is reached, by the laws of the least model.
use Rattle.std.proofs.Common.{◌≡◌, inl, inr, ℕ, Bool, true, false, ◌||◌, List, Some, None, refl, sym, ap, subst, Contains}
use Rattle.lvish_lattice.specs.Lattice.{IsAtOrBelow}
use Rattle.lvish_names.specs.Names.{Name, main, handed, is_deep}
use Rattle.lvish_calculus.specs.Machine.{IsLawful, Put, Fork, Add, Freeze, Reply}
use Rattle.lvish_calculus.specs.Calculus.{State, Label, IsEnd}
use Rattle.lvish_calculus.specs.Laws.{Reaches, NeverErrs}
use Rattle.lvish_calculus.specs.LeastModel.{Plays, main_starts, after_put, after_get, after_fork, child_starts, after_add, handler_starts, after_freeze, after_pause, PlaysAgainst, IsMet, IsClosed, frozen_contents}
use Rattle.lvish_calculus.specs.Examples.{Set, numbers, over_sets}
use Rattle.lvish_calculus.specs.ReachExample.{WalkAt, adding_walker, putting_roots, walked, visiting, walk, walk_asks, walk_goes, IsReached, is_root, along_edge, EndsWithReached, HasOnlyReached}
use Rattle.lvish_calculus.proofs.Order.{below_le}
use Rattle.lvish_calculus.proofs.FromTraits.{sets_lawful}
use Rattle.lvish_calculus.proofs.ClosedEnds.{ends_are_closed}
use Rattle.lvish_calculus.proofs.LeastModel.{KeepsSeen, within}
use Rattle.lvish_calculus.proofs.ModelErrors.{closed_never_errs}

module _ (roots : Set) (next : ℕ → Set) where
  pub no_freeze : (l : WalkAt) (v : ℕ) (pools : List ℕ) → walk_asks roots next l ≡ Freeze v pools → ⊥
  no_freeze adding_walker v pools e = cc
  no_freeze l v pools e = cc

  no_fork : (l k : WalkAt) → walk_asks roots next l ≡ Fork k → ⊥
  no_fork adding_walker k e = cc
  no_fork l k e = cc

  adds_known : (l : WalkAt) (p proc : ℕ) → walk_asks roots next l ≡ Add p proc → (v : ℕ) × ((walk roots next).pool_variable p ≡ Some v)
  adds_known adding_walker p proc e = let pp : 0 ≡ p = cc in (0, ap ((walk roots next).pool_variable) (sym pp))
  adds_known l p proc e = absurd (cc e)

  pub lawful : IsLawful (over_sets (walk roots next))
  lawful = sets_lawful (walk roots next) (λ l v pools e. absurd (no_freeze l v pools e)) adds_known

  -- ---- only what is reached

  -- a state with what is reached alone
  abbrev Reached : ℕ → Set → Type 0
  Reached v s = (e : ℕ) → Contains (numbers s) e → IsReached roots next e

  -- a task visits what is reached
  abbrev Visits : WalkAt → Type 0
  Visits (visiting n) = IsReached roots next n
  Visits l = Unit {0}

  goes_on : (l : WalkAt) (r : Reply Set ℕ) → Visits (walk_goes roots next l r)
  goes_on adding_walker r = tt {0}
  goes_on l r = tt {0}

  visits : {t : Name ℕ} {l : WalkAt} {f a : ℕ} → Plays (over_sets (walk roots next)) Reached Reached t l f a → Visits l
  visits main_starts = tt {0}
  visits (after_put {l = l} v d play q) = goes_on l _
  visits (after_get {l = l} v r s x play q seen e) = goes_on l _
  visits (after_fork {l = l} k play q) = goes_on l _
  visits (child_starts {l = l} k play q) = absurd (no_fork l k q)
  visits (after_add {l = l} pool procedure play q) = goes_on l _
  visits (handler_starts pool procedure v s e play q of seen below) = seen e below
  visits (after_freeze {l = l} v pools s play q seen) = goes_on l _
  visits (after_pause {l = l} play q) = goes_on l _

  puts_reached : (l : WalkAt) (v : ℕ) (d : Set) → Visits l → walk_asks roots next l ≡ Put v d → Reached v d
  puts_reached putting_roots v d k q e z = let same : roots ≡ d = cc in is_root e (subst (λ s. Contains (numbers s) e) (sym same) z)
  puts_reached (visiting n) v d k q e z = let same : next n ≡ d = cc in along_edge n e k (subst (λ s. Contains (numbers s) e) (sym same) z)
  puts_reached l v d k q e z = absurd (cc q)

  keeps : KeepsSeen (over_sets (walk roots next)) lawful Reached Reached
  keeps = record {
    bottom = λ v e below. absurd (lawful.events_bottom e below);
    put = λ t l f a v d s u play q seen j e below. elim ((lawful.events_join s d u j e).0 below) [
      | inl h ↦ seen e h
      | inr h ↦ puts_reached l v d (visits play) q e h
    ];
  }

  pub only_reached : HasOnlyReached roots next
  only_reached xs c run n below = (within (over_sets (walk roots next)) lawful Reached Reached keeps c (λ v z seen. seen) xs run).contents 0 n below

  -- ---- all that is reached

  module _ (xs : List (Label ℕ)) (c : State Set ℕ WalkAt) (run : Reaches (over_sets (walk roots next)) xs c) (end : IsEnd (over_sets (walk roots next)) c) where
    at_end : IsClosed (over_sets (walk roots next)) c.content (frozen_contents (over_sets (walk roots next)) c)
    at_end = ends_are_closed (over_sets (walk roots next)) lawful xs c run end (λ t l f a p v pools is q. absurd (no_freeze l v pools q))

    all_reached : (n : ℕ) → IsReached roots next n → Contains (numbers (c.content 0)) n
    all_reached n (is_root m z) = below_le (over_sets (walk roots next)) lawful n roots (c.content 0) (at_end main putting_roots 0 1 (after_add 0 0 main_starts refl)) z
    all_reached n (along_edge k m h z) =
        let visit = handler_starts 0 0 0 (c.content 0) k main_starts refl refl refl (all_reached k h) in
        below_le (over_sets (walk roots next)) lawful n (next k) (c.content 0) (at_end (handed main 1 k) (visiting k) 0 0 visit) z

  pub ends_with_reached : EndsWithReached roots next
  ends_with_reached xs c run end n = (only_reached xs c run n, all_reached xs c run end n)

  -- ---- no run errs, since the greatest contents are closed

  abbrev full : Set
  full = record { has_zero = true; has_one = true; has_three = true }

  absorbs : (b : Bool) → (b || true) ≡ true
  absorbs true = refl
  absorbs false = refl

  has_all : (d : Set) → IsAtOrBelow ((over_sets (walk roots next)).join) d full
  has_all d = λ i. Some (record { has_zero = absorbs d.has_zero i; has_one = absorbs d.has_one i; has_three = absorbs d.has_three i })

  -- main alone adds a handler
  abbrev IsMainAt : Name ℕ → WalkAt → Type 0
  IsMainAt t adding_walker = t ≡ main
  IsMainAt t l = Unit {0}

  later : (t : Name ℕ) (l : WalkAt) (r : Reply Set ℕ) → IsMainAt t (walk_goes roots next l r)
  later t adding_walker r = tt {0}
  later t l r = tt {0}

  main_adds : {t : Name ℕ} {l : WalkAt} {f a : ℕ} → PlaysAgainst (over_sets (walk roots next)) (λ v. full) (λ v. None) t l f a → IsMainAt t l
  main_adds main_starts = refl {0}
  main_adds (after_put {t = t} {l = l} v d play q) = later t l _
  main_adds (after_get {t = t} {l = l} v r s x play q seen e) = later t l _
  main_adds (after_fork {t = t} {l = l} k play q) = later t l _
  main_adds (child_starts {l = l} k play q) = absurd (no_fork l k q)
  main_adds (after_add {t = t} {l = l} pool procedure play q) = later t l _
  main_adds (handler_starts pool procedure v s e play q of seen below) = tt {0}
  main_adds (after_freeze {t = t} {l = l} v pools s play q seen) = later t l _
  main_adds (after_pause {t = t} {l = l} play q) = later t l _

  full_is_met : (t : Name ℕ) (l : WalkAt) → IsMainAt t l → IsMet (over_sets (walk roots next)) (λ v. full) t (walk_asks roots next l)
  full_is_met t adding_walker m = ap is_deep m
  full_is_met t putting_roots m = has_all roots
  full_is_met t (visiting n) m = has_all (next n)
  full_is_met t walked m = tt {0}

  pub never_errs : NeverErrs (over_sets (walk roots next))
  never_errs = closed_never_errs (over_sets (walk roots next)) lawful (λ ls c run t l f a p is v pools q. no_freeze l v pools q) (λ v. full) (λ t l f a play. full_is_met t l (main_adds play))
