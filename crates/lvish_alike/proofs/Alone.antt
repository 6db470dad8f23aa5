-- Whether only main freezes, and nobody names it, from marks of the routines that can run.
use Rattle.std.proofs.Common.{◌≡◌, ◌↔◌, inl, inr, ℕ, ◌<◌, Bool, true, false, List, Option, Some, None, length, get_or, set, refl, sym, subst, ◌∙◌}
use Rattle.std.specs.Prelude.{not, is_some, IfSome, IfNone}
use Rattle.std.specs.List.{slice_get}
use Rattle.std.proofs.lemmas.Bool.{both_ways, cases_eq, not-true, not-false}
use Rattle.std.proofs.lemmas.Option.{slice_get_within}
use Rattle.std.proofs.lemmas.List.{length-set, get_or-set_same, get_or-set_other}
use Rattle.lvish_code.specs.declared.routine.Routine.{Routine}
use Rattle.lvish_alike.specs.declared.link.Link.TheVariants as link
use Rattle.lvish_alike.specs.declared.sought.Sought.TheVariants as sought
use Rattle.lvish_alike.specs.Sought.{instruction_names, instruction_freezes, IsFound, IsNowhere, AreReached}
use Rattle.lvish_alike.specs.Parts.{OnlyMainFreezes, NobodyNamesMain, IsMainAlone}
use Rattle.lvish_alike.proofs.Marks.{marked_at, marked_is, given_within, freeze_is, freeze_not, linked_is, linked_not}

module _ (marks : List Bool) (place : ℕ) where
  -- the other marks stay set
  marked_other : (k : ℕ) → (k ≡ place → ⊥) → slice_get marks k ≡ Some true → slice_get (set marks place false) k ≡ Some true
  marked_other k ne h = marked_at (set marks place false) k (length marks) (length-set marks place false) (slice_get_within marks k true h) (get_or-set_other marks place k false false ne ∙ marked_is marks k h)

  -- and this one isn't
  other_marked : (k : ℕ) → slice_get (set marks place false) k ≡ Some true → (k ≡ place → ⊥) × (slice_get marks k ≡ Some true)
  other_marked k h =
      let lt : k < length marks = subst (λ n. k < n) (length-set marks place false) (slice_get_within (set marks place false) k true h) in
      let ne : k ≡ place → ⊥ = λ same. both_ways _ (subst (λ j. get_or (set marks j false) k false ≡ false) same (get_or-set_same marks k false false lt)) (marked_is (set marks place false) k h) in
      (ne, marked_at marks k (length marks) refl lt (sym (get_or-set_other marks place k false false ne) ∙ marked_is (set marks place false) k h))

module _ (routines : List Routine) (main : ℕ) (can : List Bool) (reached : AreReached instruction_names routines main can) where
  pub only_main : IsNowhere routines (set can main false) (sought.Frozen None) → OnlyMainFreezes main routines
  only_main nowhere k v runs a = elim (cases_eq k main) [
    | inl same ↦ same
    | inr ne ↦
        let there = (reached.each k).1 (given_within instruction_freezes routines k v a, runs) in
        absurd (freeze_not routines (set can main false) v nowhere (k, marked_other can main k ne there, a))
  ]

  pub another_freezes : (v : ℕ) → IsFound routines (set can main false) (sought.Frozen None) v → OnlyMainFreezes main routines → ⊥
  another_freezes v found only =
      let z = freeze_is routines (set can main false) v found in
      let m = other_marked can main z.0 z.1 in
      m.0 (only z.0 v ((reached.each z.0).0 m.1).1 z.2)

  pub nobody_names : IsNowhere routines can (sought.Linked link.Names main) → NobodyNamesMain main routines
  nobody_names nowhere k runs a = linked_not routines can link.Names main nowhere (k, (reached.each k).1 (given_within instruction_names routines k main a, runs), a)

  pub somebody_names : (k : ℕ) → IsFound routines can (sought.Linked link.Names main) k → NobodyNamesMain main routines → ⊥
  somebody_names k found nobody = let z = linked_is routines can link.Names k main found in nobody z.0 ((reached.each z.0).0 z.1).1 z.2

  -- whether a freeze is looked for in vain in the others says whether only main freezes
  pub alone_only : (others : List Bool) → others ≡ set can main false → (found : Option ℕ) (b : Bool) → is_some found ≡ not b → IfSome found (λ v. IsFound routines others (sought.Frozen None) v)
      → IfNone found (IsNowhere routines others (sought.Frozen None)) → NobodyNamesMain main routines → (b ≡ true) ↔ IsMainAlone main routines
  alone_only others same None b e some none nobody = ((λ t. (only_main (subst (λ m. IsNowhere routines m (sought.Frozen None)) same none), nobody)), (λ alone. not-false b (sym e)))
  alone_only others same (Some v) b e some none nobody =
      ((λ t. absurd (both_ways _ (not-true b (sym e)) t)), (λ alone. absurd (another_freezes v (subst (λ m. IsFound routines m (sought.Frozen None) v) same some) alone.0)))
