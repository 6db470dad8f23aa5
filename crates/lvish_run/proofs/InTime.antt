-- Scripts of which one end shows all runs, by any of their codes.
use Rattle.std.proofs.Common.{◌≡◌, ◌⊎◌, ◌↔◌, inl, inr, ℕ, Bool, true, false, List, sym, ◌∙◌, subst}
use Rattle.std.proofs.lemmas.Bool.{false≢true}
use Rattle.std.specs.List.{slice_get}
use Rattle.lvish_code.specs.Flat.{Code}
use Rattle.lvish_syntax.specs.declared.script.Script.{Script}
use Rattle.lvish_task.specs.CodeOf.{IsScriptCodeOf}
use Rattle.lvish_task.specs.Freezing.{has_freeze, code_freezes}
use Rattle.lvish_task.specs.Run.{instructions_in}
use Rattle.lvish_task.specs.Vocabulary.{Routine}
use Rattle.lvish_task.specs.declared.script_code.ScriptCode.{ScriptCode}
use Rattle.lvish_alike.specs.Layered.{IsLayered}
use Rattle.lvish_alike.specs.Parts.{FreezesArePlain, FreezesAreSame, NoWriteBelow, NoCallBelow, NoFreeWrite, PoolWritesAreOver, OnlyMainFreezes, NobodyNamesMain}
use Rattle.lvish_run.specs.Ends.{FreezesInTime}

-- codes with the same main, pools and routines are layered alike
module _ (c d : Code) (main : c.main ≡ d.main) (pools : c.pools ≡ d.pools) (routines : c.routines ≡ d.routines) where
  there : (P : ℕ → List ℕ → List Routine → Type 0) → P c.main c.pools c.routines → P d.main d.pools d.routines
  there P h = subst (λ (x : ℕ × List ℕ × List Routine). P x.0 x.1 x.2) (λ i. (main i, pools i, routines i)) h

  layered_there : IsLayered c → IsLayered d
  layered_there h = record {
    alone = there (λ m p r. OnlyMainFreezes m r) h.alone;
    once = there (λ m p r. NobodyNamesMain m r) h.once;
    plain = there (λ m p r. FreezesArePlain (instructions_in (slice_get r m))) h.plain;
    same = there (λ m p r. FreezesAreSame (instructions_in (slice_get r m))) h.same;
    below = there (λ m p r. NoWriteBelow (instructions_in (slice_get r m)) p) h.below;
    called = there (λ m p r. NoCallBelow (instructions_in (slice_get r m)) p r) h.called;
    free = there (λ m p r. NoFreeWrite (instructions_in (slice_get r m)) p m r) h.free;
    pooled = there (λ m p r. PoolWritesAreOver (instructions_in (slice_get r m)) p m r) h.pooled;
  }

module _ (script : Script) (c : ScriptCode) (is : IsScriptCodeOf script c) (lines : code_freezes c.flat ≡ has_freeze script) (in_time : Bool) (exact : (in_time ≡ true) ↔ ((code_freezes c.flat ≡ false) ⊎ IsLayered c.flat)) where
  pub shown : in_time ≡ true → (has_freeze script ≡ false) ⊎ FreezesInTime script
  shown e = elim (exact.0 e) [ inl none ↦ inl (sym lines ∙ none) | inr layered ↦ inr (c, is, layered) ]

  pub unshown : in_time ≡ false → (has_freeze script ≡ false) ⊎ FreezesInTime script → ⊥
  unshown e (inl none) = false≢true (sym e ∙ exact.1 (inl (lines ∙ none)))
  unshown e (inr (d, of, layered)) = false≢true (sym e ∙ exact.1 (inr (layered_there d.flat c.flat (of.main ∙ sym is.main) (of.pools ∙ sym is.pools) (of.routines ∙ sym is.routines) layered)))
