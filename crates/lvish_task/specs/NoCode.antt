-- A code of nothing: its main returns at once.
use Rattle.std.proofs.Common.{◌≡◌, ℕ, zero, suc, true, [], ◌∷◌, Some, refl, subst, arith}
use Rattle.std.specs.List.{slice_get}
use Rattle.lvish_code.specs.declared.instruction.Instruction.TheVariants.{Return}
use Rattle.lvish_code.specs.declared.routine.Routine.{Routine}
use Rattle.lvish_code.specs.Sound.{lands, IsRoutineSound, IsCodeSound}
use Rattle.lvish_task.specs.declared.script_code.ScriptCode.{ScriptCode}

-- a routine that returns
abbrev pub returning : Routine
returning = record { parameters = 0; locals = 0; instructions = Return ∷ [] }

-- what holds of the one element of a list
of_one : {X : Type 0} (P : ℕ → X → Type 0) (x : X) → P 0 x → (k : ℕ) (y : X) → slice_get (x ∷ []) k ≡ Some y → P k y
of_one P x p zero y e = let same : x ≡ y = cc in subst (P zero) same p
of_one P x p (suc k) y e = absurd (let n : ⊥ = cc in n)

returning_sound : IsRoutineSound [] [] (returning ∷ []) returning
returning_sound = record {
  parameters = omega arith;
  begins = omega arith;
  instructions = refl;
  landing = of_one (λ k i. lands 1 k i ≡ true) Return refl;
}

nothing_sound : IsCodeSound [] [] 0 (returning ∷ [])
nothing_sound = record {
  few_variables = omega arith;
  few_pools = omega arith;
  few_routines = omega arith;
  pools_known = refl;
  main_takes = refl;
  routines_sound = of_one (λ k r. IsRoutineSound [] [] (returning ∷ []) r) returning returning_sound;
}

pub no_code : ScriptCode
no_code = record { flat = record { kinds = []; pools = []; main = 0; routines = returning ∷ []; sound = nothing_sound } }
