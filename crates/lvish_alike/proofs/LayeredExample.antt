-- Layered code: a handler of a set's pool puts into it, and so does main, which freezes it after the pool.
use Rattle.std.proofs.Common.{◌≡◌, inl, inr, ℕ, zero, suc, ◌<◌, pos, true, List, [], ◌∷◌, Some, None, refl, sym, ◌∙◌, subst, arith, le_refl, Contains}
use Rattle.std.specs.List.{slice_get}
use Rattle.lvish_calculus.specs.Handing.{IsAmong}
use Rattle.lvish_calculus.proofs.Sound.{some_is}
use Rattle.lvish_code.specs.Flat as flat
use Rattle.lvish_code.specs.Sound.{IsRoutineSound, IsCodeSound, lands}
use Rattle.lvish_code.specs.declared.operand.Operand.TheVariants.{Number}
use Rattle.lvish_code.specs.declared.target.Target.TheVariants.{Whole}
use Rattle.lvish_task.specs.Vocabulary.{Set, VariableKind, Simple, Put, Handle, Freeze, Instruction, Ask, SkipIfZero, BackUnlessZero, GoOn, Return, Routine}
use Rattle.lvish_alike.specs.Reaching.{at_once}
use Rattle.lvish_alike.specs.Sought.{instruction_names, instruction_calls, instruction_forks, instruction_freezes, given_by, IsAt}
use Rattle.lvish_alike.specs.Layered.{PoolRuns, InstructionWrites, RoutineWrites, FreezesAt, IsLayered}

abbrev pub of_handler : List Instruction
of_handler = Ask (Put 0 (Whole Set) (Number (pos 1))) ∷ Return ∷ []

abbrev pub of_main : List Instruction
of_main = Ask (Handle 0 0) ∷ Ask (Put 0 (Whole Set) (Number (pos 1))) ∷ Ask (Freeze 0 0 (0 ∷ []) None) ∷ Return ∷ []

abbrev pub handler : Routine
handler = record { parameters = 2; locals = 2; instructions = of_handler }

abbrev pub begins : Routine
begins = record { parameters = 0; locals = 1; instructions = of_main }

abbrev pub kinds : List VariableKind
kinds = Simple Set ∷ []

abbrev pub pools : List ℕ
pools = 0 ∷ []

abbrev pub routines : List Routine
routines = handler ∷ begins ∷ []

handler_lands : (place : ℕ) (i : Instruction) → slice_get of_handler place ≡ Some i → lands 2 place i ≡ true
handler_lands zero i e = subst (λ j. lands 2 0 j ≡ true) (some_is e) refl
handler_lands (suc zero) i e = subst (λ j. lands 2 1 j ≡ true) (some_is e) refl
handler_lands (suc (suc n)) i e = absurd (cc e)

main_lands : (place : ℕ) (i : Instruction) → slice_get of_main place ≡ Some i → lands 4 place i ≡ true
main_lands zero i e = subst (λ j. lands 4 0 j ≡ true) (some_is e) refl
main_lands (suc zero) i e = subst (λ j. lands 4 1 j ≡ true) (some_is e) refl
main_lands (suc (suc zero)) i e = subst (λ j. lands 4 2 j ≡ true) (some_is e) refl
main_lands (suc (suc (suc zero))) i e = subst (λ j. lands 4 3 j ≡ true) (some_is e) refl
main_lands (suc (suc (suc (suc n)))) i e = absurd (cc e)

handler_sound : IsRoutineSound kinds pools routines handler
handler_sound = record { parameters = le_refl 2; begins = omega arith; instructions = refl; landing = handler_lands }

main_sound : IsRoutineSound kinds pools routines begins
main_sound = record { parameters = omega arith; begins = omega arith; instructions = refl; landing = main_lands }

routines_sound : (k : ℕ) (r : Routine) → slice_get routines k ≡ Some r → IsRoutineSound kinds pools routines r
routines_sound zero r e = subst (IsRoutineSound kinds pools routines) (some_is e) handler_sound
routines_sound (suc zero) r e = subst (IsRoutineSound kinds pools routines) (some_is e) main_sound
routines_sound (suc (suc n)) r e = absurd (cc e)

pub code_sound : IsCodeSound kinds pools 1 routines
code_sound = record { few_variables = omega arith; few_pools = omega arith; few_routines = omega arith; pools_known = refl; main_takes = refl; routines_sound = routines_sound }

abbrev pub c : flat.Code
c = record { kinds = kinds; pools = pools; main = 1; routines = routines; sound = code_sound }

-- ---- what stands where

freeze_is : (i v : ℕ) (ps : List ℕ) → FreezesAt c i v ps → (i ≡ 2) × (v ≡ 0) × (ps ≡ 0 ∷ [])
freeze_is zero v ps f = absurd (cc (f.2))
freeze_is (suc zero) v ps f = absurd (cc (f.2))
freeze_is (suc (suc zero)) v ps f = let e = f.2 in let a : v ≡ 0 = cc (e) in let b : ps ≡ 0 ∷ [] = cc (e) in (refl, a, b)
freeze_is (suc (suc (suc zero))) v ps f = absurd (cc (f.2))
freeze_is (suc (suc (suc (suc n)))) v ps f = absurd (cc (f.2))

pool_is : (k place p j : ℕ) → IsAt routines k place (Ask (Handle p j)) → p ≡ 0
pool_is zero zero p j e = absurd (cc e)
pool_is zero (suc zero) p j e = absurd (cc e)
pool_is zero (suc (suc n)) p j e = absurd (cc e)
pool_is (suc zero) zero p j e = cc e
pool_is (suc zero) (suc zero) p j e = absurd (cc e)
pool_is (suc zero) (suc (suc zero)) p j e = absurd (cc e)
pool_is (suc zero) (suc (suc (suc zero))) p j e = absurd (cc e)
pool_is (suc zero) (suc (suc (suc (suc n)))) p j e = absurd (cc e)
pool_is (suc (suc n)) place p j e = absurd (cc e)

-- main neither jumps nor calls
abbrev IsPlain : Instruction → Type 0
IsPlain (SkipIfZero o n) = ⊥
IsPlain (BackUnlessZero o n) = ⊥
IsPlain (GoOn n) = ⊥
IsPlain i = instruction_calls i ≡ None

main_plain : (place : ℕ) (i : Instruction) → IsAt routines 1 place i → IsPlain i
main_plain zero i e = subst IsPlain (some_is e) refl
main_plain (suc zero) i e = subst IsPlain (some_is e) refl
main_plain (suc (suc zero)) i e = subst IsPlain (some_is e) refl
main_plain (suc (suc (suc zero))) i e = subst IsPlain (some_is e) refl
main_plain (suc (suc (suc (suc n)))) i e = absurd (cc e)

no_call : (i : Instruction) (k : ℕ) → IsPlain i → instruction_calls i ≡ Some k → ⊥
no_call (SkipIfZero o n) k p e = p
no_call (BackUnlessZero o n) k p e = p
no_call (GoOn n) k p e = p
no_call i k p e = cc (sym p ∙ e)

-- behind the freeze main returns
behind : (j v : ℕ) (i : Instruction) → 2 < j → IsAt routines 1 j i → InstructionWrites c i v → ⊥
behind zero v i lt at wr = omega (arith, lt)
behind (suc zero) v i lt at wr = omega (arith, lt)
behind (suc (suc zero)) v i lt at wr = omega (arith, lt)
behind (suc (suc (suc zero))) v i lt at wr = subst (λ j. InstructionWrites c j v) (sym (some_is at)) wr
behind (suc (suc (suc (suc n)))) v i lt at wr = cc at

no_fork : (i j : ℕ) → IsAmong j (given_by instruction_forks routines i) → ⊥
no_fork zero j a = a
no_fork (suc zero) j a = a
no_fork (suc (suc n)) j a = a

freezes_in : (k v : ℕ) → IsAmong v (given_by instruction_freezes routines k) → k ≡ 1
freezes_in zero v a = absurd a
freezes_in (suc zero) v a = refl
freezes_in (suc (suc n)) v a = absurd a

names_one : (k : ℕ) → IsAmong 1 (given_by instruction_names routines k) → ⊥
names_one zero a = a
names_one (suc zero) (inl e) = omega (arith, e)
names_one (suc zero) (inr a) = a
names_one (suc (suc n)) a = a

pub layered : IsLayered c
layered = record {
  alone = λ k v can a. freezes_in k v a;
  once = λ k can a. names_one k a;
  plain = λ i v ps f. record {
    skip = λ j n o at lt. absurd (main_plain j (SkipIfZero o n) at);
    past = λ j n at lt. absurd (main_plain j (GoOn n) at);
    back = λ j n o at lt. absurd (main_plain j (BackUnlessZero o n) at);
  };
  same = λ i j v ps qs f g. (freeze_is i v ps f).2 ∙ sym (freeze_is j v qs g).2;
  below = λ i v j ps n f lt at wr. behind j v n (subst (λ k. k < j) (freeze_is i v ps f).0 lt) at wr;
  called = λ i v j k m ps n f le at e l wr. no_call n k (main_plain j n at) e;
  free = λ i v k ps f runs wr. no_fork runs.0 runs.1 runs.3;
  pooled = λ i v k p ps f runs wr.
      let here : p ≡ 0 = pool_is runs.0 runs.1 p runs.2 runs.4 in
      let has : Contains (0 ∷ []) 0 = (0, omega arith, refl) in
      (i, v, ps, le_refl i, f, subst (λ q. Contains ps q) (sym here) (subst (λ qs. Contains qs 0) (sym (freeze_is i v ps f).2) has));
}

pub freezes_it : FreezesAt c 2 0 (0 ∷ [])
freezes_it = (0, None, refl)

-- the handler's task puts into it
pub runs_in_pool : PoolRuns c 0 0
runs_in_pool = (1, 0, 0, at_once, refl, at_once)

pub writes_it : RoutineWrites c 0 0
writes_it = (0, Ask (Put 0 (Whole Set) (Number (pos 1))), refl, refl)
