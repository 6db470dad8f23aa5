-- A jump is written after the instructions that it passes.
use Rattle.std.proofs.Common.{◌≡◌, ℕ, ◌+◌, ◌-◌, ◌<◌, List, [], ◌∷◌, ◌++◌, length, sym, ap, ◌∙◌, arith, append_assoc, length-append}
use Rattle.std.specs.List.{slice_set}
use Rattle.std.proofs.Math.Seq.{set-append_seam}
use Rattle.lvish_code.specs.Vocabulary.{Operand, Instruction, SkipIfZero, GoOn, BackUnlessZero}
use Rattle.lvish_code.specs.Compile.{if_code, if_else_code, while_code}

-- a place that was reserved stays within the code
pub before_end : (base ac c2 c3 : List Instruction) (x : Instruction) (n : ℕ) → n ≡ length base → c2 ≡ base ++ x ∷ [] → c3 ≡ c2 ++ ac → n < length c3
before_end base ac c2 c3 x n m e2 e3 =
    let l2 = ap length e2 ∙ length-append base (x ∷ []) in
    let l3 = ap length e3 ∙ length-append c2 ac in
    omega arith

two_writes : (c a b : List Instruction) (x y i j : Instruction) → slice_set (slice_set (c ++ x ∷ (a ++ y ∷ b)) (length c) i) (length (c ++ i ∷ a)) j ≡ c ++ i ∷ (a ++ j ∷ b)
two_writes c a b x y i j =
    ap (λ l. slice_set l (length (c ++ i ∷ a)) j) (set-append_seam c x (a ++ y ∷ b) i ∙ sym (append_assoc c (i ∷ a) (y ∷ b)))
    ∙ set-append_seam (c ++ i ∷ a) y b j
    ∙ append_assoc c (i ∷ a) (j ∷ b)

pub patch_if : (t : Operand) (base ac c2 c3 : List Instruction) (x : Instruction) (n1 n2 : ℕ) → n1 ≡ length base → c2 ≡ base ++ x ∷ [] → c3 ≡ c2 ++ ac → n2 ≡ length c3 → slice_set c3 n1 (SkipIfZero t (n2 - n1 - 1)) ≡ base ++ if_code t ac
patch_if t base ac c2 c3 x n1 n2 m1 e2 e3 m2 =
    let l2 = ap length e2 ∙ length-append base (x ∷ []) in
    let l3 = ap length e3 ∙ length-append c2 ac in
    let i = SkipIfZero t (n2 - n1 - 1) in
    let d : n2 - n1 - 1 ≡ length ac = omega arith in
    let all : c3 ≡ (base ++ x ∷ []) ++ ac = cc in
    let flat : (base ++ x ∷ []) ++ ac ≡ base ++ x ∷ ac = simp append_assoc in
    ap (λ l. slice_set l n1 i) (all ∙ flat)
    ∙ ap (λ n. slice_set (base ++ x ∷ ac) n i) m1
    ∙ set-append_seam base x ac i
    ∙ ap (λ n. base ++ (SkipIfZero t n ∷ ac)) d

pub patch_if_else : (t : Operand) (base ac bc c2 c3 c4 c5 : List Instruction) (x y : Instruction) (n1 n2 n3 : ℕ) → n1 ≡ length base → c2 ≡ base ++ x ∷ [] → c3 ≡ c2 ++ ac → n2 ≡ length c3 → c4 ≡ c3 ++ y ∷ [] → c5 ≡ c4 ++ bc → n3 ≡ length c5 → slice_set (slice_set c5 n1 (SkipIfZero t (n2 - n1))) n2 (GoOn (n3 - n2 - 1)) ≡ base ++ if_else_code t ac bc
patch_if_else t base ac bc c2 c3 c4 c5 x y n1 n2 n3 m1 e2 e3 m2 e4 e5 m3 =
    let l2 = ap length e2 ∙ length-append base (x ∷ []) in
    let l3 = ap length e3 ∙ length-append c2 ac in
    let l4 = ap length e4 ∙ length-append c3 (y ∷ []) in
    let l5 = ap length e5 ∙ length-append c4 bc in
    let i = SkipIfZero t (n2 - n1) in
    let j = GoOn (n3 - n2 - 1) in
    let d1 : n2 - n1 ≡ length ac + 1 = omega arith in
    let d2 : n3 - n2 - 1 ≡ length bc = omega arith in
    let at2 : n2 ≡ length (base ++ i ∷ ac) = omega (arith, length-append base (i ∷ ac)) in
    let all : c5 ≡ (((base ++ x ∷ []) ++ ac) ++ y ∷ []) ++ bc = cc in
    let flat : (((base ++ x ∷ []) ++ ac) ++ y ∷ []) ++ bc ≡ base ++ x ∷ (ac ++ y ∷ bc) = simp append_assoc in
    ap (λ l. slice_set (slice_set l n1 i) n2 j) (all ∙ flat)
    ∙ ap (λ n. slice_set (slice_set (base ++ x ∷ (ac ++ y ∷ bc)) n i) n2 j) m1
    ∙ ap (λ n. slice_set (slice_set (base ++ x ∷ (ac ++ y ∷ bc)) (length base) i) n j) at2
    ∙ two_writes base ac bc x y i j
    ∙ ap (λ n. base ++ (SkipIfZero t n ∷ (ac ++ j ∷ bc))) d1
    ∙ ap (λ n. base ++ (SkipIfZero t (length ac + 1) ∷ (ac ++ GoOn n ∷ bc))) d2

pub patch_while : (t : Operand) (base ac c2 c3 c4 : List Instruction) (x : Instruction) (n1 n2 : ℕ) → n1 ≡ length base → c2 ≡ base ++ x ∷ [] → c3 ≡ c2 ++ ac → n2 ≡ length c3 → c4 ≡ c3 ++ BackUnlessZero t (n2 - n1 - 1) ∷ [] → slice_set c4 n1 (SkipIfZero t (n2 - n1)) ≡ base ++ while_code t ac
patch_while t base ac c2 c3 c4 x n1 n2 m1 e2 e3 m2 e4 =
    let l2 = ap length e2 ∙ length-append base (x ∷ []) in
    let l3 = ap length e3 ∙ length-append c2 ac in
    let i = SkipIfZero t (n2 - n1) in
    let j = BackUnlessZero t (n2 - n1 - 1) in
    let d1 : n2 - n1 ≡ length ac + 1 = omega arith in
    let d2 : n2 - n1 - 1 ≡ length ac = omega arith in
    let all : c4 ≡ ((base ++ x ∷ []) ++ ac) ++ j ∷ [] = cc in
    let flat : ((base ++ x ∷ []) ++ ac) ++ j ∷ [] ≡ base ++ x ∷ (ac ++ j ∷ []) = simp append_assoc in
    ap (λ l. slice_set l n1 i) (all ∙ flat)
    ∙ ap (λ n. slice_set (base ++ x ∷ (ac ++ j ∷ [])) n i) m1
    ∙ set-append_seam base x (ac ++ j ∷ []) i
    ∙ ap (λ n. base ++ (SkipIfZero t n ∷ (ac ++ j ∷ []))) d1
    ∙ ap (λ n. base ++ (SkipIfZero t (length ac + 1) ∷ (ac ++ BackUnlessZero t n ∷ []))) d2
