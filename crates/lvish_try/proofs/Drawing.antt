-- Words that a generator gives one by one.
use Rattle.std.proofs.Common.{◌≡◌, ◌+◌, ◌-◌, ◌<◌, ◌≤◌, ℕ, suc, zero, List, [], ◌∷◌, ◌++◌, refl, sym, ap, ◌∙◌, arith, append_assoc, append-nil}
use Rattle.rand_pcg.specs.Lcg.{Lcg, started, increment_of}
use Rattle.rand_pcg.specs.Pcg.{multiplier_64, pcg32}
use Rattle.lvish_try.specs.Drawn.{words, drawn}

-- the words so far and those that are left are all
pub one_word : (picks all : List ℕ) (k count : ℕ) (g : Lcg) → k < count → picks ++ words (count - k) g ≡ all → (picks ++ (pcg32 g).0 ∷ []) ++ words (count - (k + 1)) (pcg32 g).1 ≡ all
one_word picks all k count g less is =
    let left : count - k ≡ suc (count - (k + 1)) = omega (arith, less) in
    append_assoc picks ((pcg32 g).0 ∷ []) (words (count - (k + 1)) (pcg32 g).1) ∙ ap (λ n. picks ++ words n g) (sym left) ∙ is

-- none is left
pub no_word : (picks all : List ℕ) (k count : ℕ) (g : Lcg) → count ≤ k → picks ++ words (count - k) g ≡ all → picks ≡ all
no_word picks all k count g end is =
    let none : count - k ≡ zero = omega (arith, end) in
    sym (append-nil picks) ∙ ap (λ n. picks ++ words n g) (sym none) ∙ is

-- each run but the first has a stream of its own
pub drawn_some : (seed number count : ℕ) → (number ≡ 0 → ⊥) → drawn seed number count ≡ words count (started 64 multiplier_64 seed (increment_of 64 number))
drawn_some seed zero count some = absurd (some refl)
drawn_some seed (suc k) count some = refl

-- and the first has none
pub drawn_none : (seed number count : ℕ) → number ≡ 0 → drawn seed number count ≡ []
drawn_none seed number count none = ap (λ n. drawn seed n count) none

-- one word more, as the generator gives it
pub word_given : (picks more all : List ℕ) (k count : ℕ) (g h : Lcg) (w x : ℕ) → k < count → (w, h) ≡ pcg32 g → x ≡ w → more ≡ picks ++ x ∷ [] → picks ++ words (count - k) g ≡ all → more ++ words (count - (k + 1)) h ≡ all
word_given picks more all k count g h w x less step same pushed is =
    ap (λ xs. xs ++ words (count - (k + 1)) h) (pushed ∙ ap (λ n. picks ++ n ∷ []) (same ∙ ap (λ (p : ℕ × Lcg). p.0) step))
    ∙ ap (λ z. (picks ++ (pcg32 g).0 ∷ []) ++ words (count - (k + 1)) z) (ap (λ (p : ℕ × Lcg). p.1) step)
    ∙ one_word picks all k count g less is
