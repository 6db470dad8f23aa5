-- A list that is filled up with one number.
use Rattle.std.proofs.Common.{◌≡◌, ◌≤◌, ◌-◌, ◌+◌, ◌++◌, inl, inr, ℕ, ℤ, List, [], ◌∷◌, length, replicate, take, drop, refl, sym, ap, ◌∙◌, arith}
use Rattle.std.proofs.lemmas.List.{length-append, take_all, take-replicate, drop-replicate, drop-drop}
use Rattle.std.proofs.Math.Seq.{take-add}
use Rattle.std.specs.List.{AllClonesOf, AppendsClonesOf}

-- clones of a number are that number
same_each : (x : ℤ) (ys : List ℤ) → AllClonesOf (λ x y. y ≡ x) x ys → ys ≡ replicate (length ys) x
same_each x [] all = refl
same_each x (y ∷ ys) all =
    let here : y ≡ x = elim all.0 [
      | inl e ↦ e
      | inr e ↦ e
    ] in
    ap (λ z. z ∷ ys) here ∙ ap (λ zs. x ∷ zs) (same_each x ys all.1)

pub filled : (xs new : List ℤ) (n : ℕ) (x : ℤ) → length xs ≤ n → length new ≡ n → AppendsClonesOf (λ x y. y ≡ x) (take n xs) new x → new ≡ xs ++ replicate (n - length xs) x
filled xs new n x few long h =
    let ys = h.0 in
    let is : new ≡ xs ++ ys = h.1 ∙ ap (λ zs. zs ++ ys) (take_all n xs few) in
    let both : length new ≡ length xs + length ys = ap length is ∙ length-append xs ys in
    let rest : length ys ≡ n - length xs = omega (arith, both, long, few) in
    is ∙ ap (λ zs. xs ++ zs) (same_each x ys h.2 ∙ ap (λ k. replicate k x) rest)

-- cut further on, a list that ends in one number has more of them
pub filled_up : (xs : List ℤ) (k n m : ℕ) (x : ℤ) → k ≤ n → n ≤ m → drop k xs ≡ replicate (m - k) x → take n xs ≡ take k xs ++ replicate (n - k) x
filled_up xs k n m x less most zeros =
    let j : ℕ = n - k in
    let e : n ≡ k + j = omega (arith, less) in
    let within : j ≤ m - k = omega (arith, most) in
    ap (λ i. take i xs) e ∙ take-add k j xs ∙ ap (λ ys. take k xs ++ take j ys) zeros ∙ ap (λ ys. take k xs ++ ys) (take-replicate j (m - k) x within)

-- and fewer of them behind
pub fewer_behind : (xs : List ℤ) (k n m : ℕ) (x : ℤ) → k ≤ n → drop k xs ≡ replicate (m - k) x → drop n xs ≡ replicate (m - n) x
fewer_behind xs k n m x less zeros =
    let j : ℕ = n - k in
    let e : n ≡ k + j = omega (arith, less) in
    let count : m - k - j ≡ m - n = omega (arith, less) in
    ap (λ i. drop i xs) e ∙ sym (drop-drop j k xs) ∙ ap (drop j) zeros ∙ drop-replicate j (m - k) x ∙ ap (λ i. replicate i x) count
