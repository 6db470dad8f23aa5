-- Names by the keys of a set.
use Rattle.std.proofs.Common.{◌≡◌, ◌∷◌, ◌++◌, ℕ, zero, suc, Bool, true, false, ◌||◌, List, [], Some, map, slice_get, option_map, subst, refl, sym, ◌∙◌, ap, true≢false}
use Rattle.std.specs.Prelude.{if◌then◌else◌}
use Rattle.std.specs.Borrow.{Bor}
use Rattle.std.specs.List.{AllByRecursion, IsDistinct, list_any}
use Rattle.std.specs.Set.{is_member}
use Rattle.std.specs.Str.{bytes_eq}
use Rattle.std.proofs.lemmas.List.{map-append}
use Rattle.std.proofs.lemmas.Option.{slice_get-map}
use Rattle.std.proofs.lemmas.Slice.Eq.{bytes_eq-Decides}
use Rattle.lvish_facts.specs.declared.node.Node.{Node}
use Rattle.lvish_facts.specs.Names.{Word, IsNamed, IsEachOnce, IsNumbered, with_name, names_in}

get_kept : {X : Type 0} (xs ys : List X) (k : ℕ) (x : X) → slice_get xs k ≡ Some x → slice_get (xs ++ ys) k ≡ Some x
get_kept [] ys k x h = let z : ⊥ = cc in absurd z
get_kept (y ∷ xs) ys zero x h = h
get_kept (y ∷ xs) ys (suc k) x h = get_kept xs ys k x h

-- names keep their numbers, whether one comes last or not
pub name_kept : (old : List Word) (name : Word) (n : Node) (w : Word) → IsNamed old n w → IsNamed (with_name old name) n w
name_kept old name n w h = by (is_member bytes_eq old name)
  where
    by : (b : Bool) → IsNamed (if b then old else old ++ name ∷ []) n w
    by true = h
    by false = get_kept old (name ∷ []) n.number w h

module _ {X : Type 0} (f : X → Word) (eq : X → X → Bool) where
  -- a key is there exactly if its name is
  pub same_member : ((x y : X) → eq x y ≡ bytes_eq (f x) (f y)) → (ks : List X) (k : X) → list_any (eq k) ks ≡ is_member bytes_eq (map f ks) (f k)
  same_member by_name [] k = refl
  same_member by_name (x ∷ xs) k = (λ i. by_name k x i || same_member by_name xs k i)

  -- the names after an insertion
  pub inserted : (ks : List X) (k : X) (held : Bool) → list_any (eq k) ks ≡ held → is_member bytes_eq (map f ks) (f k) ≡ held → map f (if list_any (eq k) ks then ks else ks ++ k ∷ []) ≡ with_name (map f ks) (f k)
  inserted ks k true h i = rw (h, i) refl
  inserted ks k false h i = rw (h, i) (map-append f ks (k ∷ []))

  module _ (same : (x y : X) → f x ≡ f y → eq x y ≡ true) where
    later : (x : X) (xs : List X) → AllByRecursion (λ y. eq x y ≡ false) xs → (j : ℕ) (name : Word) → f x ≡ name → slice_get (map f xs) j ≡ Some name → ⊥
    later x [] a j name e h = cc
    later x (y ∷ ys) a zero name e h = let s : f y ≡ name = cc in true≢false (sym (same x y (e ∙ sym s)) ∙ a.0)
    later x (y ∷ ys) a (suc j) name e h = later x ys a.1 j name e h

    -- keys of which no two are equal have different names
    pub once_from : (ks : List X) → IsDistinct eq ks → IsEachOnce (map f ks)
    unfolding IsDistinct
    once_from [] d i j name h k = let z : ⊥ = cc in absurd z
    once_from (x ∷ xs) d zero zero name h k = refl
    once_from (x ∷ xs) d zero (suc j) name h k = let s : f x ≡ name = cc in absurd (later x xs d.0 j name s k)
    once_from (x ∷ xs) d (suc i) zero name h k = let s : f x ≡ name = cc in absurd (later x xs d.0 i name s h)
    once_from (x ∷ xs) d (suc i) (suc j) name h k = ap suc (once_from xs d.1 i j name h k)

-- a name that was looked up or put last by its bytes
pub is_numbered : (old new : List (Bor (List ℕ))) (name : Bor (List ℕ)) (n : Node) → new ≡ (if list_any (λ k. bytes_eq name.now k.now) old then old else old ++ name ∷ [])
    → IsDistinct (λ (a b : Bor (List ℕ)). bytes_eq a.now b.now) new → ((k : Bor (List ℕ)) × (slice_get new n.number ≡ Some k) × (bytes_eq name.now k.now ≡ true)) → IsNumbered (names_in old) (names_in new) name.now n
is_numbered old new name n put distinct found =
    let text : Bor (List ℕ) → Word = λ k. k.now in
    let eq : Bor (List ℕ) → Bor (List ℕ) → Bool = λ a b. bytes_eq a.now b.now in
    let there : Word → Bool = λ w. is_member bytes_eq (names_in old) w in
    let grown : names_in new ≡ with_name (names_in old) name.now = ap names_in put ∙ inserted text eq old name (there name.now) (same_member text eq (λ a b. refl) old name) refl in
    let same : name.now ≡ found.0.now = (bytes_eq-Decides name.now found.0.now).0 found.2 in
    record {
      grown = grown;
      named = slice_get-map text new n.number ∙ ap (option_map text) found.1 ∙ ap Some (sym same);
      kept = λ m w h. subst (λ names. IsNamed names m w) (sym grown) (name_kept (names_in old) name.now m w h);
      once = once_from text eq (λ a b e. (bytes_eq-Decides a.now b.now).1 e) new distinct;
    }
