-- One piece of a text after the other.
use Rattle.std.proofs.Common.{◌≡◌, ℕ, ◌+◌, ◌<◌, ◌≤◌, List, [], ◌∷◌, ◌++◌, length, take, get_or, append-nil, append_assoc, sym, ap, subst, ◌∙◌}
use Rattle.std.specs.List.{flat_map}
use Rattle.std.proofs.lemmas.List.{take_more, take_all}
use Rattle.std.proofs.lemmas.Grind.{flat_map-append}
use Rattle.std.specs.Prelude.{IsTrue}
use Rattle.lvish_explain.specs.declared.draft.Draft.{Draft}
use Rattle.lvish_explain.specs.Draft.{Adds}

-- nothing
pub adds_none : (a : Draft) → Adds a a []
adds_none a whole = (whole, sym (append-nil a.bytes.items))

-- two pieces
pub adds_then : (a b c : Draft) (s t : List ℕ) → Adds a b s → Adds b c t → Adds a c (s ++ t)
adds_then a b c s t one two whole =
    let second = two whole in
    let first = one second.0 in
    (first.0, second.1 ∙ ap (λ x. x ++ t) first.1 ∙ append_assoc a.bytes.items s t)

-- the pieces of some items of a list, and that of the next one
pub adds_joined : {X : Type 0} (f : X → List ℕ) (xs : List X) (i : ℕ) (x : X) → i < length xs → x ≡ get_or xs i x → (a b c : Draft) → Adds a b (flat_map f (take i xs)) → Adds b c (f x) → Adds a c (flat_map f (take (i + 1) xs))
adds_joined f xs i x less is a b c some one =
    let last : flat_map f (take (i + 1) xs) ≡ flat_map f (take i xs) ++ f x =
    ap (flat_map f) (take_more xs i x less) ∙ flat_map-append f (take i xs) (get_or xs i x ∷ [])
    ∙ ap (λ u. flat_map f (take i xs) ++ u) (append-nil (f (get_or xs i x)) ∙ ap f (sym is)) in
    subst (λ t. Adds a c t) (sym last) (adds_then a b c (flat_map f (take i xs)) (f x) some one)

-- the pieces of all
pub adds_all : {X : Type 0} (f : X → List ℕ) (xs : List X) (i : ℕ) (a b : Draft) → length xs ≤ i → Adds a b (flat_map f (take i xs)) → Adds a b (flat_map f xs)
adds_all f xs i a b all some = subst (λ ys. Adds a b (flat_map f ys)) (take_all i xs all) some

-- all that stands behind an empty text
pub all_added : (a b : Draft) (s : List ℕ) → a.bytes.items ≡ [] → Adds a b s → IsTrue b.is_whole → b.bytes.items ≡ s
all_added a b s none adds whole = (adds whole).1 ∙ ap (λ x. x ++ s) none
