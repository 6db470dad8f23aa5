-- Loops that push a result for each item.
use Rattle.std.proofs.Common.{◌≡◌, ℕ, zero, suc, ◌+◌, ◌<◌, Bool, true, ◌||◌, List, [], ◌∷◌, ◌++◌, length, get_or, take, map, Bor, refl, ap, arith, take_all, length-drop, ◌-◌, drop}
use Rattle.std.specs.List.{list_any, list_all}
use Rattle.lvish_checks.specs.Vocabulary.{Word}
use Rattle.lvish_checks.proofs.Cuts.{left_holds, right_holds}
use Rattle.std.proofs.lemmas.List.{map_push, take_more}

pub push_more : {Y Z : Type 0} (g : Y → Z) (done : List Z) (z : Z) (ys : List Y) (i : ℕ) (d : Y) → i < length ys → z ≡ g (get_or ys i d) → done ≡ map g (take i ys) → done ++ z ∷ [] ≡ map g (take (i + 1) ys)
push_more g done z ys i d lt e h = rw (take_more ys i d lt, map_push g (take i ys) (get_or ys i d), h, e) refl

pub map_twice : {X Y Z : Type 0} (f : X → Y) (g : Y → Z) (xs : List X) → map g (map f xs) ≡ map (λ x. g (f x)) xs
map_twice f g [] = refl
map_twice f g (x ∷ xs) = ap (λ t. g (f x) ∷ t) (map_twice f g xs)

-- ---- a test of each item

pub any_now : (p : Word → Bool) (ws : List (Bor Word)) → list_any p (map (λ w. w.now) ws) ≡ list_any (λ w. p w.now) ws
any_now p [] = refl
any_now p (w ∷ ws) = ap (λ b. p w.now || b) (any_now p ws)

-- what holds of all holds of each
pub all_at : {X Y : Type 0} (f : X → Y) (p : Y → Bool) (xs : List X) (i : ℕ) (d : X) → list_all p (map f xs) ≡ true → i < length xs → p (f (get_or xs i d)) ≡ true
all_at f p [] i d e lt = absurd (omega arith)
all_at f p (x ∷ xs) zero d e lt = left_holds (p (f x)) _ e
all_at f p (x ∷ xs) (suc i) d e lt = all_at f p xs i d (right_holds (p (f x)) _ e) (omega arith)

-- the slice from a place on
pub rest_whole : {X : Type 0} (n : ℕ) (xs : List X) → take (length xs - n) (drop n xs) ≡ drop n xs
rest_whole n xs = take_all (length xs - n) (drop n xs) (omega (arith, length-drop n xs))
