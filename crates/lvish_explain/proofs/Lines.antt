-- Items of a list of borrowed bytes by their places.
use Rattle.std.proofs.Common.{◌≡◌, ℕ, zero, suc, ◌-◌, ◌<◌, ◌≤◌, List, [], ◌∷◌, length, map, get_or, refl, ap, arith}
use Rattle.std.specs.Borrow.{Bor}
use Rattle.lvish_explain.specs.Place.{line_at}

pub item_there : (items : List (Bor (List ℕ))) (k : ℕ) (x : Bor (List ℕ)) → k < length items → (get_or items k x).now ≡ get_or (map (λ l. l.now) items) k []
item_there [] k x lt = absurd (omega arith)
item_there (l ∷ ls) zero x lt = refl
item_there (l ∷ ls) (suc k) x lt = item_there ls k x (omega arith)

pub item_missing : (items : List (Bor (List ℕ))) (k : ℕ) → length items ≤ k → [] ≡ get_or (map (λ l. l.now) items) k []
item_missing [] k le = refl
item_missing (l ∷ ls) zero le = absurd (omega arith)
item_missing (l ∷ ls) (suc k) le = item_missing ls k (omega arith)

pub line_there : (lines : List (List ℕ)) (n : ℕ) → 0 < n → get_or lines (n - 1) [] ≡ line_at lines n
line_there lines zero some = absurd (omega arith)
line_there lines (suc k) some = ap (λ j. get_or lines j []) (omega arith)
