-- What holds of the values that words have, where they have one.
use Rattle.std.proofs.Common.{◌≡◌, Bool, true, false, Option, Some, None, refl}
use Rattle.std.specs.Prelude.{option_and_then, if◌then◌else◌}
use Rattle.std.specs.Option.{option_map, option_or}

-- something holds of what is there
abbrev pub Each : {X : Type 0} → (X → Type 0) → Option X → Type 0
Each P None = Unit {0}
Each P (Some x) = P x

pub each_if : {X : Type 0} (P : X → Type 0) (b : Bool) (x y : Option X) → (b ≡ true → Each P x) → (b ≡ false → Each P y) → Each P (if b then x else y)
each_if P true x y h k = h refl
each_if P false x y h k = k refl

pub each_map : {X Y : Type 0} (P : X → Type 0) (Q : Y → Type 0) (f : X → Y) (m : Option X) → Each P m → ((x : X) → P x → Q (f x)) → Each Q (option_map f m)
each_map P Q f None h k = tt
each_map P Q f (Some x) h k = k x h

pub each_then : {X Y : Type 0} (P : X → Type 0) (Q : Y → Type 0) (f : X → Option Y) (m : Option X) → Each P m → ((x : X) → P x → Each Q (f x)) → Each Q (option_and_then f m)
each_then P Q f None h k = tt
each_then P Q f (Some x) h k = k x h

pub each_or : {X : Type 0} (P : X → Type 0) (m n : Option X) → Each P m → Each P n → Each P (option_or m n)
each_or P None n h k = k
each_or P (Some x) n h k = h

pub each_weaker : {X : Type 0} (P Q : X → Type 0) (m : Option X) → Each P m → ((x : X) → P x → Q x) → Each Q m
each_weaker P Q None h k = tt
each_weaker P Q (Some x) h k = k x h
