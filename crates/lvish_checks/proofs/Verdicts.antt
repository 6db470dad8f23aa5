-- What the checks say of a text, by what they say of its lines and of its first bad number.
use Rattle.std.proofs.Common.{◌≡◌, ℕ, ◌<◌, Bool, true, false, List, [], ◌∷◌, length, Option, Some, None, refl, subst, arith}
use Rattle.std.specs.Prelude.{nat_lt, ◌==◌}
use Rattle.std.specs.List.{list_any, AllByRecursion}
use Rattle.std.proofs.lemmas.Bool.Decides.{Decides-eqb}
use Rattle.lvish_syntax.specs.declared.limits.TheConstants.{MOST_BYTES}
use Rattle.lvish_checks.specs.Vocabulary.{Word, Line, Fault, TooLong, NotAscii, BadLine, BadNumber, DoubleName, UnknownName, WrongKind, WrongCount, OpenBlock, Compatible, NoMain, TooMany, Memory}
use Rattle.lvish_checks.specs.Form.{is_bad_number}
use Rattle.lvish_checks.specs.Checks.{Parts, fails, fails_beside, on_line, is_found, checks, IsLowest, IsFirstOn, IsFirstOf, IsFirstFault, IsAccepted}
use Rattle.lvish_checks.proofs.Order.{whole_passes}

-- no line fails a check
abbrev pub PassesBeside : List (List ℕ) → List Line → Option ℕ → Fault → Type 0
PassesBeside lines said bad_number f = (m : ℕ) → fails_beside lines said bad_number f m ≡ false

differ : (k m : ℕ) → m < k → (k == m) ≡ false
differ k m lt = by (k == m) refl
  where
    by : (b : Bool) → (k == m) ≡ b → (k == m) ≡ false
    by true e = absurd (let same : k ≡ m = (Decides-eqb k m).0 e in omega arith)
    by false e = e

-- what is found is the first on which it is found
pub found_first : (found : Option ℕ) → IsFirstOn (is_found found) found
found_first None = λ l. refl
found_first (Some k) = record { at = (Decides-eqb k k).1 refl; below = λ m lt. differ k m lt }

all_weaker : {X : Type 0} (P Q : X → Type 0) → ((x : X) → P x → Q x) → (xs : List X) → AllByRecursion P xs → AllByRecursion Q xs
all_weaker P Q h [] all = tt
all_weaker P Q h (x ∷ xs) all = (h x all.0, all_weaker P Q h xs all.1)

none_found : (test : ℕ → Bool) (found : Option ℕ) → IsFirstOn test found → ((m : ℕ) → is_found found m ≡ false) → (m : ℕ) → test m ≡ false
none_found test None first none = first
none_found test (Some k) first none = absurd (let e : is_found (Some k) k ≡ false = none k in let t : is_found (Some k) k ≡ true = (Decides-eqb k k).1 refl in cc)

lowest_found : (test : ℕ → Bool) (found : Option ℕ) (l : ℕ) → IsFirstOn test found → IsLowest (is_found found) l → IsLowest test l
lowest_found test None l first low = absurd (let e : is_found None l ≡ true = low.at in cc)
lowest_found test (Some k) l first low = subst (IsLowest test) ((Decides-eqb k l).0 low.at) first

module _ (bytes : List ℕ) (lines : List (List ℕ)) (words : List (List Word)) (said : List Line) (bad_number : Option ℕ) where
  abbrev pub text : Parts
  text = record { bytes = bytes; lines = lines; words = words; said = said }

  module _ (short : nat_lt MOST_BYTES (length bytes) ≡ false) (bad : IsFirstOn (on_line (λ k ws. list_any is_bad_number ws) words) bad_number) where
    passes : (f : Fault) → ((m : ℕ) → fails_beside lines said bad_number f m ≡ false) → (m : ℕ) → fails f text m ≡ false
    passes TooLong h = whole_passes _ short
    passes NotAscii h = h
    passes BadLine h = h
    passes BadNumber h = none_found _ bad_number bad h
    passes DoubleName h = h
    passes UnknownName h = h
    passes WrongKind h = h
    passes WrongCount h = h
    passes OpenBlock h = h
    passes Compatible h = h
    passes NoMain h = h
    passes TooMany h = h
    passes Memory h = h

    lowest : (f : Fault) (l : ℕ) → IsLowest (fails_beside lines said bad_number f) l → IsLowest (fails f text) l
    lowest TooLong l h = absurd (let e : false ≡ true = h.at in cc)
    lowest NotAscii l h = h
    lowest BadLine l h = h
    lowest BadNumber l h = lowest_found _ bad_number l bad h
    lowest DoubleName l h = h
    lowest UnknownName l h = h
    lowest WrongKind l h = h
    lowest WrongCount l h = h
    lowest OpenBlock l h = h
    lowest Compatible l h = h
    lowest NoMain l h = h
    lowest TooMany l h = h
    lowest Memory l h = h

    all_pass : (fs : List Fault) → AllByRecursion (PassesBeside lines said bad_number) fs → AllByRecursion (λ g. (m : ℕ) → fails g text m ≡ false) fs
    all_pass fs h = all_weaker _ _ passes fs h

    pub accepted_text : AllByRecursion (PassesBeside lines said bad_number) checks → IsAccepted text
    accepted_text h = all_pass checks h

    pub first_of_text : (f : Fault) (l : ℕ) → IsFirstOf (fails_beside lines said bad_number) f l → IsFirstFault text f l
    first_of_text f l h = record { passed = h.passed; rest = h.rest; order = h.order; earlier = all_pass h.passed h.earlier; lowest = lowest f l h.lowest }
