-- The version of lines, by the first of them with words.
use Rattle.std.proofs.Common.{◌≡◌, true, false, List, [], ◌∷◌, refl}
use Rattle.lvish_checks.specs.Vocabulary.{Line, Blank}
use Rattle.lvish_checks.specs.Checks.{is_told, version_of}

pub version_told : (x : Line) (ls : List Line) → is_told x ≡ true → version_of (x ∷ ls) ≡ version_of (x ∷ [])
version_told Blank ls e = absurd cc
version_told x ls e = refl

pub version_blank : (x : Line) (ls : List Line) → is_told x ≡ false → version_of (x ∷ ls) ≡ version_of ls
version_blank Blank ls e = refl
version_blank x ls e = absurd cc
