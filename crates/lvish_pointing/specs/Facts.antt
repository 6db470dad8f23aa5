-- The facts that a text states.
use Rattle.std.specs.Prelude.{◌≡◌, ◌==◌, ◌+◌, ◌<◌, ℕ, List, [], ◌∷◌, length, slice_get, codes, Option, Some, None, unwrap_or, if◌then◌else◌}
use Rattle.std.specs.List.{flat_map}
use Rattle.std.specs.Option.{option_map}
use Rattle.std.specs.Str.{bytes_eq}
use Rattle.lvish_checks.specs.Text.{lines_of, words_of}
use Rattle.lvish_facts.specs.Names.{Word}
use Rattle.lvish_pointing.specs.declared.fact.Kind.{Kind}
use Rattle.lvish_pointing.specs.declared.fact.Kind.TheVariants.{Address, Copy, Load, Store}
use Rattle.lvish_pointing.specs.declared.fact.Fact.{Fact}
use Rattle.lvish_pointing.specs.declared.fault.Expected.{Expected}
use Rattle.lvish_pointing.specs.declared.fault.Expected.TheVariants.{AKind, TwoNames}

-- the kind that a word names
abbrev pub kind_named : Word → Option Kind
kind_named w =
    if bytes_eq w (codes "address") then Some Address else
    if bytes_eq w (codes "copy") then Some Copy else
    if bytes_eq w (codes "load") then Some Load else
    if bytes_eq w (codes "store") then Some Store else None

-- the facts that a line of these words states: one, or none where there are no words
abbrev pub facts_on : List Word → List (Fact Word)
facts_on (word ∷ left ∷ right ∷ []) = unwrap_or (option_map (λ kind. record { kind = kind; left = left; right = right } ∷ []) (kind_named word)) []
facts_on words = []

-- the facts of a text, line after line
abbrev pub facts_of : List ℕ → List (Fact Word)
facts_of text = flat_map (λ line. facts_on (words_of line)) (lines_of text)

-- what is missing behind a word: two names, and no more, behind a kind
abbrev pub missing_after : Option Kind → List Word → Option Expected
missing_after None names = Some AKind
missing_after (Some kind) names = if length names == 2 then None else Some TwoNames

-- what is missing on a line of these words, nothing where it states a fact or has no words
abbrev pub missing_on : List Word → Option Expected
missing_on [] = None
missing_on (word ∷ names) = missing_after (kind_named word) names

-- nothing is missing on any line
abbrev pub IsAccepted : List ℕ → Type 0
IsAccepted text = (k : ℕ) (line : List ℕ) → slice_get (lines_of text) k ≡ Some line → missing_on (words_of line) ≡ None

-- no line states a fact, and nothing is missing
pub record IsEmpty (text : List ℕ) : Type 0 where
  pub accepted : IsAccepted text
  pub none : facts_of text ≡ []

-- this is missing on the line of this number, from 1, and nothing on the lines before it
pub record IsFirstFault (text : List ℕ) (number : ℕ) (expected : Expected) : Type 0 where
  pub place : ℕ
  pub line : List ℕ
  pub counted : number ≡ place + 1
  pub there : slice_get (lines_of text) place ≡ Some line
  pub missing : missing_on (words_of line) ≡ Some expected
  pub first : (k : ℕ) (other : List ℕ) → k < place → slice_get (lines_of text) k ≡ Some other → missing_on (words_of other) ≡ None
