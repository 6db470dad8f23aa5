-- A text that is being written.
use Rattle.std.specs.Prelude.{◌≡◌, ℕ, List, [], ◌∷◌, ◌++◌, Option, Some}
use Rattle.std.specs.Str.{IsUtf8}
use Rattle.json.specs.Token.{Token}
use Rattle.json.specs.Lex.{tokens}
use Rattle.json.specs.Print.{print}

-- where no growth was refused, these tokens stand behind what was there
abbrev pub Adds : Option (List Token) → Option (List Token) → List Token → Type 0
Adds old new ts = (b : List Token) → new ≡ Some b → (a : List Token) × (old ≡ Some a) × (b ≡ a ++ ts)

-- the bytes are the text of its tokens and a line end; a text that is read as them
pub record IsLineOfTokens (text : Option (List Token)) (bytes : List ℕ) : Type 0 where
  pub ts : List Token
  pub whole : text ≡ Some ts
  pub line : bytes ≡ print ts ++ 10 ∷ []
  pub reads_back : tokens (print ts) ≡ ts
  pub utf8 : IsUtf8 (print ts)
