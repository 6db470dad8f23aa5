-- The lines that the program prints where it prints no report.
use Rattle.std.specs.Prelude.{ℕ, List, [], ◌∷◌, ◌++◌, Option, Some, None, codes, decimal}
use Rattle.lvish_again.specs.Text.{picks_text as some_picks_text}
use Rattle.lvish_json.specs.declared.alike.Alike.{Alike}
use Rattle.lvish_json.specs.declared.alike.Alike.TheVariants.{Always, Ends, Unknown}

-- the text, and the end of its line
abbrev pub text_line : List ℕ → List ℕ
text_line text = text ++ 10 ∷ []

-- a script has no fault
abbrev pub ok_text : List ℕ
ok_text = text_line (codes "ok")

-- after how many steps each run of a script has ended, or that it isn't known
abbrev pub bound_text : Option ℕ → List ℕ
bound_text (Some n) = text_line (codes "always ends " ++ decimal n)
bound_text None = text_line (codes "unknown")

-- what is known of a script's ends: after how many steps each run has come to the same one, or whether all without an error are the same
abbrev pub alike_text : Alike → List ℕ
alike_text (Always n) = text_line (codes "always alike " ++ decimal n)
alike_text Ends = text_line (codes "ends alike")
alike_text Unknown = text_line (codes "unknown")

-- a script's fault, by its number and its name, and its line
abbrev pub refusal_text : ℕ → List ℕ → ℕ → List ℕ
refusal_text number name line = codes "refused " ++ (decimal number ++ (codes " " ++ (name ++ (codes " line " ++ (decimal line ++ 10 ∷ [])))))

-- the picks that make a run again
abbrev pub picks_text : List ℕ → List ℕ
picks_text picks = codes "picks" ++ (some_picks_text picks ++ 10 ∷ [])
