-- The text of an explanation.
use Rattle.std.specs.Prelude.{ℕ, ◌-◌, ◌||◌, ◌&&◌, ◌==◌, nat_le, codes, List, [], ◌∷◌, ◌++◌, map, replicate, Option, Some, None, if◌then◌else◌}
use Rattle.std.specs.Fmt.{decimal}
use Rattle.lvish_explain.specs.declared.reason.Reason.{Reason}
use Rattle.lvish_explain.specs.declared.hint.Hint.{Hint}
use Rattle.lvish_explain.specs.declared.hint.Hint.TheVariants.{Nothing, Text, Line, Near, Word, Takes}
use Rattle.lvish_explain.specs.declared.known.Known.{Known}
use Rattle.lvish_explain.specs.declared.mark.Mark.{Mark}
use Rattle.lvish_explain.specs.Reasons.{sentence_of}

-- a byte as it is shown: a space for a tab or a carriage return, and ? for another that can't be printed
abbrev pub shown_byte : ℕ → ℕ
shown_byte b = if nat_le 32 b && nat_le b 126 then b else if b == 9 || b == 13 then 32 else 63

-- the column where the carets begin
abbrev pub column_text : Option Mark → List ℕ
column_text None = []
column_text (Some m) = 58 ∷ decimal m.column

-- line and column, unless it is the whole text
abbrev pub line_text : ℕ → Option Mark → List ℕ
line_text n mark = if n == 0 then [] else 58 ∷ (decimal n ++ column_text mark)

abbrev pub place_text : List ℕ → ℕ → Option Mark → List ℕ
place_text file n mark = file ++ (line_text n mark ++ codes ": ")

-- the line, and carets under the marked bytes of it
abbrev pub quote_text : List ℕ → Option Mark → List ℕ
quote_text line None = []
quote_text line (Some m) = codes "    " ++ (map shown_byte line ++ (10 ∷ codes "    " ++ (replicate (m.column - 1) 32 ++ (replicate m.length 94 ++ 10 ∷ []))))

-- a hint that is the same for every text
abbrev pub said_hint : List ℕ → List ℕ
said_hint t = codes "hint: " ++ (t ++ 10 ∷ [])

-- what a line does
abbrev pub line_hint : ℕ → List ℕ → List ℕ
line_hint n t = codes "hint: line " ++ (decimal n ++ 32 ∷ (t ++ 10 ∷ []))

-- a declared name that is near
abbrev pub near_hint : Known → List ℕ
near_hint k = codes "hint: line " ++ (decimal k.line ++ (codes " declares `" ++ (map shown_byte k.name.now ++ (codes "`, which is near" ++ 10 ∷ []))))

-- a first word that is near
abbrev pub word_hint : List ℕ → List ℕ
word_hint w = codes "hint: `" ++ (map shown_byte w ++ (codes "` is near" ++ 10 ∷ []))

-- how many parameters a procedure has
abbrev pub takes_hint : ℕ → ℕ → List ℕ
takes_hint n c = codes "hint: line " ++ (decimal n ++ (codes " declares it with this number of parameters: " ++ (decimal c ++ 10 ∷ [])))

-- the line of a hint, if there is one
abbrev pub hint_text : Hint → List ℕ
hint_text Nothing = []
hint_text (Text t) = said_hint t.now
hint_text (Line n t) = line_hint n t.now
hint_text (Near k) = near_hint k
hint_text (Word w) = word_hint w.now
hint_text (Takes n c) = takes_hint n c

-- all of it
abbrev pub explanation : List ℕ → ℕ → List ℕ → Option Mark → Reason → Hint → List ℕ
explanation file number line mark reason hint = place_text file number mark ++ (sentence_of reason ++ 10 ∷ (quote_text line mark ++ hint_text hint))
