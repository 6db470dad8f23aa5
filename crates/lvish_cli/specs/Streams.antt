-- What is read from a reader and written to a writer whose bytes are known.
use Rattle.std.specs.Prelude.{ℕ, ◌≤◌, List, length, take, Option}
use Rattle.std.specs.Io.KnownBytes.{Appends, Consumes}
use Rattle.lvish_cli.specs.declared.reading.TheConstants.{MOST_READ}

-- what is read of the bytes that a reader gives: all of them, or the first 65,537
unfoldable pub text_seen : List ℕ → List ℕ
text_seen given = take MOST_READ given

-- the reader lost at most `most` bytes from its front
abbrev pub GivesUpTo : ℕ → Option (List ℕ) → Option (List ℕ) → Type 0
GivesUpTo most old new = (bytes : List ℕ) × (length bytes ≤ most) × Consumes old new bytes

-- the writer took a front of the text and nothing else
abbrev pub TakesFront : Option (List ℕ) → Option (List ℕ) → List ℕ → Type 0
TakesFront old new text = (n : ℕ) × (n ≤ length text) × Appends old new (take n text)
