-- What is answered to bytes that are formatted.
use Rattle.std.specs.Prelude.{◌≡◌, ◌<◌, ◌⊎◌, ℕ, List, length}
use Rattle.lvish_checks.specs.Fault.{fault_number, fault_name}
use Rattle.lvish_checks.specs.declared.fault.Fault.TheVariants as fault
use Rattle.lvish_syntax.specs.declared.limits.TheConstants.{MOST_BYTES}
use Rattle.lvish_format.specs.Format.{formatted}
use Rattle.lvish_format.specs.Same.{SpellTheSame}
use Rattle.lvish_cli.specs.declared.status.Status.{Status}
use Rattle.lvish_cli.specs.declared.status.Status.TheVariants.{Done, Refused}
use Rattle.lvish_cli.specs.Lines.{refusal_text}

-- the bytes in one layout, which says the same; or that they are too long for a script, or would be
abbrev pub IsFormatAnswer : List ℕ → Status → List ℕ → Type 0
IsFormatAnswer input status text =
    ((status ≡ Done) × (text ≡ formatted input) × SpellTheSame input text)
    ⊎ ((status ≡ Refused) × (text ≡ refusal_text (fault_number fault.TooLong) (fault_name fault.TooLong) 0) × ((MOST_BYTES < length input) ⊎ (MOST_BYTES < length (formatted input))))
