-- How names are printed: main, then a slash and the text of each part.
use Rattle.std.specs.Prelude.{ℕ, ℤ, List, ◌++◌, codes}
use Rattle.std.specs.Fmt.{decimal, signed_decimal}
use Rattle.lvish_names.specs.declared.name_part.NamePart.{NamePart}
use Rattle.lvish_names.specs.declared.name_part.NamePart.TheVariants.{Fork, Hand}
use Rattle.lvish_names.specs.Names.{Name, Handler, main, forked, handed}

module _ {E : Type 0} (key number : E → ℤ) where
  -- I for the I-th fork, and hJ:KEY:NUMBER for the event that the J-th handler is handed
  abbrev pub part_text : NamePart E → List ℕ
  part_text (Fork i) = decimal i
  part_text (Hand j e) = codes "h" ++ decimal j ++ codes ":" ++ signed_decimal (key e) ++ codes ":" ++ signed_decimal (number e)

  abbrev pub name_text : Name E → List ℕ
  name_text main = codes "main"
  name_text (forked t i) = name_text t ++ codes "/" ++ part_text (Fork i)
  name_text (handed t j e) = name_text t ++ codes "/" ++ part_text (Hand j e)

  -- the adder's text, and /hJ for its J-th handler
  abbrev pub handler_text : Handler E → List ℕ
  handler_text h = name_text h.adder ++ codes "/h" ++ decimal h.number
