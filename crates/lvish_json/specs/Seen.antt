-- What is seen of a text that is being written.
use Rattle.std.specs.Prelude.{Bool, List, Option, Some, None, if◌then◌else◌}
use Rattle.json.specs.Token.{Token}

-- its tokens; nothing where a growth was refused
abbrev pub seen : Bool → List Token → Option (List Token)
seen whole ts = if whole then Some ts else None
