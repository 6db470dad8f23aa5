-- The parts of a name, link by link.
use Rattle.std.specs.Prelude.{[], ◌∷◌, Option, Some, None}
use Rattle.lvish_names.specs.declared.path.Link.{Link, Link', Held-Link-before, None', Some'}
use Rattle.lvish_names.specs.Names.{Name}

abbrev mutual
  -- the parts that a link ends, the last one first
  pub link_parts : {E : Type 0} → Link E → Name E
  link_parts (Link' summary before last) = last ∷ held_parts before

  pub held_parts : {E : Type 0} → Held-Link-before E → Name E
  held_parts None' = []
  held_parts (Some' p link) = link_parts link

-- the parts of a path, which main has none of
abbrev pub path_parts : {E : Type 0} → Option (Link E) → Name E
path_parts None = []
path_parts (Some link) = link_parts link
