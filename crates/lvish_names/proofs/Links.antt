-- What a link says of the path that it ends.
use Rattle.std.proofs.Common.{◌≡◌, ◌<◌, Bool, false, [], ◌∷◌, length, Option, Some, None, option_map, Global, refl, arith}
use Rattle.std.specs.Arc.{arc_value}
use Rattle.lvish_names.specs.declared.path.Link.{Link, Link', None', Some', out-Link, roll-Link}
use Rattle.lvish_names.specs.declared.name_part.NamePart.{NamePart}
use Rattle.std.specs.declared.sync.Arc.{Arc}
use Rattle.lvish_names.specs.declared.name_part.NamePart.TheVariants.{Fork, Hand}
use Rattle.lvish_names.specs.Names.{same_name}
use Rattle.lvish_names.specs.Path.{link_parts, path_parts}
use Rattle.lvish_names.specs.Summaries.{IsSummed, IsPathSummed, summary_of, with_part}
use Rattle.lvish_names.specs.declared.summary.Summary.{Summary}

module _ {E : Type 0} where
  -- its last part, and those before it
  pub parts-link : (link : Link E) → link_parts link ≡ (out-Link E link).last ∷ path_parts (option_map arc_value (out-Link E link).before)
  unfolding out-Link denote.Hole.Carrier.out
  parts-link (Link' summary None' last) = refl
  parts-link (Link' summary (Some' p link) last) = refl

  -- the same, of a link that was made of them
  pub parts-roll : (last : NamePart E) (before : Option (Arc (Link E) Global)) (summary : Summary) → link_parts (roll-Link E (record { last = last; before = before; summary = summary })) ≡ last ∷ path_parts (option_map arc_value before)
  unfolding roll-Link denote.Hole.Carrier.roll
  parts-roll last None summary = refl
  parts-roll last (Some shared) summary = refl

  -- what is said of a link's path is what its summary says
  pub summary-link : (link : Link E) → IsSummed link → (out-Link E link).summary ≡ summary_of (link_parts link)
  unfolding out-Link denote.Hole.Carrier.out
  summary-link (Link' summary before last) s = s.0

  -- what is said of a link's path is said of those before it
  pub summed-link : (link : Link E) → IsSummed link → IsPathSummed (option_map arc_value (out-Link E link).before)
  unfolding out-Link denote.Hole.Carrier.out
  summed-link (Link' summary None' last) s = tt
  summed-link (Link' summary (Some' p link) last) s = s.1

  -- and follows from theirs, where the last link's summary is right
  pub summed-roll : (last : NamePart E) (before : Option (Arc (Link E) Global)) (summary : Summary) → IsPathSummed (option_map arc_value before) → summary ≡ with_part (summary_of (path_parts (option_map arc_value before))) last → IsSummed (roll-Link E (record { last = last; before = before; summary = summary }))
  unfolding roll-Link denote.Hole.Carrier.roll
  summed-roll last None summary s e = (e, tt)
  summed-roll last (Some shared) summary s e = (e, s)

  pub main_apart : (eq : E → E → Bool) (link : Link E) → same_name eq [] (link_parts link) ≡ false
  main_apart eq (Link' summary before (Fork i)) = refl
  main_apart eq (Link' summary before (Hand j e)) = refl

  pub main_apart_left : (eq : E → E → Bool) (link : Link E) → same_name eq (link_parts link) [] ≡ false
  main_apart_left eq (Link' summary before (Fork i)) = refl
  main_apart_left eq (Link' summary before (Hand j e)) = refl

  pub link_long : (link : Link E) → 0 < length (link_parts link)
  link_long (Link' summary before last) = omega arith
