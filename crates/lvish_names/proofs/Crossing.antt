-- Names may go to another thread, and be seen from one, where their events may. Each fact is one step of a
-- search, which would else go down all links of each name that a value holds, and give up.
use denote.RattleType.{RattleType}
use denote.Hole.{as_row}
use denote.Hole.FixSend.{Crosses, both_send, both_sync}
use denote.Param.Send.{IsSend, IsSync, view_send, view_sync, sendable}
use denote.Param.SendFields.{as_row_send, as_row_sync, declared_send, declared_sync}
use denote.Struct.Field.{row_field, u64-field}
use Rattle.std.proofs.Crossing.{Arc-send, Arc-sync}
use Rattle.std.specs.contracts.alloc.Global as Global
use Rattle.std.specs.contracts.impls.GlobalAllocator.TheImpl.{ghosts}
use Rattle.std.specs.contracts.option.Option as Option
use Rattle.std.specs.contracts.sync.Arc as Arc
use Rattle.lvish_names.specs.contracts.handler_name.HandlerName as HandlerName
use Rattle.lvish_names.specs.contracts.handler_name.HandlerName.TheInside as inside_handler
use Rattle.lvish_names.specs.contracts.name_part.NamePart as NamePart
use Rattle.lvish_names.specs.contracts.path.Link as Link
use Rattle.lvish_names.specs.contracts.summary.Summary as Summary
use Rattle.lvish_names.specs.contracts.path.Link.TheKnot.{ring, the_members, member-Link, type-Link, hole-Link}
use Rattle.lvish_names.specs.contracts.task_name.TaskName as TaskName
use Rattle.lvish_names.specs.contracts.task_name.TaskName.TheInside as inside_name
use Rattle.lvish_names.specs.declared.path.Link.TheBlock as block

-- a path whose links are h
abbrev Path : RattleType → RattleType
Path h = Option.the_row (Arc.the_row h Global.the_row ghosts)

path_send : (h : RattleType) → IsSend h → IsSync h → IsSend (Path h)
path_send h s y = let arc = Arc-send h s y in search sendable depth 20

path_sync : (h : RattleType) → IsSend h → IsSync h → IsSync (Path h)
path_sync h s y = let arc = Arc-sync h s y in search sendable depth 20

number_send : IsSend (as_row u64-field)
number_send = search sendable depth 20

number_sync : IsSync (as_row u64-field)
number_sync = search sendable depth 20

summary_send : IsSend (as_row Summary.the_field)
summary_send = search sendable depth 20

summary_sync : IsSync (as_row Summary.the_field)
summary_sync = search sendable depth 20

module _ (T : RattleType) (s : IsSend T) (y : IsSync T) where
  part_send : IsSend (NamePart.the_row T)
  part_send = search sendable depth 20

  part_sync : IsSync (NamePart.the_row T)
  part_sync = search sendable depth 20

  -- the links before a link are the rows h, in the step by which a link's fact follows from theirs
  before_send : (h : RattleType) → IsSend h → IsSync h → IsSend (as_row (row_field (Path h)))
  before_send h hs hy = as_row_send (row_field (Path h)) (path_send h hs hy)

  before_sync : (h : RattleType) → IsSend h → IsSync h → IsSync (as_row (row_field (Path h)))
  before_sync h hs hy = as_row_sync (row_field (Path h)) (path_sync h hs hy)

  crossing : (i : the_members T) → Crosses (ring T) i
  crossing block.member-Link = let last = row_field (NamePart.the_row T) in let m = member-Link T in record {
    send = λ h hs hy. declared_send (type-Link T (h m)) (summary_send, (before_send (h m) (hs m) (hy m), (as_row_send last part_send, tt)));
    sync = λ h hs hy. declared_sync (type-Link T (h m)) (summary_sync, (before_sync (h m) (hs m) (hy m), (as_row_sync last part_sync, tt)));
  }

  hole_send : IsSend (hole-Link T)
  hole_send = both_send (ring T) crossing (member-Link T)

  hole_sync : IsSync (hole-Link T)
  hole_sync = both_sync (ring T) crossing (member-Link T)

  link_send : IsSend (Link.the_row T)
  link_send = declared_send (Link.the_type T) (summary_send, (before_send (hole-Link T) hole_send hole_sync, (part_send, tt)))

  link_sync : IsSync (Link.the_row T)
  link_sync = declared_sync (Link.the_type T) (summary_sync, (before_sync (hole-Link T) hole_send hole_sync, (part_sync, tt)))

  pub name_send : IsSend (TaskName.the_row T)
  name_send = view_send (inside_name.the_row T) _ _ _ _ (declared_send (inside_name.the_type T) (path_send (Link.the_row T) link_send link_sync, tt))

  pub name_sync : IsSync (TaskName.the_row T)
  name_sync = view_sync (inside_name.the_row T) _ _ _ _ (declared_sync (inside_name.the_type T) (path_sync (Link.the_row T) link_send link_sync, tt))

  pub handler_send : IsSend (HandlerName.the_row T)
  handler_send = view_send (inside_handler.the_row T) _ _ _ _ (declared_send (inside_handler.the_type T) (as_row_send (TaskName.the_field T) name_send, (number_send, tt)))

  pub handler_sync : IsSync (HandlerName.the_row T)
  handler_sync = view_sync (inside_handler.the_row T) _ _ _ _ (declared_sync (inside_handler.the_type T) (as_row_sync (TaskName.the_field T) name_sync, (number_sync, tt)))

pub ruleset crosses = (name_send, name_sync, handler_send, handler_sync)
