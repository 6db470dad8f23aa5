-- The frames below the innermost one, as they are kept.
use Rattle.std.specs.Prelude.{List, [], Option, None, Some, Vec}
use Rattle.std.specs.Arc.{arc_value}
use Rattle.std.specs.Global.{Global}
use Rattle.std.specs.declared.sync.Arc.{Arc}
use Rattle.lvish_task.specs.declared.frame.Frame.{Frame}

-- the frames that are shared, if any are, the innermost one last
abbrev pub frames_in : Option (Arc (Vec Frame Global) Global) → List Frame
frames_in None = []
frames_in (Some frames) = (arc_value frames).items
