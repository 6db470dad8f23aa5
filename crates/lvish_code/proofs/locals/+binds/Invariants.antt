use Rattle.std.proofs.Common.{◌≡◌, take}
use Rattle.std.specs.List.{fold, flat_map}
use Rattle.lvish_code.specs.Numbering.{with_name}
use Rattle.lvish_code.specs.Compile.{binds_of}
use Rattle.lvish_code.proofs.locals.+binds.Given as goal

abbrev pub invariant-add_in_block-loop-statement : goal.invariant-add_in_block-loop-statement
invariant-add_in_block-loop-statement l = l.locals ≡ fold with_name l.initial.locals (flat_map binds_of (take l.statement-index l.statement-items))
