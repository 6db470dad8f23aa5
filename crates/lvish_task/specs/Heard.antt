-- What a task is told.
use Rattle.std.specs.Prelude.{ℤ}
use Rattle.lvish_task.specs.Vocabulary.{Any}
use Rattle.lvish_calculus.specs.declared.request.Reply.{Reply}
use Rattle.lvish_calculus.specs.declared.request.Reply.TheVariants as reply
use Rattle.lvish_task.specs.declared.heard.Heard.{Heard}
use Rattle.lvish_task.specs.declared.heard.Heard.TheVariants as heard

-- the reply that tells this
abbrev pub said : Heard → Reply Any ℤ
said heard.Done = reply.Done
said (heard.Answer n) = reply.Answer n
said (heard.Content d) = reply.Content d.now
