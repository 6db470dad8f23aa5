use Rattle.std.proofs.Common.{[], refl}
use Rattle.lvish_run.proofs.queue.Queue.pop_oldest.Goals as goal

pub returns-in-Some : goal.returns-in-Some
returns-in-Some g c = (([], c.pop_front.new.self.items, c.in-Some.ensures.items, refl), refl, refl)
