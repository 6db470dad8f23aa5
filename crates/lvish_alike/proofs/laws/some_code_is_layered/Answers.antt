use Rattle.lvish_alike.proofs.LayeredExample as example
use Rattle.lvish_alike.proofs.laws.some_code_is_layered.Goals as goal

pub returns : goal.returns
returns c = (example.c, example.layered, example.freezes_it, example.runs_in_pool, example.writes_it)
