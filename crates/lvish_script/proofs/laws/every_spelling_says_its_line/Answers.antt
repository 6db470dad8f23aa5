use Rattle.lvish_script.proofs.Respelling.{says_its_lines}
use Rattle.lvish_script.proofs.laws.every_spelling_says_its_line.Goals as goal

pub returns : goal.returns
returns c = says_its_lines
