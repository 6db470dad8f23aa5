use Rattle.lvish_picture.proofs.Worked.{halfway_pictured}
use Rattle.lvish_picture.proofs.examples.halfway.Goals as goal

pub returns-clause-pictured : goal.returns-clause-pictured
returns-clause-pictured g = halfway_pictured.0

pub returns-clause-counted : goal.returns-clause-counted
returns-clause-counted g = halfway_pictured.1
