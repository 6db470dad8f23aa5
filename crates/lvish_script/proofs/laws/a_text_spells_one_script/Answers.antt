use Rattle.lvish_script.proofs.Unique.{one_version, one_declarations, one_procedures}
use Rattle.lvish_script.proofs.laws.a_text_spells_one_script.Goals as goal

pub returns-clause-version : goal.returns-clause-version
returns-clause-version c = one_version

pub returns-clause-declarations : goal.returns-clause-declarations
returns-clause-declarations c = one_declarations

pub returns-clause-procedures : goal.returns-clause-procedures
returns-clause-procedures c = one_procedures
