use Rattle.std.proofs.Common.{◌≡◌, drop}
use Rattle.std.specs.List.{list_all}
use Rattle.lvish_syntax.specs.Version.{is_term_in}
use Rattle.lvish_checks.proofs.version.are_terms_in.Given as goal

abbrev pub invariant-loop-term : goal.invariant-loop-term
invariant-loop-term l = list_all (is_term_in l.version) (drop l.term-index l.terms) ≡ list_all (is_term_in l.version) l.terms
