use Rattle.std.proofs.Common.{rules, ap, ◌∙◌}
use Rattle.lvish_calculus.specs.Program.{machine_of}
use Rattle.lvish_run.proofs.Reports.{named_all, named_long, named_trace, told_honest, told_alike, well_handed}
use Rattle.lvish_run.proofs.closing.report_over.Goals as goal

pub report-requires : goal.report-requires
report-requires g c = named_all _ _ _ c.args.board.trace c.in_ok-account.ensures.names c.into_parts-core.ensures.trace c.into_parts-core.ensures.noted

pub returns-clause-told : goal.returns-clause-told
returns-clause-told g c =
    let names = c.in_ok-account.ensures.names in
    let honest = told_honest (λ p. machine_of g.P.Lat.PartialEq.eq g.P.Lat.Event.PartialEq.eq g.P.Lat.Event.Ord.cmp g.P.Lat.Lattice.least g.P.Lat.Lattice.joined g.P.Lat.Lattice.events_of g.P.Lat.Reads.answer_of (g.P.Program.functions p)) (λ p. (g.P.Program.functions p).variables) g.B.BoardBrand.program g.B.BoardBrand.budget c.args.board _ _ _ _ _ _ _ _ _ _
    c.into_parts-core.ensures.sound c.into_parts-core.ensures.core (named_trace _ _ _ _ names c.into_parts-core.ensures.trace) c.requires.over c.in_ok-account.ensures.outcome c.in_ok-account.ensures.account
    (named_long _ _ _ _ names c.into_parts-core.ensures.trace _ (search rules)) c.report.ensures _ c.requires.counts c.in_ok-account.ensures.freezes in
    record {
      honest = honest;
      handed = well_handed _ _ _ _ _ (c.handing_kept.ensures g.B.BoardBrand.program) honest;
      alike = told_alike (λ p. machine_of g.P.Lat.PartialEq.eq g.P.Lat.Event.PartialEq.eq g.P.Lat.Event.Ord.cmp g.P.Lat.Lattice.least g.P.Lat.Lattice.joined g.P.Lat.Lattice.events_of g.P.Lat.Reads.answer_of (g.P.Program.functions p)) (λ p. (g.P.Program.functions p).variables) g.B.BoardBrand.program g.B.BoardBrand.budget c.args.board _ _ _ _ _ _ _ _ _ _
          c.into_parts-core.ensures.sound c.into_parts-core.ensures.core (named_trace _ _ _ _ names c.into_parts-core.ensures.trace) c.requires.over c.in_ok-account.ensures.outcome c.in_ok-account.ensures.account
          (named_long _ _ _ _ names c.into_parts-core.ensures.trace _ (search rules)) c.report.ensures
          (c.same_end.ensures.uncrossed _) (c.same_end.ensures.one_asks _) (c.same_end.ensures.no_error _);
      least = c.honest_contents.ensures.least g.B.BoardBrand.program _ _ _ honest;
      closed = c.honest_contents.ensures.closed g.B.BoardBrand.program _ _ _ honest;
    }

pub returns-clause-trace : goal.returns-clause-trace
returns-clause-trace g c = ap (λ x. x.trace) c.report.ensures ∙ named_trace _ _ _ _ c.in_ok-account.ensures.names c.into_parts-core.ensures.trace
