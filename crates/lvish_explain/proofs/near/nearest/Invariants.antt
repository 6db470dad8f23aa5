use Rattle.std.proofs.Common.{◌≡◌, ◌≤◌, take}
use Rattle.std.specs.Prelude.{Contains, MatchOption}
use Rattle.std.specs.List.{All}
use Rattle.lvish_explain.specs.declared.known.Known.{Known}
use Rattle.lvish_explain.specs.Near.{edits}
use Rattle.lvish_explain.proofs.near.nearest.Given as goal

-- the best so far, and how many edits lead to it, or 3
abbrev pub invariant-loop-known : goal.invariant-loop-known
invariant-loop-known l = record {
  best : MatchOption l.best (l.least ≡ 3) (λ (b : Known). Contains l.names b × (edits b.name.now l.word ≡ l.least) × (l.least ≤ 2));
  others : All (λ (k : Known). l.least ≤ edits k.name.now l.word) (take l.known-index l.names);
}
