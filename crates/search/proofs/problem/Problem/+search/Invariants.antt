use Rattle.std.proofs.Common.{◌≡◌, ℕ, ◌+◌, ◌-◌, ◌≤◌}
use lib.Count.{ones}
use Rattle.programs.specs.Programs.{Model}
use Rattle.search.specs.Rows.{Learns}
use Rattle.search.specs.Trails.{Respects}
use Rattle.search.proofs.problem.Problem.+search.Given as goal

-- each node starts from more literals than the one above it, and there are at most 128
abbrev pub decreases-search : goal.decreases-search
decreases-search g l = 128 - (ones l.start.positive + ones l.start.negative)

abbrev pub invariant-loop-reason : goal.invariant-loop-reason
invariant-loop-reason g l =
    let p = g.S.RuleSource.program l.self.source.now in
    (l.trail.start ≡ l.initial.trail.start)
    × ((w : ℕ) → Model p w → Respects w l.trail)
    × Learns p l.learned
    × (1 ≤ l.learned.nodes)

-- each turn but the last makes a literal known
abbrev pub decreases-loop-reason : goal.decreases-loop-reason
decreases-loop-reason g l = 128 - (ones l.trail.known.positive + ones l.trail.known.negative)
