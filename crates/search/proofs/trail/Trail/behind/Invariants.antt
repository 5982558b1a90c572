use Rattle.std.proofs.Common.{◌^◌, ◌<◌}
use Rattle.programs.specs.Literals.{Subset}
use Rattle.search.proofs.Reasons.{Gathers}
use Rattle.search.proofs.trail.Trail.behind.Given as goal

-- of each atom that became known on the way, it is still to come or its reason is gathered
abbrev pub invariant-loop-atom : goal.invariant-loop-atom
invariant-loop-atom l =
    (l.rest < 2 ^ 64)
    × Subset l.reason l.self.start
    × Subset l.initial.reason l.reason
    × Gathers l.initial.rest l.self.reasons l.rest l.reason

abbrev pub decreases-loop-atom : goal.decreases-loop-atom
decreases-loop-atom l = l.rest
