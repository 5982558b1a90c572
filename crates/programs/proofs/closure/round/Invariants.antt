use Rattle.std.proofs.Common.{◌≤◌, length}
use Rattle.programs.specs.Steps.{Grown}
use Rattle.programs.proofs.closure.round.Given as goal

abbrev pub invariant-loop-i : goal.invariant-loop-i
invariant-loop-i g l =
    let p = g.S.RuleSource.program l.source in
    (l.i ≤ length p.rules) × Grown p l.marks l.i l.initial.grown l.grown
