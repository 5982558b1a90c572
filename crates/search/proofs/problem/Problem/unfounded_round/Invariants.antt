use Rattle.programs.specs.Literals.{Subset}
use Rattle.search.proofs.problem.Problem.unfounded_round.Given as goal

abbrev pub invariant-loop-rule : goal.invariant-loop-rule
invariant-loop-rule g l = Subset l.initial.grown l.grown
