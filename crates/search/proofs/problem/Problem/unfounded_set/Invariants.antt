use Rattle.programs.specs.Literals.{Subset}
use Rattle.search.proofs.problem.Problem.unfounded_set.Given as goal

abbrev pub invariant-loop : goal.invariant-loop
invariant-loop g l = Subset l.initial.set l.set
