use Rattle.programs.specs.Programs.{Model}
use Rattle.search.specs.Trails.{Advanced}
use Rattle.search.proofs.problem.Problem.exclude_unfounded.Given as goal

abbrev pub invariant-loop-atom : goal.invariant-loop-atom
invariant-loop-atom g l = Advanced (Model (g.S.RuleSource.program l.self.source.now)) l.initial.trail l.trail
