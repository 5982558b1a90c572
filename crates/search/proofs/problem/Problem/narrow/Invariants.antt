use Rattle.programs.specs.Programs.{Model}
use Rattle.search.specs.Trails.{Advanced}
use Rattle.search.proofs.problem.Problem.narrow.Given as goal

abbrev pub invariant-loop : goal.invariant-loop
invariant-loop g l = Advanced (Model (g.S.RuleSource.program l.self.source.now)) l.initial.trail l.trail
