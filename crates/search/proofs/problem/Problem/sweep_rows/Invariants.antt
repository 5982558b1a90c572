use Rattle.programs.specs.Programs.{Model}
use Rattle.search.specs.Trails.{Advanced}
use Rattle.search.proofs.problem.Problem.sweep_rows.Given as goal

abbrev pub invariant-loop-rule : goal.invariant-loop-rule
invariant-loop-rule g l = Advanced (Model (g.S.RuleSource.program l.self.source.now)) l.initial.trail l.trail
