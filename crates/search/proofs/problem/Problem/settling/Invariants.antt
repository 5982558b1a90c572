use Rattle.programs.specs.Literals.{Subset}
use Rattle.programs.specs.Programs.{rule_at}
use Rattle.programs.specs.Questions.{Settles}
use Rattle.search.proofs.problem.Problem.settling.Given as goal

abbrev pub invariant-loop-atom : goal.invariant-loop-atom
invariant-loop-atom g l =
    let p = g.S.RuleSource.program l.self.source.now in
    Subset l.needed l.initial.needed × Settles p.atoms (rule_at p l.rule.number).justification l.needed l.holds
