use Rattle.programs.specs.Literals.{Subset}
use Rattle.search.specs.Rows.{BlocksAll}
use Rattle.search.proofs.problem.Problem.block_all.Given as goal

abbrev pub invariant-loop-rule : goal.invariant-loop-rule
invariant-loop-rule g l =
    let p = g.S.RuleSource.program l.self.source.now in
    Subset l.gathered l.known × BlocksAll p l.rule-items l.set l.rule-index l.gathered
