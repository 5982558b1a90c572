use Rattle.search.specs.Rows.{Learns}
use Rattle.search.proofs.Parts.{NoneIn}
use Rattle.search.proofs.problem.Problem.search_above.Given as goal

abbrev pub invariant-loop-atom : goal.invariant-loop-atom
invariant-loop-atom g l =
    let p = g.S.RuleSource.program l.self.source.now in
    Learns p l.learned × NoneIn p l.given l.mark l.atom
