use Rattle.search.proofs.Halves.{settled_model, settled_none}
use Rattle.search.proofs.problem.Problem.settle.Goals as goal

pub returns-then-eq : goal.returns-then-eq
returns-then-eq g c =
    let p = g.S.RuleSource.program c.args.self.now.source.now in
    settled_model p c.args.trail.now c.requires.0 c.requires.1 _ c.check.result c.check.ensures c.if-eq.ensures

pub returns-else-eq : goal.returns-else-eq
returns-else-eq g c =
    let p = g.S.RuleSource.program c.args.self.now.source.now in
    (λ l m. m, settled_none p c.args.trail.now c.requires.0 c.requires.1 _ c.check.result c.check.ensures c.if-eq.ensures)
