use Rattle.std.proofs.Common.{◌≤◌}
use Rattle.std.proofs.lemmas.Bool.{false≢true}
use Rattle.search.proofs.Halves.{contradiction_nogood, searched_model}
use Rattle.search.proofs.problem.Problem.search_from.Goals as goal

pub returns-then-not-agrees : goal.returns-then-not-agrees
returns-then-not-agrees g c =
    let p = g.S.RuleSource.program c.args.self.now.source.now in
    (contradiction_nogood p c.args.start (λ a. false≢true (c.if-not-agrees.ensures.1 a)), c.requires)

pub returns : goal.returns
returns g c =
    let p = g.S.RuleSource.program c.args.self.now.source.now in
    let found = c.search.ensures in
    (rw c.ok.ensures.value (searched_model p c.args.start (1 ≤ c.search.new.learned.nodes) c.search.result found.2 found.0), found.1)
