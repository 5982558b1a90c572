use Rattle.programs.specs.Programs.{Model}
use Rattle.search.proofs.Reasons.{advanced_then, refuted_out}
use Rattle.search.proofs.problem.Problem.narrow.Goals as goal

pub returns-in_err-round : goal.returns-in_err-round
returns-in_err-round g c =
    let H = Model (g.S.RuleSource.program c.args.self.now.source.now) in
    refuted_out H c.args.trail.now c.loop.trail _ c.from_residual.result _ c.from_residual.ensures.1 c.loop.invariant c.in_err-round.ensures

pub loop-preserved : goal.loop-preserved
loop-preserved g c =
    let H = Model (g.S.RuleSource.program c.args.self.now.source.now) in
    advanced_then H c.args.trail.now c.loop.trail _ c.loop.invariant c.in_ok-round.ensures

pub returns-then-not-branch : goal.returns-then-not-branch
returns-then-not-branch g c =
    let H = Model (g.S.RuleSource.program c.args.self.now.source.now) in
    advanced_then H c.args.trail.now c.loop.trail _ c.loop.invariant c.in_ok-round.ensures
