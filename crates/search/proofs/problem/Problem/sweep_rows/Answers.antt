use Rattle.std.proofs.Common.{arith}
use Rattle.programs.specs.Programs.{Model}
use Rattle.search.proofs.Props.{kept_at}
use Rattle.search.proofs.Reasons.{advanced_then, refuted_out}
use Rattle.search.proofs.problem.Problem.sweep_rows.Goals as goal

pub step-requires : goal.step-requires
step-requires g c =
    let p = g.S.RuleSource.program c.args.self.now.source.now in
    let x = c.args.self.now in
    (kept_at p x.rules.now x.prepared c.loop-rule.rule-index (omega arith) _).holds

pub returns-in_err-grew : goal.returns-in_err-grew
returns-in_err-grew g c =
    let H = Model (g.S.RuleSource.program c.args.self.now.source.now) in
    refuted_out H c.args.trail.now c.loop-rule.trail _ c.from_residual.result _ c.from_residual.ensures.1 c.loop-rule.invariant c.in_err-grew.ensures

pub loop-rule-preserved : goal.loop-rule-preserved
loop-rule-preserved g c =
    let H = Model (g.S.RuleSource.program c.args.self.now.source.now) in
    advanced_then H c.args.trail.now c.loop-rule.trail _ c.loop-rule.invariant c.in_ok-grew.ensures
