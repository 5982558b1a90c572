use Rattle.programs.specs.Programs.{Model}
use Rattle.search.proofs.Reasons.{advanced_then, refuted_out}
use Rattle.search.proofs.problem.Problem.exclude_unfounded.Goals as goal

pub returns-in_err-grew : goal.returns-in_err-grew
returns-in_err-grew g c =
    let H = Model (g.S.RuleSource.program c.args.self.now.source.now) in
    refuted_out H c.args.trail.now c.loop-atom.trail _ c.from_residual.result _ c.from_residual.ensures.1 c.loop-atom.invariant c.in_err-grew.ensures

pub returns-in_err-grew-2 : goal.returns-in_err-grew-2
returns-in_err-grew-2 g c =
    let H = Model (g.S.RuleSource.program c.args.self.now.source.now) in
    let t = c.args.trail.now in
    let u = c.exclude.new.trail in
    refuted_out H t u _ c.from_residual-in_err-grew-2.result _ c.from_residual-in_err-grew-2.ensures.1 (advanced_then H t c.loop-atom.trail u c.loop-atom.invariant c.in_ok-grew.ensures) c.in_err-grew-2.ensures

pub loop-atom-preserved : goal.loop-atom-preserved
loop-atom-preserved g c =
    let H = Model (g.S.RuleSource.program c.args.self.now.source.now) in
    let t = c.args.trail.now in
    let u = c.exclude.new.trail in
    advanced_then H t u _ (advanced_then H t c.loop-atom.trail u c.loop-atom.invariant c.in_ok-grew.ensures) c.in_ok-grew-2.ensures
