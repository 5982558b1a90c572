use Rattle.std.proofs.Common.{refl}
use Rattle.programs.specs.Programs.{Model}
use Rattle.search.proofs.Reasons.{narrowed_for, subset_true}
use Rattle.search.proofs.Rules.{row_known, row_unknown}
use Rattle.search.proofs.problem.Problem.step.Goals as goal

pub returns-then-is_some : goal.returns-then-is_some
returns-then-is_some g c =
    let p = g.S.RuleSource.program c.args.self.now.source.now in
    let k = c.args.rule.now in
    narrowed_for (Model p) k.row c.args.trail.now c.apply.new.self c.apply.result (row_known p k c.if-is_some.ensures c.requires) c.apply.ensures

pub returns-in-Some : goal.returns-in-Some
returns-in-Some g c =
    let p = g.S.RuleSource.program c.args.self.now.source.now in
    let k = c.args.rule.now in
    let N = c.union.result in
    let R = c.in-Some.settling in
    narrowed_for (Model p) N c.args.trail.now c.apply-in-Some.new.self c.apply-in-Some.result
    (λ w m all.
    row_unknown p k c.if-is_some.ensures c.requires w m
    ((c.in-Some.ensures.1 w m.interpretation (subset_true R N w c.union.ensures.right all)).0 refl)
    (subset_true k.row N w c.union.ensures.left all))
    c.apply-in-Some.ensures
