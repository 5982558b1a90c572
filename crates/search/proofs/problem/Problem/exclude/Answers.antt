use Rattle.std.proofs.Common.{arith}
use Rattle.programs.specs.Programs.{Model}
use Rattle.search.proofs.Props.{kept_prepared}
use Rattle.search.proofs.Reasons.{narrowed_for, subset_true}
use Rattle.search.proofs.Rules.{unfounded}
use Rattle.search.proofs.problem.Problem.exclude.Goals as goal

pub returns : goal.returns
returns g c =
    let p = g.S.RuleSource.program c.args.self.now.source.now in
    let f = g.met.S.RuleSource.fits c.args.self.now.source.now in
    let rules = c.args.self.now.rules.now in
    let l = c.args.literal in
    let X = c.unfounded_set-set.result in
    let B = c.in-Some.blockers in
    let N = c.plus.result in
    let added = c.plus.ensures.1 in
    narrowed_for (Model p) N c.args.trail.now c.apply.new.self c.apply.result
    (λ w m all.
    unfounded p f rules X B w l (omega (arith, c.unfounded_set-set.type_inv)) (omega (arith, c.unfounded_set-set.type_inv)) (kept_prepared p rules c.args.self.now.prepared) c.in-Some.ensures.1 m
    (subset_true B N w added.kept all)
    c.requires
    (c.unfounded_set-set.ensures l c.plus-alone.ensures.1.has)
    (all l added.has))
    c.apply.ensures
