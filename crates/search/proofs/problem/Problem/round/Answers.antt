use Rattle.std.proofs.Common.{ℕ, List}
use Rattle.std.specs.List.{All}
use Rattle.programs.specs.declared.literal.LiteralSet.{LiteralSet}
use Rattle.programs.specs.Programs.{Program, Model}
use Rattle.search.specs.Nogoods.{Avoids, NoGood}
use Rattle.search.specs.Trails.{Advanced}
use Rattle.search.specs.declared.trail.Trail.{Trail}
use Rattle.search.proofs.Reasons.{advanced_then, advanced_for, refuted_out, refuted_for, narrowed_then, learned_avoids}
use Rattle.search.proofs.problem.Problem.round.Goals as goal

-- the rows, and then the learned sets
by_both : (p : Program) (sets : List LiteralSet) (t u v : Trail) → All (NoGood p) sets → Advanced (Model p) t u → Advanced (λ w. All (λ N. Avoids N w) sets) u v → Advanced (Model p) t v
by_both p sets t u v each a b = advanced_then (Model p) t u v a (advanced_for (Model p) (λ w. All (λ N. Avoids N w) sets) (learned_avoids p sets each) u v b)

pub returns-in_err-sweep_learned : goal.returns-in_err-sweep_learned
returns-in_err-sweep_learned g c =
    let p = g.S.RuleSource.program c.args.self.now.source.now in
    let sets = c.args.learned.now.sets.items in
    let H : ℕ → Type 0 = λ w. All (λ N. Avoids N w) sets in
    let u = c.sweep_rows.new.trail in
    refuted_out (Model p) c.args.trail.now u _ c.from_residual-in_err-sweep_learned.result _ c.from_residual-in_err-sweep_learned.ensures.1 c.in_ok-sweep_rows.ensures
    (refuted_for (Model p) H (learned_avoids p sets c.requires) u _ c.in_err-sweep_learned.ensures)

pub returns-then-branch-2 : goal.returns-then-branch-2
returns-then-branch-2 g c =
    let p = g.S.RuleSource.program c.args.self.now.source.now in
    by_both p c.args.learned.now.sets.items c.args.trail.now c.sweep_rows.new.trail _ c.requires c.in_ok-sweep_rows.ensures c.in_ok-sweep_learned.ensures

pub returns : goal.returns
returns g c =
    let p = g.S.RuleSource.program c.args.self.now.source.now in
    let t = c.args.trail.now in
    let v = c.sweep_learned.new.trail in
    narrowed_then (Model p) t v _ c.exclude_unfounded.result
    (by_both p c.args.learned.now.sets.items t c.sweep_rows.new.trail v c.requires c.in_ok-sweep_rows.ensures c.in_ok-sweep_learned.ensures)
    c.exclude_unfounded.ensures
