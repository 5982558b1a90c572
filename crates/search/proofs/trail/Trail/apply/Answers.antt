use Rattle.std.proofs.Common.{subst, rules}
use Rattle.programs.specs.Literals.{complement}
use Rattle.search.specs.Nogoods.{Avoids}
use Rattle.search.specs.Trails.{Extended}
use Rattle.search.proofs.Reasons.{advanced_none, unripe_several, advanced_forced}
use Rattle.search.proofs.trail.Trail.apply.Goals as goal

pub returns-in-One : goal.returns-in-One
returns-in-One c =
    let t = c.args.self.now in
    let N = c.args.nogood in
    let L = c.difference-left.result in
    let l = c.in-One.literal in
    let sole = c.in-One.ensures.1 in
    let x = subst (λ k. Extended t k c.behind-reason.result c.add.new.self) c.complement.ensures c.add.ensures in (
      advanced_forced t c.add.new.self N L c.difference.result c.behind-reason.result l c.difference-left.ensures c.difference.ensures sole c.behind-reason.ensures x,
      (complement l, c.if-not-agrees.ensures.0 (search rules) l (c.difference-left.ensures.from l sole.0), x.grown.has),
    )

pub returns-in-Several : goal.returns-in-Several
returns-in-Several c =
    let t = c.args.self.now in
    let N = c.args.nogood in
    (advanced_none (Avoids N) t, unripe_several N t.known c.difference-left.result c.difference-left.ensures c.in-Several.ensures)
