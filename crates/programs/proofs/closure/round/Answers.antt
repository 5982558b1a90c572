use Rattle.std.proofs.Common.{◌+◌, sym, subst, arith}
use Rattle.programs.specs.Steps.{Grown}
use Rattle.programs.proofs.Closures.{grown_fired, grown_skipped}
use Rattle.programs.proofs.closure.round.Goals as goal
use Rattle.programs.proofs.closure.round.Goals.{then-is_marked+in_ok-grown, else-is_marked}

pub loop-i-preserved : goal.loop-i-preserved
loop-i-preserved g c =
    let p = g.S.RuleSource.program c.args.source.now in
    let table = c.args.marks.now in
    let i = c.loop-i.i in
    let X = c.args.derived in
    let Y = c.loop-i.grown in
    let before = c.loop-i.invariant.1 in (
      omega arith,
      elim c.if-is_marked.branch [
        | then-is_marked+in_ok-grown w ↦
            subst (λ Z. Grown p table (i + 1) X Z) (sym w.grown-is)
            (grown_fired p table i X Y w.in_ok-grown.grown (omega arith) w.if-is_marked.true before w.in_ok-grown.ensures)
        | else-is_marked w ↦ subst (λ Z. Grown p table (i + 1) X Z) (sym w.grown-is) (grown_skipped p table i X Y w.if-is_marked.false before)
      ],
    )
