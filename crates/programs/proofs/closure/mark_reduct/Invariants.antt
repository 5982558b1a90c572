use Rattle.std.proofs.Common.{◌≡◌, ◌≤◌, length}
use Rattle.programs.specs.Steps.{Marked}
use Rattle.programs.proofs.closure.mark_reduct.Given as goal

abbrev pub invariant-loop-i : goal.invariant-loop-i
invariant-loop-i g l =
    let p = g.S.RuleSource.program l.source in
    (l.i ≤ length p.rules) × (length l.marks.items ≡ l.i) × Marked p l.interpretation l.i l.marks.items
