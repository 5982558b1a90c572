use Rattle.std.proofs.Common.{arith, length-set}
use Rattle.floorplan.proofs.Steps.{step_word, marks_more}
use Rattle.floorplan.proofs.allowed.next_states.Goals as goal

pub loop-after-preserved : goal.loop-after-preserved
loop-after-preserved g c =
    let i = c.loop-after.after in
    let word = step_word c.in_ok-known.known c.args.before c.args.action i c.in_ok-known.ensures.2 (omega arith) in
    (marks_more (g.S.RuleSource.program c.args.source.now) c.args.before c.args.action i _ _ _ word (omega arith) c.loop-after.invariant.0 c.in_ok-is_allowed.ensures, simp length-set c.loop-after.invariant.1)

pub returns : goal.returns
returns g c = (omega arith, omega arith, c.loop-after.invariant.1, λ s h. c.loop-after.invariant.0 s (omega arith))
