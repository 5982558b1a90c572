use Rattle.std.proofs.Common.{arith}
use Rattle.programs.proofs.Sets.{with_negative, with_positive}
use Rattle.programs.proofs.literal.LiteralSet.with.Goals as goal

pub returns-then-literal : goal.returns-then-literal
returns-then-literal c =
    let l = c.args.literal in
    let made = with_negative c.args.self l.atom l.negative c.if-literal.true (omega arith) in
    (omega arith, made.0, made.1)

pub returns-else-literal : goal.returns-else-literal
returns-else-literal c =
    let l = c.args.literal in
    let made = with_positive c.args.self l.atom l.negative c.if-literal.false (omega arith) in
    (omega arith, made.0, made.1)
