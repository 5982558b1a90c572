use Rattle.std.proofs.Common.{arith}
use Rattle.programs.proofs.Sets.{difference_of}
use Rattle.programs.proofs.literal.LiteralSet.difference.Goals as goal

pub returns : goal.returns
returns c = difference_of c.args.self c.args.other (omega arith) (omega arith) (omega arith) (omega arith)
