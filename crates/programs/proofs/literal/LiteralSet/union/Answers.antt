use Rattle.programs.proofs.Sets.{union_of}
use Rattle.programs.proofs.literal.LiteralSet.union.Goals as goal

pub returns : goal.returns
returns c = union_of c.args.self c.args.other
