use Rattle.std.proofs.Common.{arith}
use Rattle.search.proofs.Picking.{highest_bit}
use Rattle.search.proofs.picks.highest.Goals as goal

pub returns : goal.returns
returns c = grind (arith, highest_bit)
