use Rattle.search.proofs.Picking.{agrees_test}
use Rattle.search.proofs.picks.agrees.Goals as goal

pub returns : goal.returns
returns c = agrees_test _ c.args.set c.args.known c.complements.result c.complements.ensures c.is_disjoint.ensures
