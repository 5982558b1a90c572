use Rattle.std.proofs.lemmas.Bool.{false≢true}
use Rattle.search.proofs.Picking.{no_literal, other_side}
use Rattle.search.proofs.picks.pick.Goals as goal

pub returns-in_err-highest : goal.returns-in_err-highest
returns-in_err-highest c = rw c.from_residual.ensures (no_literal c.args.set c.in_err-highest.ensures)

pub returns : goal.returns
returns c =
    let found = c.in_ok-highest.ensures in
    rw (c.complement.ensures, c.positive-literal.ensures)
    (found.0, other_side c.args.set c.in_ok-highest.field-0 found.1 (λ h. false≢true (c.if-contains.ensures.1 (rw c.positive-literal.ensures h))))
