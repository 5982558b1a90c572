use Rattle.std.proofs.Common.{inr, rules}
use Rattle.std.proofs.lemmas.Iterator.{cases_from_any, YieldsList-from_take}
use Rattle.std.proofs.lemmas.Iterator.Adapters.{YieldsList-from_rev_slice}
use Rattle.search.specs.Rows.{Opposes}
use Rattle.search.proofs.Rules.{among_last}
use Rattle.search.proofs.rows.KnownRule.row_before.Goals as goal

pub returns-then-any : goal.returns-then-any
returns-then-any c =
    let xs = c.args.later.now in
    let P = Opposes c.args.self.now.head c.body-body.result in
    let found = cases_from_any _ _ _ P (λ q. Unit {0}) c.any.ensures.ran (YieldsList-from_take 64 (YieldsList-from_rev_slice xs (search rules)) (search rules)) (λ x q h. search rules) (λ x q h. search rules) in
    (c.body-body.result, c.body-body.ensures, λ l m. m, inr (among_last P 64 xs (rw c.if-any.true at found)))
