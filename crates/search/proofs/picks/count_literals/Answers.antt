use Rattle.std.proofs.Common.{refl, ◌∙◌}
use Rattle.std.proofs.lemmas.Bool.{false≢true}
use Rattle.programs.proofs.Closures.{same_test}
use Rattle.search.proofs.Picking.{sole_of, sole_same}
use Rattle.search.proofs.picks.count_literals.Goals as goal

pub returns-then-eq : goal.returns-then-eq
returns-then-eq c =
    let X = c.args.set in
    let l = c.in-Some.literal in
    let found = c.in-Some.ensures in
    let same = (same_test _ X c.plus.result c.if-eq.ensures).0 refl in
    (found.0, sole_of X l (same ∙ c.plus.ensures.0) found.1)

pub returns : goal.returns
returns c =
    let X = c.args.set in
    let l = c.in-Some.literal in
    λ m all. false≢true ((same_test _ X c.plus.result c.if-eq.ensures).1 (sole_same X c.plus.result l m c.in-Some.ensures.1 c.plus.ensures.1 all))
