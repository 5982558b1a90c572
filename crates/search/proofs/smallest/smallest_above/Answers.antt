use Rattle.std.proofs.lemmas.Result.{MatchResult-at_ok}
use Rattle.programs.proofs.Sets.{none_below}
use Rattle.search.proofs.Halves.{always_ok}
use Rattle.search.proofs.Parts.{names_all}
use Rattle.search.proofs.smallest.smallest_above.Goals as goal

pub unwrap-requires : goal.unwrap-requires
unwrap-requires g c =
    let p = g.S.RuleSource.program c.args.source.now in
    always_ok c.smallest_above_with.result _ _ (λ e h. h.0 (none_below p.atoms)) c.smallest_above_with.ensures

pub returns : goal.returns
returns g c =
    let p = g.S.RuleSource.program c.args.source.now in
    let found = MatchResult-at_ok _ _ c.unwrap.result c.unwrap.ensures c.smallest_above_with.ensures in
    names_all p c.args.mark c.unwrap.result.model found.1
