use Rattle.std.proofs.Common.{ℕ, sym, refl, subst}
use Rattle.programs.specs.Literals.{Below}
use Rattle.search.specs.Searches.{ModelAboveWith, NamesSmallest}
use Rattle.search.proofs.smallest.smallest_above_with.Goals as goal

pub search_above-model-requires : goal.search_above-model-requires
search_above-model-requires g c = c.new-learned.ensures _

pub search_from-model-requires : goal.search_from-model-requires
search_from-model-requires g c = c.new-learned.ensures _

pub returns-in-Some : goal.returns-in-Some
returns-in-Some g c =
    let G = c.args.given in
    let r = c.search_above-model.result in
    let found = c.search_above-model.ensures in (
      subst (λ (n : ℕ). Below n G) c.atoms.ensures (c.if-not-is_below.ensures.0 refl),
      subst (λ s. NamesSmallest (ModelAboveWith (g.S.RuleSource.program s) G c.args.mark) r) c.new-problem.ensures
          (subst (λ o. NamesSmallest (ModelAboveWith (g.S.RuleSource.program c.new-problem.result.source.now) G o) r) (sym c.in-Some.is) found.0),
      found.1,
    )
