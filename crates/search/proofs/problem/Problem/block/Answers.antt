use Rattle.std.proofs.lemmas.Bool.{false≢true}
use Rattle.search.proofs.Reasons.{start_part}
use Rattle.search.proofs.Rules.{blocks_clash}
use Rattle.search.proofs.problem.Problem.block.Goals as goal

pub returns-then-not-agrees : goal.returns-then-not-agrees
returns-then-not-agrees g c =
    let p = g.S.RuleSource.program c.args.self.now.source.now in
    let f = g.met.S.RuleSource.fits c.args.self.now.source.now in (
      λ l m. m,
      c.requires.1,
      blocks_clash p f c.args.rule.now c.body-body.result c.args.gathered c.requires.0 c.body-body.ensures (λ a. false≢true (c.if-not-agrees.ensures.1 a)),
    )

pub returns-in-Some : goal.returns-in-Some
returns-in-Some g c =
    let p = g.S.RuleSource.program c.args.self.now.source.now in
    let f = g.met.S.RuleSource.fits c.args.self.now.source.now in
    let l = c.in-Some.literal in
    let clash = c.in-Some.ensures.1 in
    let against = start_part c.args.known c.complements.result c.difference.result c.difference-clash.result c.difference.ensures c.difference-clash.ensures l clash in
    let added = c.plus.ensures.1 in (
      added.kept,
      added.within c.args.known c.requires.1 (c.difference-clash.ensures.from l clash),
      blocks_clash p f c.args.rule.now c.body-body.result c.plus.result c.requires.0 c.body-body.ensures (λ a. a l added.has (c.complements.ensures.only l against)),
    )
