use Rattle.std.proofs.Common.{arith}
use Rattle.std.proofs.lemmas.Bool.{false≢true}
use Rattle.programs.proofs.Sets.{empty_subset}
use Rattle.search.proofs.Props.{kept_at}
use Rattle.search.proofs.Rules.{at_of, blocks_next}
use Rattle.search.specs.Rows.{Supports, Blocks}
use Rattle.search.proofs.problem.Problem.block_all.Goals as goal
use Rattle.search.proofs.problem.Problem.block_all.Goals.{then-supports+in_ok-gathered, else-supports}

pub loop-rule-init : goal.loop-rule-init
loop-rule-init g c = (empty_subset c.args.known, λ i h. absurd (omega arith))

pub block-requires : goal.block-requires
block-requires g c =
    let p = g.S.RuleSource.program c.args.self.now.source.now in
    let rules = c.args.self.now.rules.now in
    ((kept_at p rules c.args.self.now.prepared c.loop-rule.rule-index (omega arith) _).keeps, c.loop-rule.invariant.0)

pub loop-rule-preserved : goal.loop-rule-preserved
loop-rule-preserved g c =
    let p = g.S.RuleSource.program c.args.self.now.source.now in
    let f = g.met.S.RuleSource.fits c.args.self.now.source.now in
    let rules = c.args.self.now.rules.now in
    let X = c.args.set in
    let i = c.loop-rule.rule-index in
    let G = c.loop-rule.gathered in
    let inv = c.loop-rule.invariant in
    elim c.if-supports.branch [
      | then-supports+in_ok-gathered w ↦
          let B = w.in_ok-gathered.gathered in
          let made = w.in_ok-gathered.ensures in
          rw w.gathered-is (made.1, blocks_next p f rules X G B i made.0 inv.1 (at_of (λ k. Supports k X → Blocks p k.number B) rules i _ (omega arith) (λ s. made.2)))
      | else-supports w ↦
          rw w.gathered-is (inv.0, blocks_next p f rules X G G i (λ l m. m) inv.1 (at_of (λ k. Supports k X → Blocks p k.number G) rules i _ (omega arith) (λ s. absurd (false≢true (w.if-supports.ensures.1 s)))))
    ]
