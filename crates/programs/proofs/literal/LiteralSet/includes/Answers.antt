use Rattle.std.proofs.lemmas.Bool.{eqb-true, eq-eqb}
use Rattle.programs.proofs.Bits.{mask_within, within_mask}
use Rattle.programs.proofs.Sets.{positive_within, negative_within, subset_of}
use Rattle.programs.proofs.literal.LiteralSet.includes.Goals as goal

pub returns-then-self-other : goal.returns-then-self-other
returns-then-self-other c =
    let X = c.args.self in
    let Y = c.args.other in (
      λ e. subset_of Y X (mask_within X.positive Y.positive c.if-self-other.true) (mask_within X.negative Y.negative (eqb-true _ _ e)),
      λ s. eq-eqb _ _ (within_mask X.negative Y.negative (negative_within Y X s)),
    )

pub returns-else-self-other : goal.returns-else-self-other
returns-else-self-other c =
    let X = c.args.self in
    let Y = c.args.other in (
      λ e. absurd (c.if-self-other.false (eqb-true _ _ e)),
      λ s. absurd (c.if-self-other.false (within_mask X.positive Y.positive (positive_within Y X s))),
    )
