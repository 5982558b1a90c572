use Rattle.std.proofs.lemmas.Bool.{eqb-true, eq-eqb}
use Rattle.programs.proofs.Bits.{mask_apart, apart_mask}
use Rattle.programs.proofs.Sets.{positive_apart, negative_apart, disjoint_of}
use Rattle.programs.proofs.literal.LiteralSet.is_disjoint.Goals as goal

pub returns-then-self-other-eq0 : goal.returns-then-self-other-eq0
returns-then-self-other-eq0 c =
    let X = c.args.self in
    let Y = c.args.other in (
      λ e. disjoint_of X Y (mask_apart X.positive Y.positive c.if-self-other-eq0.true) (mask_apart X.negative Y.negative (eqb-true _ _ e)),
      λ d. eq-eqb _ _ (apart_mask X.negative Y.negative (negative_apart X Y d)),
    )

pub returns-else-self-other-eq0 : goal.returns-else-self-other-eq0
returns-else-self-other-eq0 c =
    let X = c.args.self in
    let Y = c.args.other in (
      λ e. absurd (c.if-self-other-eq0.false (eqb-true _ _ e)),
      λ d. absurd (c.if-self-other-eq0.false (apart_mask X.positive Y.positive (positive_apart X Y d))),
    )
