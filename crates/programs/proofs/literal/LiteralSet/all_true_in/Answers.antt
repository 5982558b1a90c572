use Rattle.std.proofs.lemmas.Bool.{eqb-true, eq-eqb}
use Rattle.programs.proofs.Bits.{mask_within, within_mask, mask_apart, apart_mask}
use Rattle.programs.proofs.Sets.{positive_true, negative_true, true_of}
use Rattle.programs.proofs.literal.LiteralSet.all_true_in.Goals as goal

pub returns-then-interpretation-self : goal.returns-then-interpretation-self
returns-then-interpretation-self c =
    let X = c.args.self in
    let w = c.args.interpretation in (
      λ e. true_of X w (mask_within w X.positive c.if-interpretation-self.true) (mask_apart w X.negative (eqb-true _ _ e)),
      λ t. eq-eqb _ _ (apart_mask w X.negative (negative_true X w t)),
    )

pub returns-else-interpretation-self : goal.returns-else-interpretation-self
returns-else-interpretation-self c =
    let X = c.args.self in
    let w = c.args.interpretation in (
      λ e. absurd (c.if-interpretation-self.false (eqb-true _ _ e)),
      λ t. absurd (c.if-interpretation-self.false (within_mask w X.positive (positive_true X w t))),
    )
