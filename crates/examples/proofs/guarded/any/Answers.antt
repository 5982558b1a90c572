use Rattle.std.proofs.Common.{◌≡◌, Bool, true, false, not, ◌&&◌, ◌||◌, refl, subst}
use Rattle.examples.specs.Guards.{Tells}
use Rattle.examples.proofs.guarded.any.Goals as goal

de_morgan : (b c : Bool) → not (not b && not c) ≡ (b || c)
de_morgan true c = refl
de_morgan false true = refl
de_morgan false false = refl

pub returns : goal.returns
returns c b d x y = subst (Tells _) (de_morgan b d) (c.opposite-3.ensures _ (c.both.ensures _ _ (c.opposite.ensures b x) (c.opposite-2.ensures d y)))
