use Rattle.std.proofs.Common.{◌≡◌, refl, subst}
use Rattle.programs.specs.Literals.{with_literal, Added}
use Rattle.search.proofs.Parts.{block_of}
use Rattle.search.proofs.smallest.block.Goals as goal

pub returns : goal.returns
returns c =
    let D = c.difference-above.result in
    let made = subst (λ l. (c.plus.result ≡ with_literal D l) × Added D l c.plus.result) c.positive.ensures c.plus.ensures in
    block_of c.args.mark D c.plus.result c.args.atom _ c.requires refl c.difference-above.ensures made.0 made.1
