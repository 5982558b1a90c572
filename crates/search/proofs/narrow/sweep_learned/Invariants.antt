use Rattle.std.specs.List.{All}
use Rattle.search.specs.Nogoods.{Avoids}
use Rattle.search.specs.Trails.{Advanced}
use Rattle.search.proofs.narrow.sweep_learned.Given as goal

abbrev pub invariant-loop-set : goal.invariant-loop-set
invariant-loop-set l = Advanced (λ w. All (λ N. Avoids N w) l.learned.sets.items) l.initial.trail l.trail
