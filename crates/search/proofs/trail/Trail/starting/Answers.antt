use Rattle.std.proofs.lemmas.List.{get_or-replicate}
use Rattle.programs.specs.Literals.{no_literals}
use Rattle.programs.proofs.Sets.{empty_subset}
use Rattle.search.proofs.trail.Trail.starting.Goals as goal

pub invariant_of-result-clause-within : goal.invariant_of-result-clause-within
invariant_of-result-clause-within c = λ i h. rw (get_or-replicate 64 i no_literals no_literals h) (empty_subset c.args.start)
