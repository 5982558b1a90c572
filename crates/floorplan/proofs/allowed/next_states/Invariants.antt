use Rattle.std.proofs.Common.{◌≡◌, length}
use Rattle.floorplan.specs.Next.{Marks}
use Rattle.floorplan.proofs.allowed.next_states.Given as goal

abbrev pub invariant-loop-after : goal.invariant-loop-after
invariant-loop-after g l = Marks (g.S.RuleSource.program l.source) l.before l.action l.after l.is_allowed-items × (length l.is_allowed-items ≡ 512)
