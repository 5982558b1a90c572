use Rattle.std.proofs.Common.{◌≡◌, ◌+◌, ◌-◌, ◌^◌, ◌<◌, length}
use lib.Count.{ones}
use Rattle.programs.specs.declared.literal.LiteralSet.{LiteralSet}
use Rattle.programs.specs.Literals.{Interpretation, Subset}
use Rattle.programs.specs.Programs.{Closed, Reduct}
use Rattle.programs.specs.Steps.{Marked}
use Rattle.programs.proofs.closure.closure.Given as goal

abbrev pub invariant-rounds : goal.invariant-rounds
invariant-rounds g l =
    let p = g.S.RuleSource.program l.source in
    record {
      inside : Interpretation p.atoms l.interpretation;
      marked : Marked p l.interpretation (length p.rules) l.marks.items;
      whole : length l.marks.items ≡ length p.rules;
      within : (Y : LiteralSet) → Closed (Reduct p l.interpretation) Y → Subset l.derived Y;
      positive : l.derived.positive < 2 ^ 64;
      negative : l.derived.negative < 2 ^ 64;
    }

-- each round but the last adds a literal, and there are at most 128
abbrev pub decreases-rounds : goal.decreases-rounds
decreases-rounds g l = 128 - (ones l.derived.positive + ones l.derived.negative)
