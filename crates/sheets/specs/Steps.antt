-- What the steps towards a sheet and towards a rule give. Only contracts of steps name these.
use Rattle.std.specs.Prelude.{ℕ, List, [], ◌∷◌, ◌++◌}
use Rattle.programs.specs.Programs.{Rule, rule_at}
use Rattle.sheets.specs.declared.law.Law.{Law}
use Rattle.sheets.specs.declared.law.Law.TheVariants.{Static, Dynamic}
use Rattle.sheets.specs.Laws.{Description}

-- one law more
abbrev pub with_law : Description → Law → Description
with_law d (Static law) = record { fluents = d.fluents; actions = d.actions; statics = d.statics ++ law ∷ []; dynamics = d.dynamics }
with_law d (Dynamic law) = record { fluents = d.fluents; actions = d.actions; statics = d.statics; dynamics = d.dynamics ++ law ∷ [] }

-- rule number i of a list
abbrev pub rule_in : List Rule → ℕ → Rule
rule_in rules i = rule_at (record { atoms = 0; rules = rules }) i
