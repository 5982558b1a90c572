-- The program that the rows of a table stand for.
use Rattle.std.specs.Prelude.{ℕ, List, map}
use Rattle.programs.specs.declared.rule.ClausalRule.{ClausalRule}
use Rattle.programs.specs.Programs.{Program, rule_of}

-- so many atoms, and the rows as rules
abbrev pub table_program : ℕ → List ClausalRule → Program
table_program n rows = record { atoms = n; rules = map rule_of rows }
