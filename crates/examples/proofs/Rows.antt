-- Rows that fit, and the program that they make.
use Rattle.std.proofs.Common.{ℕ, ◌≤◌, List, map, length, subst}
use lib.ListN.{length-map}
use Rattle.std.specs.List.{All}
use Rattle.std.proofs.lemmas.List.{get_or-map}
use Rattle.std.proofs.lemmas.List.Elements.{All-map}
use Rattle.programs.specs.declared.rule.ClausalRule.{ClausalRule}
use Rattle.programs.specs.Programs.{RuleFits, ProgramFits, rule_of}
use Rattle.examples.specs.Tables.{table_program}

abbrev pub RowFits : ℕ → ClausalRule → Type 0
RowFits n row = RuleFits n (rule_of row)

pub rows_of_map : (n : ℕ) (rows : List ClausalRule) → All (RuleFits n) (map rule_of rows) → All (RowFits n) rows
rows_of_map n rows h k d l = subst (RuleFits n) (get_or-map rule_of rows k d (rule_of d) l) (h k (rule_of d) (simp length-map l))

pub table_fits : (n : ℕ) (rows : List ClausalRule) → 1 ≤ n → n ≤ 64 → length rows ≤ 4096 → All (RowFits n) rows → ProgramFits (table_program n rows)
table_fits n rows a b c d = record { some = a; few = b; short = simp length-map c; each = All-map (RuleFits n) rule_of rows d }
