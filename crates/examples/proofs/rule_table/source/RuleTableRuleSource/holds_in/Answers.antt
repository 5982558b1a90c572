use Rattle.std.proofs.Common.{refl}
use Rattle.programs.proofs.Rows.{answers_by_row}
use Rattle.examples.specs.Tables.{table_program}
use Rattle.examples.proofs.rule_table.source.RuleTableRuleSource.holds_in.Goals as goal

pub returns : goal.returns
returns g c =
    let s = c.args.self.now in
    answers_by_row (table_program s.atoms s.rules) c.args.i s.atoms c.args.interpretation _ c.holds_in.result
    c.in_ok-rule.ensures.0 c.in_ok-rule.ensures.1 refl c.holds_in.ensures
