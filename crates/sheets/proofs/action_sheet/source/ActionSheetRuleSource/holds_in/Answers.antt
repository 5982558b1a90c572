use Rattle.programs.proofs.Rows.{answers_by_row}
use Rattle.sheets.specs.Actions.{action_program}
use Rattle.sheets.specs.Sheets.{description}
use Rattle.sheets.proofs.action_sheet.source.ActionSheetRuleSource.holds_in.Goals as goal

pub returns : goal.returns
returns c =
    answers_by_row (action_program (description c.args.self.now)) c.args.i c.atoms.result c.args.interpretation _ c.holds_in.result
    c.in_ok-rule.ensures.0 c.in_ok-rule.ensures.1 c.atoms.ensures c.holds_in.ensures
