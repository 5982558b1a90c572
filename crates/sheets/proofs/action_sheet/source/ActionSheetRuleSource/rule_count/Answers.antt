use Rattle.std.proofs.Common.{arith}
use Rattle.sheets.proofs.Places.{sheet_length}
use Rattle.sheets.proofs.action_sheet.source.ActionSheetRuleSource.rule_count.Goals as goal

pub returns : goal.returns
returns c = omega (arith, sheet_length c.args.self.now)
