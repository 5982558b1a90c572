use Rattle.sheets.specs.Sheets.{description}
use Rattle.sheets.proofs.Shifts.{all_later_shifted, all_later_members}
use Rattle.sheets.proofs.action_sheet.ActionSheet.later_set.Goals as goal

pub returns : goal.returns
returns c =
    let s = c.args.self.now in
    (all_later_shifted (description s) c.args.set s.few c.requires, all_later_members (description s) c.args.set)
