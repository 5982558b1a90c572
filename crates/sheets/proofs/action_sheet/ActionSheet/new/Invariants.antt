use Rattle.std.proofs.Common.{◌≡◌, take}
use Rattle.sheets.specs.Laws.{described}
use Rattle.sheets.specs.Sheets.{description}
use Rattle.sheets.proofs.action_sheet.ActionSheet.new.Given as goal

abbrev pub invariant-loop-law : goal.invariant-loop-law
invariant-loop-law l = description l.sheet ≡ described l.fluents l.actions (take l.law-index l.laws)
