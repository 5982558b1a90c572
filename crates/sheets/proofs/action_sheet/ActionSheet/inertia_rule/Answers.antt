use Rattle.std.proofs.Common.{sym, ap, ◌∙◌}
use Rattle.sheets.specs.Actions.{later, only, stays}
use Rattle.sheets.specs.Sheets.{description}
use Rattle.sheets.proofs.Places.{get_or_ways, same_rule}
use Rattle.sheets.proofs.action_sheet.ActionSheet.inertia_rule.Goals as goal

pub returns : goal.returns
returns c =
    let s = c.args.self.now in
    let literal = c.numbered-literal.ensures in
    let head = c.later_literal-head.ensures ∙ ap (later (description s)) literal in
    same_rule _ _ _ _ _ _ head (c.in_ok-premises.ensures.1 ∙ ap only literal) (c.in_ok-justification.ensures.1 ∙ ap only head)
    ∙ sym (get_or_ways (stays (description s)) s.fluents c.args.i _ c.requires)
