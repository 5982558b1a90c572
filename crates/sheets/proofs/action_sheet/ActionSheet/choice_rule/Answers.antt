use Rattle.std.proofs.Common.{◌+◌, sym, refl, ap, ◌∙◌}
use Rattle.sheets.specs.Actions.{only, may_be}
use Rattle.sheets.proofs.Places.{get_or_ways, same_rule}
use Rattle.sheets.proofs.action_sheet.ActionSheet.choice_rule.Goals as goal

pub returns : goal.returns
returns c =
    let s = c.args.self.now in
    let literal = c.numbered-literal.ensures in
    same_rule _ _ _ _ _ _ literal refl (c.in_ok-justification.ensures.1 ∙ ap only literal)
    ∙ sym (get_or_ways may_be (s.fluents + s.actions) c.args.i _ c.requires)
