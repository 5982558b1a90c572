use Rattle.std.proofs.Common.{◌≡◌, ◌/◌, ◌%◌, get_or, sym, refl, ap, ◌∙◌, arith}
use Rattle.sheets.specs.Actions.{both_times}
use Rattle.sheets.specs.Sheets.{description}
use Rattle.sheets.specs.Steps.{rule_in}
use Rattle.sheets.proofs.Places.{static_rule_at, same_rule}
use Rattle.sheets.proofs.action_sheet.ActionSheet.static_rule.Goals as goal

pub returns-then-i-eq0 : goal.returns-then-i-eq0
returns-then-i-eq0 c =
    let s = c.args.self.now in
    sym (static_rule_at s _ c.deref.ensures.0 c.args.i _ c.requires ∙ ap (rule_in (both_times (description s) (get_or c.deref.result.now (c.args.i / 2) _))) c.if-i-eq0.true)

pub returns : goal.returns
returns c =
    let s = c.args.self.now in
    let second : c.args.i % 2 ≡ 1 = omega arith in
    same_rule _ _ _ _ _ _ c.later_literal.ensures c.later_set.ensures.0 refl
    ∙ sym (static_rule_at s _ c.deref.ensures.0 c.args.i _ c.requires ∙ ap (rule_in (both_times (description s) (get_or c.deref.result.now (c.args.i / 2) _))) second)
