use Rattle.std.proofs.Common.{refl, arith}
use Rattle.std.proofs.lemmas.Result.{MatchResult-weaker}
use Rattle.sheets.proofs.Places.{sheet_length, effect_place, inertia_place, choice_place}
use Rattle.sheets.proofs.action_sheet.ActionSheet.rule.Goals as goal

pub returns-then-i-first_inertia : goal.returns-then-i-first_inertia
returns-then-i-first_inertia c =
    let s = c.args.self.now in
    let place = effect_place s c.args.i (omega arith) (omega arith) in
    let len = c.len-first_effect.ensures.value in
    MatchResult-weaker c.effect_rule.result c.effect_rule.ensures (λ rule same. (omega (arith, sheet_length s), cc)) (λ e none. absurd none)

pub returns-then-i-first_choice : goal.returns-then-i-first_choice
returns-then-i-first_choice c =
    let s = c.args.self.now in
    let place = inertia_place s c.args.i (omega arith) (omega arith) in
    let len = c.len-first_effect.ensures.value in
    let more = c.len.ensures.value in
    MatchResult-weaker c.inertia_rule.result c.inertia_rule.ensures (λ rule same. (omega (arith, sheet_length s), cc)) (λ e none. absurd none)

pub returns-then-i-first_choice-2 : goal.returns-then-i-first_choice-2
returns-then-i-first_choice-2 c =
    let s = c.args.self.now in
    let place = choice_place s c.args.i (omega arith) in
    MatchResult-weaker c.choice_rule.result c.choice_rule.ensures (λ rule same. (omega (arith, sheet_length s), cc)) (λ e none. absurd none)

pub returns : goal.returns
returns c = (omega (arith, sheet_length c.args.self.now), refl)
