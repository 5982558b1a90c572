use Rattle.std.proofs.Common.{◌≡◌, ◌+◌, ◌-◌, sym, subst, arith}
use Rattle.std.proofs.lemmas.Result.{MatchResult-at_ok}
use Rattle.search.proofs.Rules.{KeepsBack, keeps_push}
use Rattle.search.proofs.rows.ask_rules.Goals as goal

pub loop-number-preserved : goal.loop-number-preserved
loop-number-preserved g c =
    let p = g.S.RuleSource.program c.args.source.now in
    let rules = c.loop-number.rules.items in
    let n = c.loop-number.number - 1 in
    let k = c.unwrap-rule.result in
    let next : n + 1 ≡ c.loop-number.number = omega (arith, c.loop-number-test.true) in
    let before : KeepsBack p (n + 1) rules = subst (λ m. KeepsBack p m rules) (sym next) c.loop-number.invariant.1 in
    let made = MatchResult-at_ok _ _ k c.unwrap-rule.ensures c.make_rule.ensures in
    (omega (arith, c.push.ensures.len, c.loop-number.invariant.0, next), rw c.push.ensures.items (keeps_push p n rules k before made))
