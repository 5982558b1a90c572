use Rattle.std.proofs.Common.{◌≡◌, ◌+◌, length}
use Rattle.search.proofs.Rules.{KeepsBack}
use Rattle.search.proofs.rows.ask_rules.Given as goal

abbrev pub invariant-loop-number : goal.invariant-loop-number
invariant-loop-number g l =
    let p = g.S.RuleSource.program l.source in
    (l.number + length l.rules.items ≡ length p.rules) × KeepsBack p l.number l.rules.items
