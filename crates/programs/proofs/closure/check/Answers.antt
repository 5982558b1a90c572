use Rattle.std.proofs.Common.{sym, ap, ◌∙◌, subst}
use Rattle.programs.specs.declared.literal.LiteralSet.{LiteralSet}
use Rattle.programs.specs.Literals.{literals_of}
use Rattle.programs.specs.Programs.{Smallest, Reduct}
use Rattle.programs.proofs.Closures.{smallest_same, same_test}
use Rattle.programs.proofs.closure.check.Goals as goal

pub returns : goal.returns
returns g c =
    let p = g.S.RuleSource.program c.args.source.now in
    let w = c.args.interpretation in
    let R = Reduct p w in
    let X : LiteralSet = record { positive = c.in_ok-positive.positive; negative = c.in_ok-positive.negative } in
    let closure = c.in_ok-positive.ensures in
    let test = same_test c.eq.result X c.in_ok-own.own c.eq.ensures in
    let own = c.in_ok-own.ensures.2 ∙ ap (λ n. literals_of n w) c.atoms.ensures in (
      closure.0,
      (
        λ e. record { interpretation = closure.0; smallest = subst (λ Y. Smallest R Y) (test.0 e ∙ own) closure.1 },
        λ m. test.1 (smallest_same R X (literals_of p.atoms w) closure.1 m.smallest ∙ sym own),
      ),
    )
