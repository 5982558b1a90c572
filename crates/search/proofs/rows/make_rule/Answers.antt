use Rattle.std.proofs.Common.{refl, subst}
use Rattle.std.proofs.lemmas.Option.{IfSome_then}
use Rattle.search.specs.Nogoods.{Sole}
use Rattle.search.specs.Rows.{Keeps}
use Rattle.search.specs.declared.rows.KnownRule.{KnownRule}
use Rattle.search.proofs.Picking.{sole_of}
use Rattle.search.proofs.Rules.{row_holds}
use Rattle.search.proofs.rows.make_rule.Goals as goal

pub returns : goal.returns
returns g c =
    let p = g.S.RuleSource.program c.args.source.now in
    let f = g.met.S.RuleSource.fits c.args.source.now in
    let later = c.args.later.now in
    let head = c.in_ok-head.ensures in
    let k : KnownRule = record { number = c.args.number; head = c.plus.result; premises = c.in_ok-premises.premises; justification = c.as_literals.result; row = c.row_before.result } in
    let keeps : Keeps p k = record {
      head = subst (λ l. Sole l c.plus.result) head.1 (sole_of c.plus.result c.in_ok-head.head c.plus.ensures.0 c.plus.ensures.1.has);
      premises = c.in_ok-premises.ensures.1;
      justification = IfSome_then c.as_literals.result c.as_literals.ensures (λ X a. a.1);
    } in
    record { number = refl; keeps = keeps; holds = row_holds p f later k c.requires head.0 keeps c.row_before.ensures }
