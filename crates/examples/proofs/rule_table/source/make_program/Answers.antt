use Rattle.std.proofs.Common.{arith, rules, tests}
use Rattle.std.proofs.lemmas.Bool.{MatchBool-at_true}
use Rattle.std.proofs.lemmas.Iterator.{cases_from_all, YieldsList-from_slice}
use Rattle.std.proofs.lemmas.Iterator.Search.{true_from_All}
use Rattle.std.proofs.lemmas.List.Elements.{All-from_all_within}
use Rattle.programs.specs.declared.rule.ClausalRule.{ClausalRule}
use Rattle.examples.proofs.Rows.{RowFits, rows_of_map, table_fits}
use Rattle.examples.proofs.rule_table.source.make_program.Goals as goal

pub returns : goal.returns
returns c =
    let n = c.args.atoms in
    let rows = c.args.rules.now in
    let Fits : ClausalRule → Type 0 = RowFits n in
    let Fails : ClausalRule → Type 0 = λ row. Fits row → ⊥ in
    let told = cases_from_all _ _ c.all.result Fits Fails c.all.ensures.ran (YieldsList-from_slice rows c.iter.ensures.rest) (λ x q k. search (rules, tests)) (λ x q k. search (rules, tests)) in (
      λ e. table_fits n rows (omega arith) (omega arith) (omega arith) (All-from_all_within Fits rows (MatchBool-at_true _ _ e told)),
      λ h. true_from_All Fits Fails c.all.result rows (λ row y no. no y) told (rows_of_map n rows h.each),
    )
