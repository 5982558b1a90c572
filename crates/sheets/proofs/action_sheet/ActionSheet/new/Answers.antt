use Rattle.std.proofs.Common.{length, take, refl, ap, ◌∙◌, arith, length-take}
use Rattle.std.proofs.lemmas.Result.{err_from_is_err_and}
use Rattle.std.proofs.lemmas.Bool.{false≢true}
use Rattle.sheets.proofs.Kept.{length_by_kind, law_in_range, described_more}
use Rattle.sheets.proofs.action_sheet.ActionSheet.new.Goals as goal

pub returns-then-not-counts_in_range : goal.returns-then-not-counts_in_range
returns-then-not-counts_in_range c =
    let laws = c.args.laws.now in
    (λ h. false≢true (c.if-not-counts_in_range.ensures.1 (h.some, h.few, omega (arith, h.short, length_by_kind laws))), refl)

pub add-requires : goal.add-requires
add-requires c =
    let s = c.loop-law.sheet in
    let i = c.loop-law.law-index in
    let laws = c.args.laws.now in
    let e = c.loop-law.invariant in
    omega (
      arith,
      ap (λ d. length d.statics) e,
      ap (λ d. length d.dynamics) e,
      length_by_kind (take i laws),
      length-take i laws,
      c.if-not-counts_in_range.ensures.0 refl,
    )

pub returns-in_err-add : goal.returns-in_err-add
returns-in_err-add c =
    let p = err_from_is_err_and c.from_residual.result c.from_residual.ensures.1 in
    let refused = c.in_err-add.ensures in
    rw (p.1, p.2) (
      λ h. refused.0 (law_in_range _ c.args.fluents c.args.actions c.args.laws.now c.loop-law.law-index _ c.loop-law-test.true c.loop-law.invariant h),
      refused.1,
    )

pub loop-law-preserved : goal.loop-law-preserved
loop-law-preserved c =
    c.in_ok-add.ensures
    ∙ described_more _ c.args.fluents c.args.actions c.args.laws.now c.loop-law.law-index _ c.loop-law-test.true c.loop-law.invariant
