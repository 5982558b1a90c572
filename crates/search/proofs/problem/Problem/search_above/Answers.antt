use Rattle.std.proofs.Common.{ℕ, Some, None, sym, ◌∙◌, subst, inl, inr, arith}
use Rattle.std.proofs.lemmas.Bool.{false≢true}
use Rattle.programs.specs.Literals.{Interpretation, BitBeyond}
use Rattle.programs.proofs.Bits.{bit_test}
use Rattle.search.specs.Rows.{Learns}
use Rattle.search.proofs.Halves.{ok_part}
use Rattle.search.proofs.Parts.{block_read, none_beyond, none_above, none_in_more, none_in_set, none_in_block, smallest_in_block}
use Rattle.search.proofs.problem.Problem.search_above.Goals as goal
use Rattle.search.proofs.problem.Problem.search_above.Goals.{then-mark-atom-eq0+in_default, else-mark-atom-eq0}

pub returns-in_err-own : goal.returns-in_err-own
returns-in_err-own g c =
    let p = g.S.RuleSource.program c.args.self.now.source.now in
    let f = g.met.S.RuleSource.fits c.args.self.now.source.now in
    let mark = c.args.mark in
    let refused = ok_part c.of_interpretation.result None _ _ c.in_err-own.ensures.value c.of_interpretation.ensures in
    rw c.from_residual.ensures (
      elim refused.1.0 [
        | inl h ↦ absurd (omega (arith, h, f.few, c.atoms.ensures))
        | inr b ↦ none_beyond p c.args.given mark (subst (λ (n : ℕ). BitBeyond n mark) c.atoms.ensures b)
      ],
      λ e. absurd (false≢true e),
    )

pub returns-in-Some : goal.returns-in-Some
returns-in-Some g c =
    let p = g.S.RuleSource.program c.args.self.now.source.now in
    let mark = c.args.mark in
    let k = c.loop-atom.atom in
    let B = c.block.result in
    let read = ok_part c.of_interpretation.result (Some c.in_ok-own.own) _ _ c.in_ok-own.ensures.value c.of_interpretation.ensures in
    let own = subst (λ (n : ℕ). Interpretation n mark) c.atoms.ensures read.1 in
    let block = block_read c.atoms.result p.atoms mark c.in_ok-own.own k B c.atoms.ensures read.2 c.block.ensures in
    let found = c.in-Some.ensures.0 in (
      smallest_in_block p c.args.given mark own k B c.union-start.result block c.union-start.ensures c.in-Some.model (sym (bit_test mark k) ∙ c.if-mark-atom-eq0.true) c.loop-atom.invariant.1 found.0,
      λ _. found.1,
    )

pub loop-atom-preserved : goal.loop-atom-preserved
loop-atom-preserved g c =
    let p = g.S.RuleSource.program c.args.self.now.source.now in
    let G = c.args.given in
    let mark = c.args.mark in
    let k = c.loop-atom.atom in
    let inv = c.loop-atom.invariant in
    let read = ok_part c.of_interpretation.result (Some c.in_ok-own.own) _ _ c.in_ok-own.ensures.value c.of_interpretation.ensures in
    let own = subst (λ (n : ℕ). Interpretation n mark) c.atoms.ensures read.1 in
    elim c.if-mark-atom-eq0.branch [
      | then-mark-atom-eq0+in_default w ↦
          let B = w.block.result in
          let block = block_read c.atoms.result p.atoms mark c.in_ok-own.own k B c.atoms.ensures read.2 w.block.ensures in
          let none = w.in_default.ensures in (
            subst (Learns p) (sym w.learned-is) none.1,
            none_in_more p G mark k inv.1 (none_in_block p G mark own k B w.union-start.result block w.union-start.ensures none.0),
          )
      | else-mark-atom-eq0 w ↦
          (subst (Learns p) (sym w.learned-is) inv.0, none_in_set p G mark k inv.1 (λ e. w.if-mark-atom-eq0.false (bit_test mark k ∙ e)))
    ]

pub returns : goal.returns
returns g c =
    let p = g.S.RuleSource.program c.args.self.now.source.now in
    (none_above p c.args.given c.args.mark (λ k h. c.loop-atom.invariant.1 k (omega (arith, h, c.atoms-atom-end.ensures))), λ e. absurd (false≢true e))
