use Rattle.std.proofs.Common.{◌≡◌, ◌/◌, ◌^◌, true, nat_eq, sym, ◌∙◌, arith}
use Rattle.std.proofs.lemmas.Bool.{eqb-true, eq-eqb, le-leb, false≢true}
use Rattle.programs.specs.Literals.{Interpretation}
use Rattle.programs.proofs.Bits.{bit_high, below_interpretation, interpretation_below, shifted_out, shifts_out, not_interpretation}
use Rattle.programs.proofs.literal.is_interpretation.Goals as goal

pub returns-then-atoms-ge-MAX_ATOMS : goal.returns-then-atoms-ge-MAX_ATOMS
returns-then-atoms-ge-MAX_ATOMS c =
    let high = le-leb 64 c.args.atoms c.if-atoms-ge-MAX_ATOMS.true in
    record {
      decides = (λ _ i l. bit_high c.args.word 64 i (omega arith) (omega arith), λ _. high);
      beyond = λ e. absurd (false≢true (sym e ∙ high));
    }

pub returns-else-atoms-ge-MAX_ATOMS : goal.returns-else-atoms-ge-MAX_ATOMS
returns-else-atoms-ge-MAX_ATOMS c =
    let n = c.args.atoms in
    let w = c.args.word in
    let inside : Interpretation n w → nat_eq (w / 2 ^ n) 0 ≡ true = λ h. eq-eqb _ _ (shifts_out n w (interpretation_below n w h)) in
    record {
      decides = (λ e. below_interpretation n w (shifted_out n w (eqb-true _ _ e)), inside);
      beyond = λ e. not_interpretation n w (λ h. false≢true (sym e ∙ inside h));
    }
