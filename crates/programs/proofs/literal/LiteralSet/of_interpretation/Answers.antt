use Rattle.std.proofs.Common.{◌-◌, refl, ap, inl, inr, arith}
use Rattle.programs.proofs.Bits.{interpretation_below}
use Rattle.programs.proofs.Sets.{literals_of_true}
use Rattle.programs.proofs.literal.LiteralSet.of_interpretation.Goals as goal
use Rattle.programs.proofs.literal.LiteralSet.of_interpretation.Goals.{then-atoms-gt-MAX_ATOMS-via-then-atoms-gt-MAX_ATOMS, then-atoms-gt-MAX_ATOMS-via-else-atoms-gt-MAX_ATOMS+then-not-is_interpretation}

pub returns-then-atoms-gt-MAX_ATOMS : goal.returns-then-atoms-gt-MAX_ATOMS
returns-then-atoms-gt-MAX_ATOMS c =
    elim c.then-atoms-gt-MAX_ATOMS.branch [
      | then-atoms-gt-MAX_ATOMS-via-then-atoms-gt-MAX_ATOMS w ↦ (inl w.if-atoms-gt-MAX_ATOMS.true, refl)
      | then-atoms-gt-MAX_ATOMS-via-else-atoms-gt-MAX_ATOMS+then-not-is_interpretation w ↦
          (inr (w.if-not-is_interpretation.ensures.beyond refl), refl)
    ]

pub overflow_sub-result : goal.overflow_sub-result
overflow_sub-result c = omega (arith, interpretation_below c.args.atoms c.args.word (c.if-not-is_interpretation.ensures.decides.0 refl))

pub returns : goal.returns
returns c =
    let w = c.args.word in
    let h = c.if-not-is_interpretation.ensures.decides.0 refl in
    (omega arith, h, ap (λ m. record { positive = w; negative = m - w }) c.all_atoms.ensures, literals_of_true c.args.atoms w h)
