-- That a program fits can be shown in one way only, so that a source may keep the fact in a ghost field.
use Rattle.std.proofs.Common.{ℕ, get_or, refl}
use mathlib.Core.HLevel.{Π_prop, ×_prop}
use mathlib.Core.Logic.{∥∥₁_elim}
use native.Mathlib.Bridge.{le_prop}
use Rattle.std.proofs.Props.{props}
use Rattle.programs.specs.declared.literal.LiteralSet.{LiteralSet}
use Rattle.programs.specs.Literals.{Below}
use Rattle.programs.specs.Formulas.{Formula, falsity, truth, atom, negation, conjunction, disjunction, implication, AtomsBelow}
use Rattle.programs.specs.Programs.{Justification, formula, literals, JustificationBelow, Rule, RuleFits, Program, ProgramFits}

below_prop : (n : ℕ) (X : LiteralSet) → IsProp (Below n X)
below_prop n X = hlevel props

formula_prop : (n : ℕ) (f : Formula) → IsProp (AtomsBelow n f)
formula_prop n falsity = λ a b. refl
formula_prop n truth = λ a b. refl
formula_prop n (atom a) = le_prop
formula_prop n (negation f) = formula_prop n f
formula_prop n (conjunction f g) = ×_prop (formula_prop n f) (formula_prop n g)
formula_prop n (disjunction f g) = ×_prop (formula_prop n f) (formula_prop n g)
formula_prop n (implication f g) = ×_prop (formula_prop n f) (formula_prop n g)

justification_prop : (n : ℕ) (j : Justification) → IsProp (JustificationBelow n j)
justification_prop n (formula f) = formula_prop n f
justification_prop n (literals X) = below_prop n X

rule_prop : (n : ℕ) (r : Rule) → IsProp (RuleFits n r)
rule_prop n r = λ a b i. record {
  head = le_prop a.head b.head i;
  premises = below_prop n r.premises a.premises b.premises i;
  justification = justification_prop n r.justification a.justification b.justification i;
}

program_prop : (p : Program) → IsProp (ProgramFits p)
program_prop p = λ a b i. record {
  some = le_prop a.some b.some i;
  few = le_prop a.few b.few i;
  short = le_prop a.short b.short i;
  each = Π_prop (λ k. Π_prop (λ d. Π_prop (λ l. rule_prop p.atoms (get_or p.rules k d)))) a.each b.each i;
}

-- the fact out of the field
pub kept_fits : (p : Program) → ∥ ProgramFits p ∥₁ → ProgramFits p
kept_fits p h = ∥∥₁_elim h (program_prop p) (λ f. f)
