-- Propositional formulas and their classical values.
use Rattle.std.specs.Prelude.{ℕ, ◌<◌, Bool, true, false, not, ◌&&◌, ◌||◌, ◌==◌}
use Rattle.programs.specs.Literals.{bit}

-- false, true, an atom by its number, not, and, or, implies
pub data Formula : Type 0 where
  falsity : Formula
  truth : Formula
  atom : ℕ → Formula
  negation : Formula → Formula
  conjunction : Formula → Formula → Formula
  disjunction : Formula → Formula → Formula
  implication : Formula → Formula → Formula

-- the truth value of a formula in the interpretation w
abbrev pub value : Formula → ℕ → Bool
value falsity w = false
value truth w = true
value (atom a) w = bit w a == 1
value (negation f) w = not (value f w)
value (conjunction f g) w = value f w && value g w
value (disjunction f g) w = value f w || value g w
value (implication f g) w = not (value f w) || value g w

-- each atom of the formula is below n
abbrev pub AtomsBelow : ℕ → Formula → Type 0
AtomsBelow n falsity = Unit {0}
AtomsBelow n truth = Unit {0}
AtomsBelow n (atom a) = a < n
AtomsBelow n (negation f) = AtomsBelow n f
AtomsBelow n (conjunction f g) = AtomsBelow n f × AtomsBelow n g
AtomsBelow n (disjunction f g) = AtomsBelow n f × AtomsBelow n g
AtomsBelow n (implication f g) = AtomsBelow n f × AtomsBelow n g
