-- A program with formulas: a and b are chosen freely, and c is true exactly where a or b is.
use Rattle.std.specs.Prelude.{ℕ, ◌<◌, true, false, [], ◌∷◌}
use Rattle.std.proofs.Common.{arith, rules}
use Rattle.std.proofs.lemmas.List.Elements.{All-from_recursion}
use Rattle.programs.specs.declared.literal.Literal.{Literal}
use Rattle.programs.specs.Literals.{no_literals}
use Rattle.programs.specs.Formulas.{Formula, atom, negation, disjunction, AtomsBelow}
use Rattle.programs.specs.Programs.{Rule, formula, Program, RuleFits, ProgramFits}
use Rattle.programs.proofs.Sets.{none_below}

-- atom a without premises, assuming f
abbrev pub yes_assuming : ℕ → Formula → Rule
yes_assuming a f = record { head = record { atom = a; negative = false }; premises = no_literals; justification = formula f }

-- the negation of atom a without premises, assuming f
abbrev pub not_assuming : ℕ → Formula → Rule
not_assuming a f = record { head = record { atom = a; negative = true }; premises = no_literals; justification = formula f }

-- a or b
abbrev pub either : Formula
either = disjunction (atom 0) (atom 1)

-- the program: the choice of a, the choice of b, c assuming a or b, not c assuming the contrary
abbrev pub either_program : Program
either_program = record {
  atoms = 3;
  rules =
      yes_assuming 0 (atom 0) ∷ not_assuming 0 (negation (atom 0))
      ∷ yes_assuming 1 (atom 1) ∷ not_assuming 1 (negation (atom 1))
      ∷ yes_assuming 2 either ∷ not_assuming 2 (negation either) ∷ [];
}

-- a rule without premises fits where its atoms are below n
pub bare_rule_fits : (n : ℕ) (l : Literal) (f : Formula) → l.atom < n → AtomsBelow n f → RuleFits n (record { head = l; premises = no_literals; justification = formula f })
bare_rule_fits n l f h k = record { head = h; premises = none_below n; justification = k }

pub either_fits : ProgramFits either_program
either_fits = record {
  some = omega arith;
  few = omega arith;
  short = omega arith;
  each = All-from_recursion (RuleFits 3) either_program.rules (search (rules, bare_rule_fits, arith));
}
