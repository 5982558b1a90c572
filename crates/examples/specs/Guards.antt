-- A program with formulas: a, b, c and d are chosen freely, but never both a and b, and never both c and d.
use Rattle.std.specs.Prelude.{◌≡◌, ℕ, Bool, [], ◌∷◌, IfSome, Option}
use Rattle.std.proofs.Common.{arith, rules}
use Rattle.std.proofs.lemmas.List.Elements.{All-from_recursion}
use Rattle.programs.specs.declared.literal.LiteralSet.{LiteralSet}
use Rattle.programs.specs.Literals.{AllTrue}
use Rattle.programs.specs.Formulas.{Formula, atom, negation, conjunction, disjunction, value}
use Rattle.programs.specs.Programs.{Program, RuleFits, ProgramFits}
use Rattle.examples.specs.Eithers.{yes_assuming, not_assuming, bare_rule_fits}

-- a and b, or c and d
abbrev pub forbidden : Formula
forbidden = disjunction (conjunction (atom 0) (atom 1)) (conjunction (atom 2) (atom 3))

-- the program: a choice of each atom, and a and not a assuming what is forbidden
abbrev pub guarded_program : Program
guarded_program = record {
  atoms = 4;
  rules =
      yes_assuming 0 (atom 0) ∷ not_assuming 0 (negation (atom 0))
      ∷ yes_assuming 1 (atom 1) ∷ not_assuming 1 (negation (atom 1))
      ∷ yes_assuming 2 (atom 2) ∷ not_assuming 2 (negation (atom 2))
      ∷ yes_assuming 3 (atom 3) ∷ not_assuming 3 (negation (atom 3))
      ∷ yes_assuming 0 forbidden ∷ not_assuming 0 forbidden ∷ [];
}

-- an answer is b; no answer says nothing
abbrev pub Tells : Option Bool → Bool → Type 0
Tells r b = IfSome r (λ c. b ≡ c)

-- an answer is the value of f in each interpretation that has the literals of K
abbrev pub Foresees : Formula → LiteralSet → Option Bool → Type 0
Foresees f K r = (w : ℕ) → AllTrue K w → Tells r (value f w)

pub guarded_fits : ProgramFits guarded_program
guarded_fits = record {
  some = omega arith;
  few = omega arith;
  short = omega arith;
  each = All-from_recursion (RuleFits 4) guarded_program.rules (search (rules, bare_rule_fits, arith));
}
