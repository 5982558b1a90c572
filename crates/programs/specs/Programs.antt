-- Two-valued programs: rules, reduct, smallest closed set, model.
use Rattle.std.specs.Prelude.{◌≡◌, ℕ, ◌<◌, ◌≤◌, true, false, List, length, slice_index_or}
use Rattle.std.specs.List.{Contains, All}
use Rattle.programs.specs.declared.literal.Literal.{Literal}
use Rattle.programs.specs.declared.literal.LiteralSet.{LiteralSet}
use Rattle.programs.specs.declared.rule.ClausalRule.{ClausalRule}
use Rattle.programs.specs.Literals.{Member, Subset, Below, Interpretation, AllTrue, literals_of}
use Rattle.programs.specs.Formulas.{Formula, falsity, value, AtomsBelow}

-- what a rule assumes: a formula, or a set of literals
pub data Justification : Type 0 where
  formula : Formula → Justification
  literals : LiteralSet → Justification

-- the justification holds in the interpretation w: the formula is true in it, or it has each literal of the set
abbrev pub Holds : Justification → ℕ → Type 0
Holds (formula f) w = value f w ≡ true
Holds (literals X) w = AllTrue X w

-- each atom of the justification is below n
abbrev pub JustificationBelow : ℕ → Justification → Type 0
JustificationBelow n (formula f) = AtomsBelow n f
JustificationBelow n (literals X) = Below n X

-- derive the head from the premises, where the justification holds
pub record Rule : Type 0 where
  pub head : Literal
  pub premises : LiteralSet
  pub justification : Justification

-- a number of atoms, and a list of rules
pub record Program : Type 0 where
  pub atoms : ℕ
  pub rules : List Rule

-- each literal of the rule, and each atom of a formula, is below n
pub record RuleFits (n : ℕ) (r : Rule) : Type 0 where
  pub head : r.head.atom < n
  pub premises : Below n r.premises
  pub justification : JustificationBelow n r.justification

-- 1 to 64 atoms, at most 4,096 rules, each literal below the number of atoms
pub record ProgramFits (p : Program) : Type 0 where
  pub some : 1 ≤ p.atoms
  pub few : p.atoms ≤ 64
  pub short : length p.rules ≤ 4096
  pub each : All (RuleFits p.atoms) p.rules

-- the reduct of p relative to w: the rules of p whose justification holds in w
abbrev pub Reduct : Program → ℕ → Rule → Type 0
Reduct p w r = Contains p.rules r × Holds r.justification w

-- X has the head of each rule of R whose premises it has
abbrev pub Closed : (Rule → Type 0) → LiteralSet → Type 0
Closed R X = (r : Rule) → R r → Subset r.premises X → Member r.head X

-- X is the smallest set closed under R: it is closed, and within every closed set
pub record Smallest (R : Rule → Type 0) (X : LiteralSet) : Type 0 where
  pub closed : Closed R X
  pub within : (Y : LiteralSet) → Closed R Y → Subset X Y

-- w is a model of p: it numbers an interpretation of p's atoms, and the smallest set closed under the reduct relative to w is the
-- set of the literals of w
pub record Model (p : Program) (w : ℕ) : Type 0 where
  pub interpretation : Interpretation p.atoms w
  pub smallest : Smallest (Reduct p w) (literals_of p.atoms w)

-- the rule that a row of a clausal program stands for
abbrev pub rule_of : ClausalRule → Rule
rule_of c = record { head = c.head; premises = c.premises; justification = literals c.justification }

-- what stands past the end of a list of rules; no statement depends on it
abbrev pub no_rule : Rule
no_rule = record { head = record { atom = 0; negative = false }; premises = record { positive = 0; negative = 0 }; justification = formula falsity }

-- rule number i of p
abbrev pub rule_at : Program → ℕ → Rule
rule_at p i = slice_index_or p.rules i no_rule
