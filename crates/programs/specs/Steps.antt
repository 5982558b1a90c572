-- What the steps of a closure give. Only contracts of private steps name these.
use Rattle.std.specs.Prelude.{◌≡◌, ℕ, ◌<◌, Bool, true, false, List, length, Decides, slice_index_or}
use Rattle.programs.specs.declared.literal.LiteralSet.{LiteralSet}
use Rattle.programs.specs.Literals.{Member, Subset}
use Rattle.programs.specs.Programs.{Rule, Program, Holds, rule_at}

-- for each of the first m rules of p, the table says whether its justification holds in w
abbrev pub Marked : Program → ℕ → ℕ → List Bool → Type 0
Marked p w m table = (k : ℕ) → k < m → Decides (slice_index_or table k false) (Holds (rule_at p k).justification w)

-- X has the head of r where it has its premises
abbrev pub Obeys : LiteralSet → Rule → Type 0
Obeys X r = Subset r.premises X → Member r.head X

-- X obeys each rule of p that is marked, among the first m
abbrev pub ObeysMarked : Program → List Bool → ℕ → LiteralSet → Type 0
ObeysMarked p table m X = (k : ℕ) → k < m → slice_index_or table k false ≡ true → Obeys X (rule_at p k)

-- Y has X, the head of r where X has its premises, and nothing that a set which has X and obeys r lacks
pub record Fired (r : Rule) (X Y : LiteralSet) : Type 0 where
  pub kept : Subset X Y
  pub head : Subset r.premises X → Member r.head Y
  pub within : (Z : LiteralSet) → Obeys Z r → Subset X Z → Subset Y Z

-- Y has X, and lies within every set that has X and obeys all marked rules of p; where Y is X, X obeys the marked ones among the first m
pub record Grown (p : Program) (table : List Bool) (m : ℕ) (X Y : LiteralSet) : Type 0 where
  pub kept : Subset X Y
  pub within : (Z : LiteralSet) → ObeysMarked p table (length p.rules) Z → Subset X Z → Subset Y Z
  pub quiet : Y ≡ X → ObeysMarked p table m X
