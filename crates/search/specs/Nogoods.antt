-- Sets of literals that no model has, and what they say. Only contracts of private steps name these, here and in the files below.
use Rattle.std.specs.Prelude.{◌≡◌, ℕ, ◌≤◌, Result, MatchResult}
use Rattle.programs.specs.declared.literal.Literal.{Literal}
use Rattle.programs.specs.declared.literal.LiteralSet.{LiteralSet}
use Rattle.programs.specs.Literals.{Member, Subset, complement, AllTrue}
use Rattle.programs.specs.Programs.{Program, Model}

-- w lacks some literal of N
abbrev pub Avoids : LiteralSet → ℕ → Type 0
Avoids N w = AllTrue N w → ⊥

-- no model of p has each literal of N
abbrev pub NoGood : Program → LiteralSet → Type 0
NoGood p N = (w : ℕ) → Model p w → Avoids N w

-- l is the one literal of X
abbrev pub Sole : Literal → LiteralSet → Type 0
Sole l X = Member l X × ((k : Literal) → Member k X → k ≡ l)

-- no literal of X has its complement in K
abbrev pub Agrees : LiteralSet → LiteralSet → Type 0
Agrees X K = (l : Literal) → Member l X → Member (complement l) K → ⊥

-- X has no literal together with its complement
abbrev pub Consistent : LiteralSet → Type 0
Consistent X = Agrees X X

-- w is the smallest model of p that has each literal of G
pub record SmallestWith (p : Program) (G : LiteralSet) (w : ℕ) : Type 0 where
  pub model : Model p w
  pub has : AllTrue G w
  pub least : (v : ℕ) → Model p v → AllTrue G v → w ≤ v

-- the smallest model that has each literal of G, or a part of G that no model has
abbrev pub Searched : Program → LiteralSet → Result ℕ LiteralSet → Type 0
Searched p G r = MatchResult r (SmallestWith p G) (λ R. Subset R G × NoGood p R)
