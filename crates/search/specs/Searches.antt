-- What a search answers: the smallest model above a mark.
use Rattle.std.specs.Prelude.{◌≡◌, ℕ, ◌<◌, ◌≤◌, false, ◌⊎◌, Some, None, Option, MatchOption}
use Rattle.programs.specs.declared.literal.Literal.{Literal}
use Rattle.programs.specs.declared.literal.LiteralSet.{LiteralSet}
use Rattle.programs.specs.Literals.{bit, Member, AllTrue}
use Rattle.programs.specs.Programs.{Program, Model}

-- v is above the mark; every number is where there is no mark
abbrev pub Above : Option ℕ → ℕ → Type 0
Above None v = Unit {0}
Above (Some mark) v = mark < v

-- v is a model of p above the mark
abbrev pub ModelAbove : Program → Option ℕ → ℕ → Type 0
ModelAbove p mark v = Model p v × Above mark v

-- v is a model of p above the mark, and has each literal of G
abbrev pub ModelAboveWith : Program → LiteralSet → Option ℕ → ℕ → Type 0
ModelAboveWith p G mark v = Model p v × AllTrue G v × Above mark v

-- the smallest number of which P holds; none exactly where P holds of no number
abbrev pub NamesSmallest : (ℕ → Type 0) → Option ℕ → Type 0
NamesSmallest P r = MatchOption r ((v : ℕ) → P v → ⊥) (λ w. P w × ((v : ℕ) → P v → w ≤ v))

-- v has bit k, the mark has not, and above it they are the same
pub record InBlock (mark k v : ℕ) : Type 0 where
  pub clear : bit mark k ≡ 0
  pub here : bit v k ≡ 1
  pub above : (i : ℕ) → k < i → bit v i ≡ bit mark i

-- the literals that the numbers of a block have: atom k, and the mark's literals M above it
pub record BlockOf (M : LiteralSet) (k : ℕ) (B : LiteralSet) : Type 0 where
  pub here : Member (record { atom = k; negative = false }) B
  pub above : (l : Literal) → k < l.atom → Member l M → Member l B
  pub only : (l : Literal) → Member l B → (l ≡ record { atom = k; negative = false }) ⊎ ((k < l.atom) × Member l M)
