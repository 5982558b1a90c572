-- Literals, sets of literals, and interpretations.
use Rattle.std.specs.Prelude.{◌≡◌, ℕ, ◌-◌, ◌/◌, ◌%◌, ◌^◌, ◌<◌, ◌≤◌, cond, not, ◌⊎◌, bit_or}
use Rattle.programs.specs.declared.literal.Literal.{Literal}
use Rattle.programs.specs.declared.literal.LiteralSet.{LiteralSet}

-- bit i of a word, 0 or 1
unfoldable pub bit : ℕ → ℕ → ℕ
bit x i = x / 2 ^ i % 2

-- the word of the set X that has the literals of l's sign
abbrev pub side : Literal → LiteralSet → ℕ
side l X = cond l.negative X.negative X.positive

-- l is in the set X
abbrev pub Member : Literal → LiteralSet → Type 0
Member l X = bit (side l X) l.atom ≡ 1

-- each literal of X is in Y
abbrev pub Subset : LiteralSet → LiteralSet → Type 0
Subset X Y = (l : Literal) → Member l X → Member l Y

-- no literal
abbrev pub no_literals : LiteralSet
no_literals = record { positive = 0; negative = 0 }

-- X and the literal l: the bit of its atom is set in the word of its sign
abbrev pub with_literal : LiteralSet → Literal → LiteralSet
with_literal X l = record {
  positive = cond l.negative X.positive (bit_or X.positive (2 ^ l.atom));
  negative = cond l.negative (bit_or X.negative (2 ^ l.atom)) X.negative;
}

-- Y is the smallest set that has the literals of X and the literal l, as `with_literal X l` is
pub record Added (X : LiteralSet) (l : Literal) (Y : LiteralSet) : Type 0 where
  pub has : Member l Y
  pub kept : Subset X Y
  pub within : (Z : LiteralSet) → Subset X Z → Member l Z → Subset Y Z

-- the other literal of l's atom
abbrev pub complement : Literal → Literal
complement l = record { atom = l.atom; negative = not l.negative }

-- X and Y have no literal in common
abbrev pub Disjoint : LiteralSet → LiteralSet → Type 0
Disjoint X Y = (l : Literal) → Member l X → Member l Y → ⊥

-- Z has exactly the literals of X and those of Y
pub record Union (X Y Z : LiteralSet) : Type 0 where
  pub left : Subset X Z
  pub right : Subset Y Z
  pub only : (l : Literal) → Member l Z → Member l X ⊎ Member l Y

-- Z has exactly the literals of X that are not in Y
pub record Difference (X Y Z : LiteralSet) : Type 0 where
  pub from : Subset Z X
  pub apart : Disjoint Z Y
  pub has : (l : Literal) → Member l X → (Member l Y → ⊥) → Member l Z

-- Z has exactly the complements of the literals of X
pub record Complements (X Z : LiteralSet) : Type 0 where
  pub has : (l : Literal) → Member l X → Member (complement l) Z
  pub only : (l : Literal) → Member l Z → Member (complement l) X

-- each literal of X is on an atom below n
abbrev pub Below : ℕ → LiteralSet → Type 0
Below n X = (l : Literal) → Member l X → l.atom < n

-- w numbers an interpretation of n atoms: no bit at or above n is set
abbrev pub Interpretation : ℕ → ℕ → Type 0
Interpretation n w = (i : ℕ) → n ≤ i → bit w i ≡ 0

-- a bit of w at or above n is set
abbrev pub BitBeyond : ℕ → ℕ → Type 0
BitBeyond n w = (i : ℕ) × (n ≤ i) × (bit w i ≡ 1)

-- l is true in the interpretation w: its atom's bit is 1, or 0 where l is a negation
abbrev pub TrueIn : Literal → ℕ → Type 0
TrueIn l w = bit w l.atom ≡ cond l.negative 0 1

-- each literal of X is true in w
abbrev pub AllTrue : LiteralSet → ℕ → Type 0
AllTrue X w = (l : Literal) → Member l X → TrueIn l w

-- the literals of the interpretation w of n atoms: the number and its complement are the two words
abbrev pub literals_of : ℕ → ℕ → LiteralSet
literals_of n w = record { positive = w; negative = 2 ^ n - 1 - w }

-- what `literals_of n w` holds: exactly the literals on atoms below n that are true in w
abbrev pub LiteralsOfAreTheTrueOnes : ℕ → ℕ → Type 0
LiteralsOfAreTheTrueOnes n w =
    (l : Literal) → (Member l (literals_of n w) → (l.atom < n) × TrueIn l w) × ((l.atom < n) × TrueIn l w → Member l (literals_of n w))
