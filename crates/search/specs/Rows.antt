-- The rules as a search keeps them, and the set of each rule that no model has.
use Rattle.std.specs.Prelude.{◌≡◌, ℕ, ◌<◌, ◌⊎◌, List, length, IfSome, MatchOption}
use Rattle.std.specs.List.{HoldsAt, All}
use Rattle.programs.specs.declared.literal.LiteralSet.{LiteralSet}
use Rattle.programs.specs.Literals.{Subset, Disjoint, Union, Complements, AllTrue}
use Rattle.programs.specs.Programs.{Program, Model, Holds, rule_at}
use Rattle.programs.specs.Questions.{HoldsAs}
use Rattle.search.specs.Nogoods.{Avoids, NoGood, Sole}
use Rattle.search.specs.declared.learned.Learned.{Learned}
use Rattle.search.specs.declared.rows.KnownRule.{KnownRule}

-- k is the rule of p that it numbers: the head alone in a set, the premises, and a set that the justification amounts to, if one is known
pub record Keeps (p : Program) (k : KnownRule) : Type 0 where
  pub head : Sole (rule_at p k.number).head k.head
  pub premises : k.premises ≡ (rule_at p k.number).premises
  pub justification : IfSome k.justification (HoldsAs p.atoms (rule_at p k.number).justification)

-- B has the premises, and the literals of the justification where they are known
abbrev pub Body : KnownRule → LiteralSet → Type 0
Body k B = MatchOption k.justification (B ≡ k.premises) (λ X. Union k.premises X B)

-- q has the complement of the head H as its own, and the known body B
pub record Opposes (H B : LiteralSet) (q : KnownRule) : Type 0 where
  pub heads : Complements H q.head
  pub body : MatchOption q.justification ⊥ (λ X. Union q.premises X B)

-- the row of rule k: its body and the complement of its head, or its body alone where it is known and some rule opposes it
abbrev pub RowOf : List KnownRule → KnownRule → LiteralSet → Type 0
RowOf rules k N =
    (B : LiteralSet) × Body k B × Subset B N
    × (((C : LiteralSet) × Complements k.head C × Subset C N) ⊎ ((j : ℕ) × (j < length rules) × HoldsAt (Opposes k.head B) rules j))

-- no model of p has each literal of k's row, or none in which its justification holds, where that is not known as a set
abbrev pub RowHolds : Program → KnownRule → Type 0
RowHolds p k = MatchOption k.justification ((w : ℕ) → Model p w → Holds (rule_at p k.number).justification w → Avoids k.row w) (λ X. NoGood p k.row)

-- k is one of the rules of p
abbrev pub IsRule : Program → KnownRule → Type 0
IsRule p k = (k.number < length p.rules) × Keeps p k

-- k is rule i of p, and has a row
pub record Kept (p : Program) (i : ℕ) (k : KnownRule) : Type 0 where
  pub number : k.number ≡ i
  pub keeps : Keeps p k
  pub holds : RowHolds p k

-- each place keeps the rule of its number
abbrev pub KeepsAll : Program → List KnownRule → Type 0
KeepsAll p rules = (i : ℕ) → i < length rules → HoldsAt (Kept p i) rules i

-- what a search works with: the rules of p, each with its row
pub record Prepared (p : Program) (rules : List KnownRule) : Type 0 where
  pub many : length rules ≡ length p.rules
  pub all : KeepsAll p rules

-- no model that has each literal of B has the premises of rule i and its justification
abbrev pub Blocks : Program → ℕ → LiteralSet → Type 0
Blocks p i B = (w : ℕ) → Model p w → AllTrue B w → AllTrue (rule_at p i).premises w → Holds (rule_at p i).justification w → ⊥

-- k derives a literal of X from none of X
abbrev pub Supports : KnownRule → LiteralSet → Type 0
Supports k X = Subset k.head X × Disjoint X k.premises

-- each of the first m rules that derives a literal of X from none of X is blocked by B
abbrev pub BlocksAll : Program → List KnownRule → LiteralSet → ℕ → LiteralSet → Type 0
BlocksAll p rules X m B = (i : ℕ) → i < m → HoldsAt (λ k. Supports k X → Blocks p k.number B) rules i

-- what was learned is right: each set is one that no model has
abbrev pub Learns : Program → Learned → Type 0
Learns p t = All (NoGood p) t.sets.items
