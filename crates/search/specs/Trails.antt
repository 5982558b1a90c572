-- What is known at a node of the search, and why.
use Rattle.std.specs.Prelude.{◌≡◌, ℕ, ◌<◌, Bool, true, false, cond, ◌⊎◌, Result, MatchResult, slice_index_or}
use Rattle.programs.specs.declared.literal.Literal.{Literal}
use Rattle.programs.specs.declared.literal.LiteralSet.{LiteralSet}
use Rattle.programs.specs.Literals.{Member, Subset, complement, no_literals, Added, TrueIn, AllTrue}
use Rattle.search.specs.Nogoods.{Avoids, Sole}
use Rattle.search.specs.declared.picks.Count.{Count}
use Rattle.search.specs.declared.picks.Count.TheVariants.{Nothing, One, Several}
use Rattle.search.specs.declared.trail.Trail.{Trail}

-- how many literals X has: none, one, or more than one
abbrev pub Counted : LiteralSet → Count → Type 0
Counted X Nothing = (l : Literal) → Member l X → ⊥
Counted X (One l) = (l.atom < 64) × Sole l X
Counted X Several = (l : Literal) → ((k : Literal) → Member k X → k ≡ l) → ⊥

-- w respects the trail: it has each known literal whose reason it has; a literal of the start is its own reason
abbrev pub Respects : ℕ → Trail → Type 0
Respects w t = (l : Literal) → Member l t.known → (Member l t.start → ⊥) → AllTrue (slice_index_or t.reasons l.atom no_literals) w → TrueIn l w

-- R is a part of the start that lies behind S: what respects the trail and has R has S
pub record Behind (t : Trail) (S R : LiteralSet) : Type 0 where
  pub within : Subset R t.start
  pub gives : (w : ℕ) → Respects w t → AllTrue R w → AllTrue S w

-- one more known literal, with its reason
pub record Extended (t : Trail) (l : Literal) (R : LiteralSet) (t' : Trail) : Type 0 where
  pub same : t'.start ≡ t.start
  pub grown : Added t.known l t'.known
  pub respected : (w : ℕ) → Respects w t → (AllTrue R w → TrueIn l w) → Respects w t'

-- the trail has come further: what was known is known, and each w of the kind H that respected it does so still
pub record Advanced (H : ℕ → Type 0) (t t' : Trail) : Type 0 where
  pub same : t'.start ≡ t.start
  pub kept : Subset t.known t'.known
  pub respected : (w : ℕ) → H w → Respects w t → Respects w t'

-- R is a part of the start that no w of the kind H has, if it respects the trail
pub record Refuted (H : ℕ → Type 0) (t : Trail) (R : LiteralSet) : Type 0 where
  pub within : Subset R t.start
  pub none : (w : ℕ) → H w → Respects w t → Avoids R w

-- a step for each w of the kind H: the trail comes further, or a part of its start is refuted
abbrev pub Narrowed : {A : Type 0} → (ℕ → Type 0) → Trail → Result A LiteralSet → Trail → Type 0
Narrowed H t r t' = MatchResult r (λ _. Advanced H t t') (λ R. Refuted H t R)

-- some literal of Y is not in X
abbrev pub Grew : LiteralSet → LiteralSet → Type 0
Grew X Y = (l : Literal) × (Member l X → ⊥) × Member l Y

-- N does not lie within K and one literal more that does not contradict K
abbrev pub Unripe : LiteralSet → LiteralSet → Type 0
Unripe N K = (l : Literal) → (Member (complement l) K → ⊥) → ((k : Literal) → Member k N → Member k K ⊎ (k ≡ l)) → ⊥

-- the unit step for N: where the answer is true a literal was added, where it is false N was not ripe
abbrev pub UnitStep : LiteralSet → Trail → Result Bool LiteralSet → Trail → Type 0
UnitStep N t r t' =
    MatchResult r
    (λ grew. Advanced (Avoids N) t t' × cond {A = Type 0} grew (Grew t.known t'.known) (Unripe N t.known))
    (λ R. Refuted (Avoids N) t R)

-- one of the two literals of atom i is in K
abbrev pub Decided : ℕ → LiteralSet → Type 0
Decided i K = Member (record { atom = i; negative = false }) K ⊎ Member (record { atom = i; negative = true }) K
