-- The highest bit of a word, sets with one literal, and sets that agree.
use Rattle.std.proofs.Common.{◌≡◌, ℕ, suc, ◌*◌, ◌^◌, ◌<◌, ◌≤◌, Bool, true, false, cond, not, ◌⊎◌, Decides, sym, refl, ap, ◌∙◌, subst, ap₂, inl, inr, arith, pow_pos}
use native.Mathlib.Nat.{two-pow-succ}
use lib.Bits.{bit_or}
use Rattle.std.proofs.lemmas.Nat.{le-div, div_below}
use Rattle.std.proofs.lemmas.Bool.{cases_eq}
use Rattle.programs.specs.declared.literal.Literal.{Literal}
use Rattle.programs.specs.declared.literal.LiteralSet.{LiteralSet}
use Rattle.programs.specs.Literals.{bit, Member, complement, with_literal, no_literals, Added, Disjoint, Complements}
use Rattle.programs.proofs.Bits.{bit_none, bit_high, bit-bit_or, bit_lt, bit_cases, bit_power_other}
use Rattle.programs.proofs.Sets.{subset_both, empty_subset}
use Rattle.search.specs.Nogoods.{Agrees, Sole}

top_bit : (x j : ℕ) → 2 ^ j ≤ x → x < 2 ^ suc j → bit x j ≡ 1
unfolding bit
top_bit x j a b =
    let low = le-div 1 x (2 ^ j) (pow_pos j) (omega arith) in
    let high = div_below x (2 ^ j) 2 (pow_pos j) (omega (arith, two-pow-succ j)) in
    omega arith

-- the place of the highest bit
pub highest_bit : (x k : ℕ) → 2 ^ k ≤ x → x < 2 * 2 ^ k → (bit x k ≡ 1) × ((i : ℕ) → k < i → bit x i ≡ 0)
highest_bit x k a b =
    let h : x < 2 ^ suc k = omega (arith, two-pow-succ k) in
    (top_bit x k a h, λ i l. bit_high x (suc k) i h (omega arith))

-- a word that has no bit
pub no_bit : (x i : ℕ) → x ≡ 0 → bit x i ≡ 1 → ⊥
no_bit x i e h = omega (arith, ap (λ y. bit y i) e, bit_none i)

-- a literal on an atom of either word
pub other_side : (X : LiteralSet) (a : ℕ) → bit (bit_or X.positive X.negative) a ≡ 1 → (bit X.positive a ≡ 1 → ⊥) → bit X.negative a ≡ 1
other_side X a h no-positive =
    elim (bit_cases X.positive a) [
      | inl e ↦ omega (arith, bit-bit_or X.positive X.negative a, bit_lt X.negative a)
      | inr e ↦ absurd (no-positive e)
    ]

either_none : (X : LiteralSet) → bit_or X.positive X.negative ≡ 0 → (b : Bool) (i : ℕ) → bit (cond b X.negative X.positive) i ≡ 1 → ⊥
either_none X e true i h = omega (arith, ap (λ y. bit y i) e, bit_none i, bit-bit_or X.positive X.negative i, bit_lt X.positive i)
either_none X e false i h = omega (arith, ap (λ y. bit y i) e, bit_none i, bit-bit_or X.positive X.negative i, bit_lt X.negative i)

pub no_literal : (X : LiteralSet) → bit_or X.positive X.negative ≡ 0 → (l : Literal) → Member l X → ⊥
no_literal X e l h = either_none X e l.negative l.atom h

pub same_literal : (k l : Literal) → k.atom ≡ l.atom → k.negative ≡ l.negative → k ≡ l
same_literal k l p q = ap₂ (λ (a : ℕ) (b : Bool). record { atom = a; negative = b }) p q

-- the complement of the complement
not_twice : (b : Bool) → not (not b) ≡ b
not_twice true = refl
not_twice false = refl

pub complement_twice : (l : Literal) → complement (complement l) ≡ l
complement_twice l = same_literal (complement (complement l)) l refl (not_twice l.negative)

-- two sets agree where the one has nothing of the other's complements
pub agrees_test : (b : Bool) (X K C : LiteralSet) → Complements K C → Decides b (Disjoint X C) → Decides b (Agrees X K)
agrees_test b X K C c d = (
  λ e l m n. d.0 e l m (subst (λ j. Member j C) (complement_twice l) (c.has (complement l) n)),
  λ a. d.1 (λ l m n. a l m (c.only l n)),
)

-- what a set with one literal more has
or_cases : (x a i : ℕ) → bit (bit_or x (2 ^ a)) i ≡ 1 → (bit x i ≡ 1) ⊎ (i ≡ a)
or_cases x a i h = elim (cases_eq i a) [ inl e ↦ inr e | inr d ↦ inl (omega (arith, bit-bit_or x (2 ^ a) i, bit_power_other a i d, bit_lt x i)) ]

either_with : (X : LiteralSet) (a i : ℕ) (b d : Bool) → bit (cond d (with_literal X (record { atom = a; negative = b })).negative (with_literal X (record { atom = a; negative = b })).positive) i ≡ 1 → (bit (cond d X.negative X.positive) i ≡ 1) ⊎ ((i ≡ a) × (d ≡ b))
either_with X a i true true h = elim (or_cases X.negative a i h) [ inl e ↦ inl e | inr e ↦ inr (e, refl) ]
either_with X a i true false h = inl h
either_with X a i false true h = inl h
either_with X a i false false h = elim (or_cases X.positive a i h) [ inl e ↦ inl e | inr e ↦ inr (e, refl) ]

pub with_cases : (X : LiteralSet) (l k : Literal) → Member k (with_literal X l) → Member k X ⊎ (k ≡ l)
with_cases X l k h =
    elim (either_with X l.atom k.atom l.negative k.negative h) [ inl e ↦ inl e | inr e ↦ inr (same_literal k l e.0 e.1) ]

pub none_empty : (k : Literal) → Member k no_literals → ⊥
none_empty k h = no_literal no_literals refl k h

-- a set that is one literal
pub sole_of : (X : LiteralSet) (l : Literal) → X ≡ with_literal no_literals l → Member l X → Sole l X
sole_of X l e m = (m, λ k h. elim (with_cases no_literals l k (subst (λ Y. Member k Y) e h)) [ inl n ↦ absurd (none_empty k n) | inr s ↦ s ])

pub sole_same : (X Y : LiteralSet) (l m : Literal) → Member l X → Added no_literals l Y → ((k : Literal) → Member k X → k ≡ m) → X ≡ Y
sole_same X Y l m h a all =
    subset_both X Y
    (λ k n. subst (λ j. Member j Y) (all l h ∙ sym (all k n)) a.has)
    (a.within X (empty_subset X) h)
