-- Sets of literals, closed sets and smallest ones.
use Rattle.std.proofs.Common.{◌≡◌, ℕ, ◌-◌, ◌*◌, ◌%◌, ◌^◌, ◌<◌, Bool, true, false, cond, ◌⊎◌, sym, ap, subst, ap₂, inl, inr, arith, pow_pos}
use lib.Bits.{bit_and, bit_or}
use Rattle.std.proofs.lemmas.Bool.{true≢false, false≢true}
use Rattle.std.proofs.lemmas.Nat.{one_shl}
use Rattle.programs.specs.declared.literal.Literal.{Literal}
use Rattle.programs.specs.declared.literal.LiteralSet.{LiteralSet}
use Rattle.programs.specs.Literals.{bit, Subset, no_literals, with_literal, Added, Disjoint, Union, Difference, Below, AllTrue, Interpretation, LiteralsOfAreTheTrueOnes}
use Rattle.programs.proofs.Bits.{Within, Apart, bit_none, bit_cases, bit_lt, bit-bit_or, without_bit, bit_without, or_one, or_keeps, or_within, within_both, bit_place, complement_bit, interpretation_below}

pub same_set : (X Y : LiteralSet) → X.positive ≡ Y.positive → X.negative ≡ Y.negative → X ≡ Y
same_set X Y p q = ap₂ (λ (a b : ℕ). record { positive = a; negative = b }) p q

-- a subset, word by word
pub positive_within : (X Y : LiteralSet) → Subset X Y → Within X.positive Y.positive
positive_within X Y s i h = s (record { atom = i; negative = false }) h

pub negative_within : (X Y : LiteralSet) → Subset X Y → Within X.negative Y.negative
negative_within X Y s i h = s (record { atom = i; negative = true }) h

either_side : (X Y : LiteralSet) → Within X.positive Y.positive → Within X.negative Y.negative → (b : Bool) (i : ℕ) → bit (cond b X.negative X.positive) i ≡ 1 → bit (cond b Y.negative Y.positive) i ≡ 1
either_side X Y p n true i h = n i h
either_side X Y p n false i h = p i h

pub subset_of : (X Y : LiteralSet) → Within X.positive Y.positive → Within X.negative Y.negative → Subset X Y
subset_of X Y p n l h = either_side X Y p n l.negative l.atom h

pub subset_both : (X Y : LiteralSet) → Subset X Y → Subset Y X → X ≡ Y
subset_both X Y a b =
    same_set X Y
    (within_both X.positive Y.positive (positive_within X Y a) (positive_within Y X b))
    (within_both X.negative Y.negative (negative_within X Y a) (negative_within Y X b))

pub empty_subset : (Y : LiteralSet) → Subset no_literals Y
empty_subset Y = subset_of no_literals Y (λ i h. omega (arith, bit_none i)) (λ i h. omega (arith, bit_none i))

-- disjoint sets, word by word
pub positive_apart : (X Y : LiteralSet) → Disjoint X Y → Apart Y.positive X.positive
positive_apart X Y d i h = elim (bit_cases X.positive i) [ inl e ↦ e | inr e ↦ absurd (d (record { atom = i; negative = false }) e h) ]

pub negative_apart : (X Y : LiteralSet) → Disjoint X Y → Apart Y.negative X.negative
negative_apart X Y d i h = elim (bit_cases X.negative i) [ inl e ↦ e | inr e ↦ absurd (d (record { atom = i; negative = true }) e h) ]

either_apart : (X Y : LiteralSet) → Apart Y.positive X.positive → Apart Y.negative X.negative → (b : Bool) (i : ℕ) → bit (cond b X.negative X.positive) i ≡ 1 → bit (cond b Y.negative Y.positive) i ≡ 1 → ⊥
either_apart X Y p n true i h k = omega (arith, n i k)
either_apart X Y p n false i h k = omega (arith, p i k)

pub disjoint_of : (X Y : LiteralSet) → Apart Y.positive X.positive → Apart Y.negative X.negative → Disjoint X Y
disjoint_of X Y p n l h k = either_apart X Y p n l.negative l.atom h k

-- the literals of either set
or_either : (x y i : ℕ) → bit (bit_or x y) i ≡ 1 → (bit x i ≡ 1) ⊎ (bit y i ≡ 1)
or_either x y i h = elim (bit_cases x i) [ inl e ↦ inr (omega (arith, bit-bit_or x y i, bit_lt y i)) | inr e ↦ inl e ]

abbrev joined : LiteralSet → LiteralSet → LiteralSet
joined X Y = record { positive = bit_or X.positive Y.positive; negative = bit_or X.negative Y.negative }

either_joined : (X Y : LiteralSet) (b : Bool) (i : ℕ) → bit (cond b (bit_or X.negative Y.negative) (bit_or X.positive Y.positive)) i ≡ 1 → (bit (cond b X.negative X.positive) i ≡ 1) ⊎ (bit (cond b Y.negative Y.positive) i ≡ 1)
either_joined X Y true i h = or_either X.negative Y.negative i h
either_joined X Y false i h = or_either X.positive Y.positive i h

pub union_of : (X Y : LiteralSet) → Union X Y (joined X Y)
union_of X Y = record {
  left = subset_of X (joined X Y) (λ i h. omega (arith, bit-bit_or X.positive Y.positive i, bit_lt Y.positive i)) (λ i h. omega (arith, bit-bit_or X.negative Y.negative i, bit_lt Y.negative i));
  right = subset_of Y (joined X Y) (λ i h. omega (arith, bit-bit_or X.positive Y.positive i, bit_lt X.positive i)) (λ i h. omega (arith, bit-bit_or X.negative Y.negative i, bit_lt X.negative i));
  only = λ l h. either_joined X Y l.negative l.atom h;
}

-- the literals of one set that are not in another
abbrev removed : LiteralSet → LiteralSet → LiteralSet
removed X Y = record { positive = bit_and X.positive (2 ^ 64 - 1 - Y.positive); negative = bit_and X.negative (2 ^ 64 - 1 - Y.negative) }

either_kept : (X Y : LiteralSet) → X.positive < 2 ^ 64 → X.negative < 2 ^ 64 → Y.positive < 2 ^ 64 → Y.negative < 2 ^ 64 → (b : Bool) (i : ℕ) → bit (cond b X.negative X.positive) i ≡ 1 → (bit (cond b Y.negative Y.positive) i ≡ 1 → ⊥) → bit (cond b (removed X Y).negative (removed X Y).positive) i ≡ 1
either_kept X Y xp xn yp yn true i h k = bit_without X.negative Y.negative i xn yn h (elim (bit_cases Y.negative i) [ inl e ↦ e | inr e ↦ absurd (k e) ])
either_kept X Y xp xn yp yn false i h k = bit_without X.positive Y.positive i xp yp h (elim (bit_cases Y.positive i) [ inl e ↦ e | inr e ↦ absurd (k e) ])

pub difference_of : (X Y : LiteralSet) → X.positive < 2 ^ 64 → X.negative < 2 ^ 64 → Y.positive < 2 ^ 64 → Y.negative < 2 ^ 64 → Difference X Y (removed X Y)
difference_of X Y xp xn yp yn = record {
  from = subset_of (removed X Y) X (λ i h. (without_bit X.positive Y.positive i xp yp h).0) (λ i h. (without_bit X.negative Y.negative i xn yn h).0);
  apart = disjoint_of (removed X Y) Y
      (λ i h. elim (bit_cases (removed X Y).positive i) [ inl e ↦ e | inr e ↦ absurd (omega (arith, without_bit X.positive Y.positive i xp yp e)) ])
      (λ i h. elim (bit_cases (removed X Y).negative i) [ inl e ↦ e | inr e ↦ absurd (omega (arith, without_bit X.negative Y.negative i xn yn e)) ]);
  has = λ l h k. either_kept X Y xp xn yp yn l.negative l.atom h k;
}

pub some_difference : (X Y : LiteralSet) → X.positive < 2 ^ 64 → X.negative < 2 ^ 64 → Y.positive < 2 ^ 64 → Y.negative < 2 ^ 64 → (Z : LiteralSet) × Difference X Y Z
some_difference X Y xp xn yp yn = (removed X Y, difference_of X Y xp xn yp yn)

-- a set that is true in w, word by word
pub positive_true : (X : LiteralSet) (w : ℕ) → AllTrue X w → Within X.positive w
positive_true X w h i e = h (record { atom = i; negative = false }) e

pub negative_true : (X : LiteralSet) (w : ℕ) → AllTrue X w → Apart X.negative w
negative_true X w h i e = h (record { atom = i; negative = true }) e

either_true : (X : LiteralSet) (w : ℕ) → Within X.positive w → Apart X.negative w → (b : Bool) (i : ℕ) → bit (cond b X.negative X.positive) i ≡ 1 → bit w i ≡ cond b 0 1
either_true X w p n true i h = n i h
either_true X w p n false i h = p i h

pub true_of : (X : LiteralSet) (w : ℕ) → Within X.positive w → Apart X.negative w → AllTrue X w
true_of X w p n l h = either_true X w p n l.negative l.atom h

-- one literal more
added_negative : (X : LiteralSet) (k : ℕ) → Added X (record { atom = k; negative = true }) (record { positive = X.positive; negative = bit_or X.negative (2 ^ k) })
added_negative X k = record {
  has = or_one X.negative k;
  kept = subset_of X (record { positive = X.positive; negative = bit_or X.negative (2 ^ k) }) (λ i h. h) (or_keeps X.negative k);
  within = λ Y s m. subset_of (record { positive = X.positive; negative = bit_or X.negative (2 ^ k) }) Y (positive_within X Y s) (or_within X.negative Y.negative k (negative_within X Y s) m);
}

added_positive : (X : LiteralSet) (k : ℕ) → Added X (record { atom = k; negative = false }) (record { positive = bit_or X.positive (2 ^ k); negative = X.negative })
added_positive X k = record {
  has = or_one X.positive k;
  kept = subset_of X (record { positive = bit_or X.positive (2 ^ k); negative = X.negative }) (or_keeps X.positive k) (λ i h. h);
  within = λ Y s m. subset_of (record { positive = bit_or X.positive (2 ^ k); negative = X.negative }) Y (or_within X.positive Y.positive k (positive_within X Y s) m) (negative_within X Y s);
}

-- `x | 1 << k` in the word of either sign
or_negative : (X : LiteralSet) (k : ℕ) → k < 64 → record { positive = X.positive; negative = bit_or X.negative ((1 * 2 ^ k) % 2 ^ 64) } ≡ with_literal X (record { atom = k; negative = true })
or_negative X k h = ap (λ m. record { positive = X.positive; negative = bit_or X.negative m }) (one_shl k 64 h)

or_positive : (X : LiteralSet) (k : ℕ) → k < 64 → record { positive = bit_or X.positive ((1 * 2 ^ k) % 2 ^ 64); negative = X.negative } ≡ with_literal X (record { atom = k; negative = false })
or_positive X k h = ap (λ m. record { positive = bit_or X.positive m; negative = X.negative }) (one_shl k 64 h)

abbrev With : LiteralSet → Literal → LiteralSet → Type 0
With X l Y = (Y ≡ with_literal X l) × Added X l Y

pub with_negative : (X : LiteralSet) (k : ℕ) (b : Bool) → b ≡ true → k < 64 → With X (record { atom = k; negative = b }) (record { positive = X.positive; negative = bit_or X.negative ((1 * 2 ^ k) % 2 ^ 64) })
with_negative X k true e h = (or_negative X k h, subst (Added X (record { atom = k; negative = true })) (sym (or_negative X k h)) (added_negative X k))
with_negative X k false e h = absurd (false≢true e)

pub with_positive : (X : LiteralSet) (k : ℕ) (b : Bool) → b ≡ false → k < 64 → With X (record { atom = k; negative = b }) (record { positive = bit_or X.positive ((1 * 2 ^ k) % 2 ^ 64); negative = X.negative })
with_positive X k true e h = absurd (true≢false e)
with_positive X k false e h = (or_positive X k h, subst (Added X (record { atom = k; negative = false })) (sym (or_positive X k h)) (added_positive X k))

-- the two words of an interpretation
complement_below : (n w : ℕ) → w < 2 ^ n → 2 ^ n - 1 - w < 2 ^ n
complement_below n w h = omega arith

of_side : (n w : ℕ) → w < 2 ^ n → (b : Bool) (i : ℕ) → bit (cond b (2 ^ n - 1 - w) w) i ≡ 1 → (i < n) × (bit w i ≡ cond b 0 1)
of_side n w h true i e =
    let l = bit_place (2 ^ n - 1 - w) n i (complement_below n w h) e in
    (l, omega (arith, complement_bit n w i h l))
of_side n w h false i e = (bit_place w n i h e, e)

on_side : (n w : ℕ) → w < 2 ^ n → (b : Bool) (i : ℕ) → i < n → bit w i ≡ cond b 0 1 → bit (cond b (2 ^ n - 1 - w) w) i ≡ 1
on_side n w h true i l e = omega (arith, complement_bit n w i h l)
on_side n w h false i l e = e

pub literals_of_true : (n w : ℕ) → Interpretation n w → LiteralsOfAreTheTrueOnes n w
literals_of_true n w h l =
    let b = interpretation_below n w h in
    (λ e. of_side n w b l.negative l.atom e, λ e. on_side n w b l.negative l.atom e.0 e.1)

-- a set by its words: each is below 2 ^ n
below_side : (X : LiteralSet) (n : ℕ) → X.positive < 2 ^ n → X.negative < 2 ^ n → (b : Bool) (i : ℕ) → bit (cond b X.negative X.positive) i ≡ 1 → i < n
below_side X n p q true i h = bit_place X.negative n i q h
below_side X n p q false i h = bit_place X.positive n i p h

pub below_of : (X : LiteralSet) (n : ℕ) → X.positive < 2 ^ n → X.negative < 2 ^ n → Below n X
below_of X n p q l h = below_side X n p q l.negative l.atom h

pub positive_below : (X : LiteralSet) (n : ℕ) → Below n X → Interpretation n X.positive
positive_below X n b i l =
    elim (bit_cases X.positive i) [ inl e ↦ e | inr e ↦ absurd (omega (arith, b (record { atom = i; negative = false }) e)) ]

pub negative_below : (X : LiteralSet) (n : ℕ) → Below n X → Interpretation n X.negative
negative_below X n b i l =
    elim (bit_cases X.negative i) [ inl e ↦ e | inr e ↦ absurd (omega (arith, b (record { atom = i; negative = true }) e)) ]

pub words_below : (X : LiteralSet) (n : ℕ) → Interpretation n X.positive → Interpretation n X.negative → Below n X
words_below X n p q = below_of X n (interpretation_below n X.positive p) (interpretation_below n X.negative q)

pub none_below : (n : ℕ) → Below n no_literals
none_below n = below_of no_literals n (pow_pos n) (pow_pos n)
