-- The bits of a word.
use Rattle.std.proofs.Common.{◌≡◌, ℕ, zero, suc, ◌+◌, ◌-◌, ◌*◌, ◌/◌, ◌%◌, ◌^◌, ◌<◌, ◌≤◌, min, max, ◌⊎◌, sym, ap, ◌∙◌, subst, inl, inr, arith, pow_pos}
use native.Mathlib.Nat.{div-eq_of_lt, two-pow-succ}
use lib.Bits.{bit_and, bit_or}
use lib.Count.{ones, ones_step}
use Rattle.std.proofs.lemmas.Bool.{cases_eq, cases_lt}
use Rattle.std.proofs.lemmas.Nat.{shr_split, mod_below}
use Rattle.std.proofs.lemmas.Nat.Bits.{bit_at_lowest, bit_at-suc, bit_at-zero, bit_at-lt, bit_at_or, bit_at_and, bit_at-pow_same, bit_at-pow_other, bit_at_above, bit_at_ones, shr_and_one, same_from_bits}
use Rattle.programs.specs.Literals.{bit, Interpretation, BitBeyond}

-- what std says of `bit_at`, of our own word
pub bit_lt : (x i : ℕ) → bit x i < 2
unfolding bit
bit_lt = bit_at-lt

pub bit-bit_or : (x y i : ℕ) → bit (bit_or x y) i ≡ max (bit x i) (bit y i)
unfolding bit
bit-bit_or = bit_at_or

pub bit-bit_and : (x y i : ℕ) → bit (bit_and x y) i ≡ min (bit x i) (bit y i)
unfolding bit
bit-bit_and = bit_at_and

pub bit_none : (i : ℕ) → bit 0 i ≡ 0
unfolding bit
bit_none = bit_at-zero

pub bit_first : (x : ℕ) → bit x 0 ≡ x % 2
unfolding bit
bit_first = bit_at_lowest

pub bit_next : (x i : ℕ) → bit x (suc i) ≡ bit (x / 2) i
unfolding bit
bit_next = bit_at-suc

pub bits_same : (x y : ℕ) → ((i : ℕ) → bit x i ≡ bit y i) → x ≡ y
unfolding bit
bits_same = same_from_bits

pub bit_power_same : (k : ℕ) → bit (2 ^ k) k ≡ 1
unfolding bit
bit_power_same = bit_at-pow_same

pub bit_power_other : (k i : ℕ) → (i ≡ k → ⊥) → bit (2 ^ k) i ≡ 0
unfolding bit
bit_power_other = bit_at-pow_other

-- a word has no bit at n or above exactly where it is below 2 ^ n; `low_word` is the other way
pub bit_high : (x n i : ℕ) → x < 2 ^ n → n ≤ i → bit x i ≡ 0
unfolding bit
bit_high = bit_at_above

-- the mask `2 ^ k - 1`
pub mask_bit : (k i : ℕ) → i < k → bit (2 ^ k - 1) i ≡ 1
unfolding bit
mask_bit = bit_at_ones

-- `x >> i & 1`
pub bit_test : (x i : ℕ) → bit_and (x / 2 ^ i) 1 ≡ bit x i
unfolding bit
bit_test = shr_and_one

pub bit_cases : (x i : ℕ) → (bit x i ≡ 0) ⊎ (bit x i ≡ 1)
bit_cases x i = elim (cases_eq (bit x i) 0) [ inl e ↦ inl e | inr d ↦ inr (omega (arith, bit_lt x i, d)) ]

-- each bit of p is one of x
abbrev pub Within : ℕ → ℕ → Type 0
Within p x = (i : ℕ) → bit p i ≡ 1 → bit x i ≡ 1

-- `x & p == p` says that each bit of p is one of x
pub mask_within : (x p : ℕ) → bit_and x p ≡ p → Within p x
mask_within x p e i h = omega (arith, ap (λ n. bit n i) e, bit-bit_and x p i, bit_lt x i)

pub within_mask : (x p : ℕ) → Within p x → bit_and x p ≡ p
within_mask x p h =
    bits_same (bit_and x p) p
    (λ i. elim (bit_cases p i) [ inl e ↦ omega (arith, bit-bit_and x p i) | inr e ↦ omega (arith, bit-bit_and x p i, h i e) ])

pub within_both : (x y : ℕ) → Within x y → Within y x → x ≡ y
within_both x y h k =
    bits_same x y
    (λ i. elim (bit_cases x i) [ inl e ↦ elim (bit_cases y i) [ inl f ↦ omega arith | inr f ↦ omega (arith, k i f) ] | inr e ↦ omega (arith, h i e) ])

pub or_one : (x k : ℕ) → bit (bit_or x (2 ^ k)) k ≡ 1
or_one x k = omega (arith, bit-bit_or x (2 ^ k) k, bit_power_same k, bit_lt x k)

pub or_keeps : (x k : ℕ) → Within x (bit_or x (2 ^ k))
or_keeps x k i h = omega (arith, bit-bit_or x (2 ^ k) i, bit_lt (2 ^ k) i)

pub or_within : (x y k : ℕ) → Within x y → bit y k ≡ 1 → Within (bit_or x (2 ^ k)) y
or_within x y k h o i e =
    elim (cases_eq i k) [
      | inl s ↦ subst (λ j. bit y j ≡ 1) (sym s) o
      | inr d ↦ h i (omega (arith, bit-bit_or x (2 ^ k) i, bit_power_other k i d))
    ]

pub bit_place : (x n i : ℕ) → x < 2 ^ n → bit x i ≡ 1 → i < n
bit_place x n i h e = elim (cases_lt i n) [ inl l ↦ l | inr l ↦ absurd (omega (arith, bit_high x n i h l)) ]

-- no bit of p is one of x
abbrev pub Apart : ℕ → ℕ → Type 0
Apart p x = (i : ℕ) → bit p i ≡ 1 → bit x i ≡ 0

pub mask_apart : (x p : ℕ) → bit_and x p ≡ 0 → Apart p x
mask_apart x p e i h = omega (arith, ap (λ n. bit n i) e, bit_none i, bit-bit_and x p i, bit_lt x i)

pub apart_mask : (x p : ℕ) → Apart p x → bit_and x p ≡ 0
apart_mask x p h =
    bits_same (bit_and x p) 0
    (λ i. elim (bit_cases p i) [ inl e ↦ omega (arith, bit-bit_and x p i, bit_none i) | inr e ↦ omega (arith, bit-bit_and x p i, h i e, bit_none i) ])

-- the other way of `bit_high`
pub low_word : (n w : ℕ) → ((i : ℕ) → n ≤ i → bit w i ≡ 0) → w < 2 ^ n
low_word zero w h = omega (arith, bits_same w 0 (λ i. h i (omega arith) ∙ sym (bit_none i)))
low_word (suc n) w h =
    let half = low_word n (w / 2) (λ i l. sym (bit_next w i) ∙ h (suc i) (omega arith)) in
    omega (arith, two-pow-succ n)

-- the complement of w below n
pub complement_bit : (n w i : ℕ) → w < 2 ^ n → i < n → bit (2 ^ n - 1 - w) i + bit w i ≡ 1
complement_bit zero w i h l = absurd (omega arith)
complement_bit (suc n) w zero h l = omega (arith, bit_first (2 ^ suc n - 1 - w), bit_first w, two-pow-succ n)
complement_bit (suc n) w (suc i) h l =
    let half : (2 ^ suc n - 1 - w) / 2 ≡ 2 ^ n - 1 - w / 2 = omega (arith, two-pow-succ n) in
    let rest = complement_bit n (w / 2) i (omega (arith, two-pow-succ n)) (omega arith) in
    omega (arith, bit_next (2 ^ suc n - 1 - w) i, bit_next w i, ap (λ m. bit m i) half)

-- `x & !y` at 64 bits
pub without_bit : (x y i : ℕ) → x < 2 ^ 64 → y < 2 ^ 64 → bit (bit_and x (2 ^ 64 - 1 - y)) i ≡ 1 → (bit x i ≡ 1) × (bit y i ≡ 0)
without_bit x y i p q e =
    let both = bit-bit_and x (2 ^ 64 - 1 - y) i in
    let one : bit x i ≡ 1 = omega (arith, bit_lt x i, bit_lt (2 ^ 64 - 1 - y) i) in
    (one, omega (arith, bit_lt x i, bit_lt (2 ^ 64 - 1 - y) i, complement_bit 64 y i q (bit_place x 64 i p one)))

pub bit_without : (x y i : ℕ) → x < 2 ^ 64 → y < 2 ^ 64 → bit x i ≡ 1 → bit y i ≡ 0 → bit (bit_and x (2 ^ 64 - 1 - y)) i ≡ 1
bit_without x y i p q e f = omega (arith, bit-bit_and x (2 ^ 64 - 1 - y) i, complement_bit 64 y i q (bit_place x 64 i p e))

-- the interpretations of n atoms are the numbers below 2 ^ n
pub below_interpretation : (n w : ℕ) → w < 2 ^ n → Interpretation n w
below_interpretation n w h i l = bit_high w n i h l

pub interpretation_below : (n w : ℕ) → Interpretation n w → w < 2 ^ n
interpretation_below = low_word

below_power : (n : ℕ) → n < 2 ^ n
below_power zero = omega arith
below_power (suc n) = omega (arith, below_power n, two-pow-succ n)

some_bit : (k x : ℕ) → x < 2 ^ k → 0 < x → (i : ℕ) × (bit x i ≡ 1)
some_bit zero x h l = absurd (omega arith)
some_bit (suc k) x h l =
    elim (bit_cases x 0) [
      | inr e ↦ (0, e)
      | inl e ↦
          let rest = some_bit k (x / 2) (omega (arith, two-pow-succ k)) (omega (arith, bit_first x)) in
          (suc rest.0, bit_next x rest.0 ∙ rest.1)
    ]

-- and any other number has a bit beyond
pub bit_beyond : (n w : ℕ) → 2 ^ n ≤ w → BitBeyond n w
bit_beyond zero w h = let b = some_bit w w (below_power w) (omega arith) in (b.0, omega arith, b.1)
bit_beyond (suc n) w h =
    let b = bit_beyond n (w / 2) (omega (arith, two-pow-succ n)) in
    (suc b.0, omega (arith, b.1), bit_next w b.0 ∙ b.2)

pub not_interpretation : (n w : ℕ) → (Interpretation n w → ⊥) → BitBeyond n w
not_interpretation n w not = elim (cases_lt w (2 ^ n)) [ inl l ↦ absurd (not (below_interpretation n w l)) | inr l ↦ bit_beyond n w l ]

-- `w >> n == 0`
pub shifted_out : (n w : ℕ) → w / 2 ^ n ≡ 0 → w < 2 ^ n
shifted_out n w h =
    let none : w / 2 ^ n * 2 ^ n ≡ 0 * 2 ^ n = ap (λ q. q * 2 ^ n) h in
    omega (arith, shr_split w n, mod_below w (2 ^ n) (pow_pos n))

pub shifts_out : (n w : ℕ) → w < 2 ^ n → w / 2 ^ n ≡ 0
shifts_out n w h = div-eq_of_lt h

-- of two words that agree above a bit, the one that has it is larger; and of two words the larger has such a bit
pub bits_less : (a w v : ℕ) → bit w a ≡ 0 → bit v a ≡ 1 → ((i : ℕ) → a < i → bit w i ≡ bit v i) → w < v
bits_less zero w v p q h =
    let halves = bits_same (w / 2) (v / 2) (λ i. sym (bit_next w i) ∙ h (suc i) (omega arith) ∙ bit_next v i) in
    omega (arith, bit_first w, bit_first v)
bits_less (suc a) w v p q h =
    let less = bits_less a (w / 2) (v / 2) (sym (bit_next w a) ∙ p) (sym (bit_next v a) ∙ q) (λ i l. sym (bit_next w i) ∙ h (suc i) (omega arith) ∙ bit_next v i) in
    omega arith

same_above : (m v i : ℕ) → m / 2 ≡ v / 2 → 0 < i → bit v i ≡ bit m i
same_above m v zero e h = absurd (omega arith)
same_above m v (suc i) e h = bit_next v i ∙ ap (λ x. bit x i) (sym e) ∙ sym (bit_next m i)

next_above : (m v k i : ℕ) → ((j : ℕ) → k < j → bit (v / 2) j ≡ bit (m / 2) j) → suc k < i → bit v i ≡ bit m i
next_above m v k zero h l = absurd (omega arith)
next_above m v k (suc i) h l = bit_next v i ∙ h i (omega arith) ∙ sym (bit_next m i)

pub top_difference : (n m v : ℕ) → v < 2 ^ n → m < v → (k : ℕ) × (bit m k ≡ 0) × (bit v k ≡ 1) × ((i : ℕ) → k < i → bit v i ≡ bit m i)
top_difference zero m v h l = absurd (omega arith)
top_difference (suc n) m v h l =
    elim (cases_lt (m / 2) (v / 2)) [
      | inr ge ↦
          let e : m / 2 ≡ v / 2 = omega arith in
          (0, omega (arith, bit_first m), omega (arith, bit_first v), λ i. same_above m v i e)
      | inl lt ↦
          let rest = top_difference n (m / 2) (v / 2) (omega (arith, two-pow-succ n)) lt in (
            suc rest.0,
            bit_next m rest.0 ∙ rest.1,
            bit_next v rest.0 ∙ rest.2,
            λ i. next_above m v rest.0 i rest.3,
          )
    ]

-- a word has at least as many bits as one that it holds, and more unless they are one
pub ones_within : (n x y : ℕ) → x < 2 ^ n → y < 2 ^ n → Within x y → ones x ≤ ones y
ones_within zero x y p q h = let a : x ≡ 0 = omega arith in let b : y ≡ 0 = omega arith in omega (arith, ap ones (a ∙ sym b))
ones_within (suc n) x y p q h =
    let rest = ones_within n (x / 2) (y / 2) (omega (arith, two-pow-succ n)) (omega (arith, two-pow-succ n)) (λ i e. sym (bit_next y i) ∙ h (suc i) (bit_next x i ∙ e)) in
    let low : x % 2 ≤ y % 2 = elim (bit_cases x 0) [ inl e ↦ omega (arith, bit_first x) | inr e ↦ omega (arith, bit_first x, bit_first y, h 0 e) ] in
    omega (arith, ones_step x, ones_step y)

pub ones_fewer : (n x y : ℕ) → x < 2 ^ n → y < 2 ^ n → Within x y → (x ≡ y → ⊥) → ones x < ones y
ones_fewer zero x y p q h d = absurd (d (omega arith))
ones_fewer (suc n) x y p q h d =
    let hx : x / 2 < 2 ^ n = omega (arith, two-pow-succ n) in
    let hy : y / 2 < 2 ^ n = omega (arith, two-pow-succ n) in
    let below : Within (x / 2) (y / 2) = λ i e. sym (bit_next y i) ∙ h (suc i) (bit_next x i ∙ e) in
    let low : x % 2 ≤ y % 2 = elim (bit_cases x 0) [ inl e ↦ omega (arith, bit_first x) | inr e ↦ omega (arith, bit_first x, bit_first y, h 0 e) ] in
    elim (cases_eq (x / 2) (y / 2)) [
      | inl e ↦ omega (arith, ones_step x, ones_step y, ap ones e, d)
      | inr e ↦ omega (arith, ones_step x, ones_step y, ones_fewer n (x / 2) (y / 2) hx hy below e)
    ]
