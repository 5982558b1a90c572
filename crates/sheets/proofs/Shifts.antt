-- Sets of literals at time 1.
use Rattle.std.proofs.Common.{◌≡◌, ℕ, zero, suc, ◌+◌, ◌-◌, ◌*◌, ◌/◌, ◌%◌, ◌^◌, ◌<◌, ◌≤◌, Bool, true, false, cond, sym, ap, ◌∙◌, ap₂, inl, inr, add_comm, mul_left_comm, arith, shl_exact}
use native.Mathlib.Nat.{pow-succ'}
use Rattle.std.proofs.lemmas.Nat.{shl-shr, shr-shr}
use Rattle.std.proofs.lemmas.Bool.{cases_lt}
use Rattle.programs.specs.declared.literal.LiteralSet.{LiteralSet}
use Rattle.programs.specs.Literals.{bit, Below}
use Rattle.programs.proofs.Bits.{bit_first, bit_next}
use Rattle.sheets.specs.Laws.{Description}
use Rattle.sheets.specs.Actions.{earlier, all_later, AllLaterAreTheLaterOnes}
use Rattle.sheets.specs.Fits.{positive_lt, negative_lt}

-- the bits of a word s places up
bit_up : (x s i : ℕ) → bit (x * 2 ^ s) (i + s) ≡ bit x i
unfolding bit
bit_up x s i =
    ap (λ n. n % 2)
    (ap (λ m. x * 2 ^ s / 2 ^ m) (add_comm i s) ∙ sym (shr-shr (x * 2 ^ s) s i) ∙ ap (λ n. n / 2 ^ i) (shl-shr x s))

up_twice : (x s : ℕ) → x * 2 ^ suc s ≡ 2 * (x * 2 ^ s)
up_twice x s = ap (λ m. x * m) (pow-succ' 2 s) ∙ mul_left_comm x 2 (2 ^ s)

bit_up_low : (x s i : ℕ) → i < s → bit (x * 2 ^ s) i ≡ 0
bit_up_low x zero i l = absurd (omega arith)
bit_up_low x (suc s) zero l = omega (arith, bit_first (x * 2 ^ suc s), up_twice x s)
bit_up_low x (suc s) (suc i) l =
    let half : x * 2 ^ suc s / 2 ≡ x * 2 ^ s = omega (arith, up_twice x s) in
    bit_next (x * 2 ^ suc s) i ∙ ap (λ n. bit n i) half ∙ bit_up_low x s i (omega arith)

bit_up_high : (x s i : ℕ) → bit (x * 2 ^ s) i ≡ 1 → s ≤ i
bit_up_high x s i e = elim (cases_lt i s) [ inl l ↦ absurd (omega (arith, bit_up_low x s i l)) | inr l ↦ l ]

-- the same for the word of either sign
side_up : (s p n : ℕ) (b : Bool) (i : ℕ) → bit (cond b (n * 2 ^ s) (p * 2 ^ s)) (i + s) ≡ bit (cond b n p) i
side_up s p n true i = bit_up n s i
side_up s p n false i = bit_up p s i

side_high : (s p n : ℕ) (b : Bool) (i : ℕ) → bit (cond b (n * 2 ^ s) (p * 2 ^ s)) i ≡ 1 → s ≤ i
side_high s p n true i e = bit_up_high n s i e
side_high s p n false i e = bit_up_high p s i e

pub all_later_members : (d : Description) (X : LiteralSet) → AllLaterAreTheLaterOnes d X
all_later_members d X = (
  λ l.
      let same = side_up (earlier d) X.positive X.negative l.negative l.atom in
      (λ e. same ∙ e, λ e. sym same ∙ e),
  λ m e.
      let high = side_high (earlier d) X.positive X.negative m.negative m.atom e in
      let at : m.atom ≡ m.atom - earlier d + earlier d = omega arith in
      (record { atom = m.atom - earlier d; negative = m.negative }, ap (λ a. record { atom = a; negative = m.negative }) at),
)

-- `x << s` in both words, where nothing is shifted out
pub all_later_shifted : (d : Description) (X : LiteralSet) → 2 * d.fluents + d.actions ≤ 64 → Below d.fluents X → record { positive = (X.positive * 2 ^ earlier d) % 2 ^ 64; negative = (X.negative * 2 ^ earlier d) % 2 ^ 64 } ≡ all_later d X
all_later_shifted d X few h =
    ap₂ (λ (p n : ℕ). record { positive = p; negative = n })
    (shl_exact d.fluents (earlier d) 64 (positive_lt d.fluents X h) (omega arith))
    (shl_exact d.fluents (earlier d) 64 (negative_lt d.fluents X h) (omega arith))
