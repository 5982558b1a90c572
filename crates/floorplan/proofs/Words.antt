-- The word of a step, and the search for the steps from a state.
use Rattle.std.proofs.Common.{◌≡◌, ℕ, ◌+◌, ◌-◌, ◌*◌, ◌/◌, ◌%◌, ◌^◌, ◌<◌, true, false, Some, None, Option, sym, ap, ◌∙◌, subst, inl, inr, arith}
use lib.Bits.{bit_or}
use Rattle.std.specs.Option.{option_map}
use Rattle.std.proofs.lemmas.Nat.{or_lt, or_comm, or_shifted, and_mask, pow_below, mod_low, one_shl}
use Rattle.std.proofs.lemmas.Bool.{cases_lt}
use Rattle.programs.specs.declared.literal.LiteralSet.{LiteralSet}
use Rattle.programs.specs.Literals.{bit, AllTrue, literals_of}
use Rattle.programs.specs.Programs.{Program, Model}
use Rattle.programs.proofs.Bits.{bit_cases, bit_lt, bit-bit_and, bit_high, mask_bit, bits_same, below_interpretation, interpretation_below}
use Rattle.programs.proofs.Sets.{literals_of_true}
use Rattle.search.specs.Searches.{Above, ModelAboveWith, NamesSmallest}
use Rattle.floorplan.specs.Next.{step, known}
use Rattle.floorplan.specs.Following.{MayFollow, steps_to}

pub known_low : (before action : ℕ) → before < 512 → action < 7 → known before action < 2 ^ 16
known_low before action b a = or_lt 16 before (2 ^ (9 + action)) (omega arith) (pow_below (9 + action) 16 (omega arith))

pub step_value : (before action s : ℕ) → before < 512 → action < 7 → step before action s ≡ s * 2 ^ 16 + known before action
step_value before action s b a = or_comm (known before action) (s * 2 ^ 16) ∙ or_shifted s 16 (known before action) (known_low before action b a)

-- the low bits of a word
bit_low : (n w i : ℕ) → i < n → bit (w % 2 ^ n) i ≡ bit w i
bit_low n w i h = ap (λ x. bit x i) (sym (and_mask w n)) ∙ omega (arith, bit-bit_and w (2 ^ n - 1) i, mask_bit n i h, bit_lt w i)

-- w has the literals of d exactly where its low bits are d
pub low_true : (n d w : ℕ) → d < 2 ^ n → w % 2 ^ n ≡ d → AllTrue (literals_of n d) w
low_true n d w h e l m =
    let own = (literals_of_true n d (below_interpretation n d h) l).0 m in
    sym (bit_low n w l.atom own.0) ∙ ap (λ x. bit x l.atom) e ∙ own.1

true_bit : (n d w i : ℕ) → d < 2 ^ n → AllTrue (literals_of n d) w → i < n → bit w i ≡ bit d i
true_bit n d w i h all lt =
    let own = literals_of_true n d (below_interpretation n d h) in
    elim (bit_cases d i) [
      | inr e ↦ all (record { atom = i; negative = false }) ((own (record { atom = i; negative = false })).1 (lt, e)) ∙ sym e
      | inl e ↦ all (record { atom = i; negative = true }) ((own (record { atom = i; negative = true })).1 (lt, e)) ∙ sym e
    ]

pub true_low : (n d w : ℕ) → d < 2 ^ n → w % 2 ^ n < 2 ^ n → AllTrue (literals_of n d) w → w % 2 ^ n ≡ d
true_low n d w h k all =
    bits_same (w % 2 ^ n) d
    (λ i. elim (cases_lt i n) [
      | inl l ↦ bit_low n w i l ∙ true_bit n d w i h all l
      | inr l ↦ bit_high (w % 2 ^ n) n i k l ∙ sym (bit_high d n i h l)
    ])

module _ (p : Program) (before action : ℕ) (n : p.atoms ≡ 25) (b : before < 512) (a : action < 7) where
  above_step : (above : Option ℕ) (s : ℕ) → Above above s → Above (steps_to (known before action) above) (step before action s)
  above_step None s h = tt
  above_step (Some t) s h = omega (arith, step_value before action t b a, step_value before action s b a)

  step_above : (above : Option ℕ) (s : ℕ) → Above (steps_to (known before action) above) (step before action s) → Above above s
  step_above None s h = tt
  step_above (Some t) s h = omega (arith, step_value before action t b a, step_value before action s b a)

  of_state : (above : Option ℕ) (s : ℕ) → MayFollow p before action s × Above above s → ModelAboveWith p (literals_of 16 (known before action)) (steps_to (known before action) above) (step before action s)
  of_state above s h = (
    h.0.1,
    low_true 16 (known before action) (step before action s) (known_low before action b a)
        (ap (λ w. w % 2 ^ 16) (step_value before action s b a) ∙ mod_low s 16 (known before action) (known_low before action b a)),
    above_step above s h.1,
  )

  whole_step : (w : ℕ) → AllTrue (literals_of 16 (known before action)) w → w ≡ step before action (w / 2 ^ 16)
  whole_step w all =
      let low = true_low 16 (known before action) w (known_low before action b a) (omega arith) all in
      omega (arith, low, step_value before action (w / 2 ^ 16) b a)

  to_state : (above : Option ℕ) (w : ℕ) → ModelAboveWith p (literals_of 16 (known before action)) (steps_to (known before action) above) w → MayFollow p before action (w / 2 ^ 16) × Above above (w / 2 ^ 16)
  to_state above w h =
      let same = whole_step w h.1 in
      let low : w < 2 ^ 25 = subst (λ (m : ℕ). w < 2 ^ m) n (interpretation_below p.atoms w h.0.interpretation) in
      ((omega arith, subst (Model p) same h.0), step_above above (w / 2 ^ 16) (subst (Above (steps_to (known before action) above)) same h.2))

  pub names_next : (above : Option ℕ) (o : Option ℕ) → NamesSmallest (ModelAboveWith p (literals_of 16 (known before action)) (steps_to (known before action) above)) o → NamesSmallest (λ s. MayFollow p before action s × Above above s) (option_map (λ w. w / 2 ^ 16) o)
  names_next above None h = λ s c. h (step before action s) (of_state above s c)
  names_next above (Some w) h = (
    to_state above w h.0,
    λ s c. omega (arith, h.1 (step before action s) (of_state above s c), step_value before action s b a, known_low before action b a),
  )

  -- the same of what the code asks for and answers
  pub found_next : (above : Option ℕ) (word : ℕ) (G : LiteralSet) (mark o r : Option ℕ) → word ≡ known before action → G ≡ literals_of 16 word → mark ≡ steps_to word above → r ≡ option_map (λ w. w / 2 ^ 16) o → NamesSmallest (ModelAboveWith p G mark) o → NamesSmallest (λ s. MayFollow p before action s × Above above s) r
  found_next above word G mark o r k g m e h =
      let asked = subst (λ X. NamesSmallest (ModelAboveWith p X mark) o) (g ∙ ap (literals_of 16) k) h in
      let marked = subst (λ x. NamesSmallest (ModelAboveWith p (literals_of 16 (known before action)) x) o) (m ∙ ap (λ x. steps_to x above) k) asked in
      subst (NamesSmallest (λ s. MayFollow p before action s × Above above s)) (sym e) (names_next above o marked)

-- `before | 1 << (9 + action)`
pub known_word : (before action : ℕ) → action < 7 → bit_or before ((1 * 2 ^ (9 + action)) % 2 ^ 64) ≡ known before action
known_word before action a = ap (bit_or before) (one_shl (9 + action) 64 (omega arith))
