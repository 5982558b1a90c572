-- The numbers above a mark, in blocks: one for each clear bit of the mark.
use Rattle.std.proofs.Common.{◌≡◌, ℕ, ◌+◌, ◌-◌, ◌*◌, ◌%◌, ◌^◌, ◌<◌, ◌≤◌, Bool, true, false, cond, Some, None, Option, sym, refl, ap, ◌∙◌, subst, inl, inr, arith, pow_pos, below_more}
use lib.Bits.{bit_or}
use Rattle.std.proofs.lemmas.Nat.{one_shl}
use Rattle.std.proofs.lemmas.Bool.{cases_eq, cases_lt, cases_order}
use Rattle.programs.specs.declared.literal.LiteralSet.{LiteralSet}
use Rattle.programs.specs.Literals.{bit, Member, Difference, Union, Added, with_literal, no_literals, Interpretation, BitBeyond, TrueIn, AllTrue, literals_of}
use Rattle.programs.specs.Programs.{Program, Model}
use Rattle.programs.proofs.Bits.{bit_cases, bit_lt, bit-bit_or, bit_high, bit_power_same, bit_power_other, mask_bit, bits_less, top_difference, interpretation_below}
use Rattle.programs.proofs.Sets.{literals_of_true}
use Rattle.search.specs.Nogoods.{NoGood, SmallestWith}
use Rattle.search.specs.Searches.{ModelAbove, ModelAboveWith, NamesSmallest, InBlock, BlockOf}
use Rattle.search.proofs.Picking.{with_cases, none_empty}
use Rattle.search.proofs.Reasons.{subset_true, union_true}

-- `here | here - 1`, the bits up to one
abbrev low : ℕ → ℕ
low h = bit_or h (h - 1)

low_here : (k i : ℕ) → i ≤ k → bit (low (2 ^ k)) i ≡ 1
low_here k i h =
    elim (cases_eq i k) [
      | inl e ↦ omega (arith, bit-bit_or (2 ^ k) (2 ^ k - 1) i, ap (λ j. bit (2 ^ k) j) e, bit_power_same k, bit_lt (2 ^ k - 1) i)
      | inr d ↦ omega (arith, bit-bit_or (2 ^ k) (2 ^ k - 1) i, mask_bit k i (omega arith), bit_lt (2 ^ k) i)
    ]

low_above : (k i : ℕ) → k < i → bit (low (2 ^ k)) i ≡ 0
low_above k i h = omega (arith, bit-bit_or (2 ^ k) (2 ^ k - 1) i, bit_power_other k i (omega arith), bit_high (2 ^ k - 1) k i (omega (arith, pow_pos k)) (omega arith))

both_sides : (x i : ℕ) (b : Bool) → bit (cond b x x) i ≡ bit x i
both_sides x i true = refl
both_sides x i false = refl

pub block_of : (M D B : LiteralSet) (k h : ℕ) → k < 64 → h ≡ (1 * 2 ^ k) % 2 ^ 64 → Difference M (record { positive = bit_or h (h - 1); negative = bit_or h (h - 1) }) D → B ≡ with_literal D (record { atom = k; negative = false }) → Added D (record { atom = k; negative = false }) B → BlockOf M k B
block_of M D B k h lt is d same added =
    let whole : h ≡ 2 ^ k = is ∙ one_shl k 64 lt in
    record {
      here = added.has;
      above = λ l up m. added.kept l (d.has l m (λ n. omega (arith, both_sides (low h) l.atom l.negative, ap (λ x. bit (low x) l.atom) whole, low_above k l.atom up)));
      only = λ l m. elim (with_cases D (record { atom = k; negative = false }) l (subst (λ X. Member l X) same m)) [
        | inr e ↦ inl e
        | inl n ↦ elim (cases_lt k l.atom) [
          | inl up ↦ inr (up, d.from l n)
          | inr down ↦ absurd (d.apart l n (both_sides (low h) l.atom l.negative ∙ ap (λ x. bit (low x) l.atom) whole ∙ low_here k l.atom down))
        ]
      ];
    }

-- a block of what was read of the mark
pub block_read : (n m mark : ℕ) (M : LiteralSet) (k : ℕ) (B : LiteralSet) → n ≡ m → M ≡ literals_of n mark → BlockOf M k B → BlockOf (literals_of m mark) k B
block_read n m mark M k B same read block = subst (λ X. BlockOf X k B) (read ∙ ap (λ (a : ℕ). literals_of a mark) same) block

-- a number is in a block exactly where it has the block's literals
module _ (n mark : ℕ) (own : Interpretation n mark) where
  pub block_true : (k v : ℕ) (B : LiteralSet) → BlockOf (literals_of n mark) k B → InBlock mark k v → AllTrue B v
  block_true k v B b inside l m =
      elim (b.only l m) [
        | inl e ↦ subst (λ j. TrueIn j v) (sym e) inside.here
        | inr h ↦ inside.above l.atom h.0 ∙ ((literals_of_true n mark own l).0 h.1).1
      ]

  pub true_block : (k v : ℕ) (B : LiteralSet) → BlockOf (literals_of n mark) k B → bit mark k ≡ 0 → Interpretation n v → AllTrue B v → InBlock mark k v
  true_block k v B b clear w all = record {
    clear = clear;
    here = all (record { atom = k; negative = false }) b.here;
    above = λ i up. elim (cases_lt i n) [
      | inr ge ↦ w i ge ∙ sym (own i ge)
      | inl lt ↦ elim (bit_cases mark i) [
        | inr e ↦ all (record { atom = i; negative = false }) (b.above (record { atom = i; negative = false }) up ((literals_of_true n mark own (record { atom = i; negative = false })).1 (lt, e))) ∙ sym e
        | inl e ↦ all (record { atom = i; negative = true }) (b.above (record { atom = i; negative = true }) up ((literals_of_true n mark own (record { atom = i; negative = true })).1 (lt, e))) ∙ sym e
      ]
    ];
  }

-- the blocks part the numbers above the mark, and rise
pub in_some_block : (n mark v : ℕ) → Interpretation n v → mark < v → (k : ℕ) × (k < n) × InBlock mark k v
in_some_block n mark v w l =
    let top = top_difference n mark v (interpretation_below n v w) l in
    let k = top.0 in
    let lt : k < n = elim (cases_lt k n) [ inl h ↦ h | inr h ↦ absurd (omega (arith, w k h, top.2)) ] in
    (k, lt, record { clear = top.1; here = top.2; above = top.3 })

pub block_above : (mark k v : ℕ) → InBlock mark k v → mark < v
block_above mark k v b = bits_less k mark v b.clear b.here (λ i l. sym (b.above i l))

pub blocks_rise : (mark j k w v : ℕ) → j < k → InBlock mark j w → InBlock mark k v → w < v
blocks_rise mark j k w v l a b = bits_less k w v (a.above k l ∙ b.clear) b.here (λ i h. a.above i (omega arith) ∙ sym (b.above i h))

-- no model that has G is in one of the first m blocks
abbrev pub NoneIn : Program → LiteralSet → ℕ → ℕ → Type 0
NoneIn p G mark m = (k : ℕ) → k < m → (v : ℕ) → Model p v → AllTrue G v → InBlock mark k v → ⊥

module _ (p : Program) (G : LiteralSet) (mark : ℕ) where
  pub none_in_more : (m : ℕ) → NoneIn p G mark m → ((v : ℕ) → Model p v → AllTrue G v → InBlock mark m v → ⊥) → NoneIn p G mark (m + 1)
  none_in_more m before here = below_more (λ k. (v : ℕ) → Model p v → AllTrue G v → InBlock mark k v → ⊥) m before here

  pub none_in_set : (m : ℕ) → NoneIn p G mark m → (bit mark m ≡ 0 → ⊥) → NoneIn p G mark (m + 1)
  none_in_set m before on = none_in_more m before (λ v n all inside. on inside.clear)

  pub none_above : NoneIn p G mark p.atoms → (v : ℕ) → ModelAboveWith p G (Some mark) v → ⊥
  none_above none v c =
      let b = in_some_block p.atoms mark v c.0.interpretation c.2 in
      none b.0 b.1 v c.0 c.1 b.2

  module _ (own : Interpretation p.atoms mark) (k : ℕ) (B S : LiteralSet) (block : BlockOf (literals_of p.atoms mark) k B) (both : Union G B S) where
    pub none_in_block : NoGood p S → (v : ℕ) → Model p v → AllTrue G v → InBlock mark k v → ⊥
    none_in_block none v m all inside = none v m (union_true G B S v both all (block_true p.atoms mark own k v B block inside))

    pub smallest_in_block : (w : ℕ) → bit mark k ≡ 0 → NoneIn p G mark k → SmallestWith p S w → ModelAboveWith p G (Some mark) w × ((v : ℕ) → ModelAboveWith p G (Some mark) v → w ≤ v)
    smallest_in_block w clear none s =
        let here = true_block p.atoms mark own k w B block clear s.model.interpretation (subset_true B S w both.right s.has) in (
          (s.model, subset_true G S w both.left s.has, block_above mark k w here),
          λ v c.
              let b = in_some_block p.atoms mark v c.0.interpretation c.2 in
              elim (cases_order b.0 k) [
                | inl e ↦ s.least v c.0 (union_true G B S v both c.1 (block_true p.atoms mark own k v B block (subst (λ j. InBlock mark j v) e b.2)))
                | inr d ↦ elim d [
                  | inl lt ↦ absurd (none b.0 lt v c.0 c.1 b.2)
                  | inr gt ↦ let less = blocks_rise mark k b.0 w v gt here b.2 in omega arith
                ]
              ],
        )

  -- a mark beyond the atoms has no interpretation above it
  pub none_beyond : BitBeyond p.atoms mark → (v : ℕ) → ModelAboveWith p G (Some mark) v → ⊥
  none_beyond beyond v c =
      let b = in_some_block p.atoms mark v c.0.interpretation c.2 in
      omega (arith, b.2.above beyond.0 (omega (arith, b.1, beyond.1)), beyond.2, c.0.interpretation beyond.0 beyond.1)

-- without given literals every model has them
pub names_all : (p : Program) (mark : Option ℕ) (r : Option ℕ) → NamesSmallest (ModelAboveWith p no_literals mark) r → NamesSmallest (ModelAbove p mark) r
names_all p mark None h = λ v c. h v (c.0, λ l m. absurd (none_empty l m), c.1)
names_all p mark (Some w) h = ((h.0.0, h.0.2), λ v c. h.1 v (c.0, λ l m. absurd (none_empty l m), c.1))
