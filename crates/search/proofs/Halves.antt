-- The node of a search: where every atom is decided, and the half in which an undecided atom is false.
use Rattle.std.proofs.Common.{◌≡◌, ℕ, ◌+◌, ◌-◌, ◌^◌, ◌<◌, Bool, true, false, cond, get_or, Result, Option, Ok, Err, IsOk, MatchResult, MatchOption, refl, sym, ap, ◌∙◌, subst, inl, inr, arith, pow_pos}
use lib.Bits.{bit_and, bit_or}
use lib.Count.{ones}
use Rattle.std.proofs.lemmas.List.{get_or_past}
use Rattle.std.proofs.lemmas.Nat.{ones-le}
use Rattle.std.proofs.lemmas.Bool.{cases_lt, true≢false, false≢true}
use Rattle.programs.specs.declared.literal.Literal.{Literal}
use Rattle.programs.specs.declared.literal.LiteralSet.{LiteralSet}
use Rattle.programs.specs.Literals.{bit, Member, Subset, complement, no_literals, with_literal, Added, Interpretation, BitBeyond, TrueIn, AllTrue}
use Rattle.programs.specs.declared.refusal.Refusal.{Refusal}
use Rattle.programs.specs.Programs.{Program, Model}
use Rattle.programs.specs.Questions.{AnswersCheck}
use Rattle.std.specs.Result.{result_eq, result_ok}
use mathlib.Core.Bool.{beq}
use Rattle.programs.proofs.Bits.{bit_cases, bit_lt, bit_none, bit-bit_or, bits_same, bits_less, complement_bit, without_bit, bit_without}
use Rattle.programs.proofs.Closures.{more_literals}
use Rattle.programs.proofs.Sets.{empty_subset}
use Rattle.search.specs.Nogoods.{NoGood, Consistent, SmallestWith, Searched}
use Rattle.search.specs.Trails.{Respects, Refuted, Grew, Unripe, Decided}
use Rattle.search.specs.declared.trail.Trail.{Trail}
use Rattle.search.proofs.Picking.{with_cases}
use Rattle.search.proofs.Reasons.{member_cases, true_cases, one_true, subset_true}

-- what has the start has all that is known
reason_within : (t : Trail) (i : ℕ) → Subset (get_or t.reasons i no_literals) t.start
reason_within t i =
    elim (cases_lt i 64) [
      | inl l ↦ t.within i l
      | inr g ↦ rw (get_or_past t.reasons i no_literals (omega (arith, t.sized))) (empty_subset t.start)
    ]

pub known_true : (t : Trail) (w : ℕ) → Respects w t → AllTrue t.start w → AllTrue t.known w
known_true t w resp all l m =
    elim (member_cases l t.start) [
      | inl h ↦ all l h
      | inr h ↦ resp l m h (subset_true (get_or t.reasons l.atom no_literals) t.start w (reason_within t l.atom) all)
    ]

-- a consistent set is true in the word of its atoms
own_side : (K : LiteralSet) → Consistent K → (b : Bool) (i : ℕ) → bit (cond b K.negative K.positive) i ≡ 1 → bit K.positive i ≡ cond b 0 1
own_side K c true i h = elim (bit_cases K.positive i) [ inl e ↦ e | inr e ↦ absurd (c (record { atom = i; negative = false }) e h) ]
own_side K c false i h = h

pub own_true : (K : LiteralSet) → Consistent K → AllTrue K K.positive
own_true K c l m = own_side K c l.negative l.atom m

-- two words that have one set agree where it decides
agree : (K : LiteralSet) (w v i : ℕ) → AllTrue K w → AllTrue K v → Decided i K → bit w i ≡ bit v i
agree K w v i a b d =
    elim d [
      | inl h ↦ a (record { atom = i; negative = false }) h ∙ sym (b (record { atom = i; negative = false }) h)
      | inr h ↦ a (record { atom = i; negative = true }) h ∙ sym (b (record { atom = i; negative = true }) h)
    ]

module _ (p : Program) (t : Trail) (resp : (w : ℕ) → Model p w → Respects w t) where
  pub model_known : (w : ℕ) → Model p w → AllTrue t.start w → AllTrue t.known w
  model_known w m all = known_true t w (resp w m) all

  decided_beyond : BitBeyond p.atoms t.known.positive → NoGood p t.start
  decided_beyond b w m all = omega (arith, model_known w m all (record { atom = b.0; negative = false }) b.2, m.interpretation b.0 b.1)

  -- every atom is decided
  module _ (decided : (i : ℕ) → i < p.atoms → Decided i t.known) where
    only_one : (w : ℕ) → Interpretation p.atoms t.known.positive → Model p w → AllTrue t.start w → w ≡ t.known.positive
    only_one w n m all =
        bits_same w t.known.positive
        (λ i. elim (cases_lt i p.atoms) [
          | inl l ↦ agree t.known w t.known.positive i (model_known w m all) (own_true t.known t.consistent) (decided i l)
          | inr l ↦ m.interpretation i l ∙ sym (n i l)
        ])

    decided_model : Model p t.known.positive → SmallestWith p t.start t.known.positive
    decided_model m = record {
      model = m;
      has = subset_true t.start t.known t.known.positive t.started (own_true t.known t.consistent);
      least = λ v n all. omega (arith, only_one v m.interpretation n all);
    }

    decided_none : Interpretation p.atoms t.known.positive → (Model p t.known.positive → ⊥) → NoGood p t.start
    decided_none n none w m all = none (subst (λ v. Model p v) (only_one w n m all) m)

    -- what the test for a model says of that one interpretation
    pub settled_model : (eq : Refusal → Refusal → Bool) (r : Result Bool Refusal) → AnswersCheck p t.known.positive r → true ≡ result_eq beq eq r (Ok true) → SmallestWith p t.start t.known.positive
    settled_model eq (Ok true) a e = decided_model (a.1.0 refl)
    settled_model eq (Ok false) a e = absurd (true≢false e)
    settled_model eq (Err x) a e = absurd (true≢false e)

    pub settled_none : (eq : Refusal → Refusal → Bool) (r : Result Bool Refusal) → AnswersCheck p t.known.positive r → false ≡ result_eq beq eq r (Ok true) → NoGood p t.start
    settled_none eq (Ok true) a e = absurd (false≢true e)
    settled_none eq (Ok false) a e = decided_none a.0 (λ m. false≢true (a.1.1 m))
    settled_none eq (Err x) a e = decided_beyond a.0

  -- the half in which the highest undecided atom is false
  pub lower_half : (a w : ℕ) (H : LiteralSet) → H ≡ with_literal t.known (record { atom = a; negative = true }) → Added t.known (record { atom = a; negative = true }) H → ((i : ℕ) → a < i → i < p.atoms → Decided i t.known) → SmallestWith p H w → SmallestWith p t.start w
  lower_half a w H same added above s =
      let not_a : Literal = record { atom = a; negative = true } in
      let own = subset_true t.known H w added.kept s.has in
      record {
        model = s.model;
        has = subset_true t.start t.known w t.started own;
        least = λ v m all.
            let known = model_known v m all in
            elim (true_cases not_a v) [
              | inl false-a ↦
                  s.least v m (λ k h. elim (with_cases t.known not_a k (subst (λ X. Member k X) same h)) [ inl e ↦ known k e | inr e ↦ subst (λ j. TrueIn j v) (sym e) false-a ])
              | inr true-a ↦
                  let less = bits_less a w v (s.has not_a added.has) true-a (λ i l. elim (cases_lt i p.atoms) [
                    | inl e ↦ agree t.known w v i own known (above i l e)
                    | inr e ↦ s.model.interpretation i e ∙ sym (m.interpretation i e)
                  ]) in
                  omega arith
            ];
      }

  pub refuted_nogood : (R : LiteralSet) → Refuted (Model p) t R → NoGood p R
  refuted_nogood R r w m = r.none w m (resp w m)

-- an answer that nothing can refuse
pub always_ok : {T E : Type 0} (r : Result T E) (P : T → Type 0) (Q : E → Type 0) → ((e : E) → Q e → ⊥) → MatchResult r P Q → IsOk r
always_ok (Ok x) P Q none h = refl
always_ok (Err e) P Q none h = absurd (none e h)

-- what an answer says once `ok()` has left out why it was refused
pub ok_part : {T E : Type 0} (r : Result T E) (o : Option T) (P : T → Type 0) (Q : E → Type 0) → o ≡ result_ok r → MatchResult r P Q → MatchOption o ((e : E) × Q e) P
ok_part (Ok x) o P Q same h = rw same h
ok_part (Err e) o P Q same h = rw same (e, h)

-- the atoms that are not decided
abbrev Left : ℕ → LiteralSet → ℕ
Left all K = bit_and all (2 ^ 64 - 1 - bit_or K.positive K.negative)

pub left_undecided : (all : ℕ) (K : LiteralSet) (i : ℕ) → all < 2 ^ 64 → bit_or K.positive K.negative < 2 ^ 64 → bit (Left all K) i ≡ 1 → Decided i K → ⊥
left_undecided all K i h k e d =
    let none = without_bit all (bit_or K.positive K.negative) i h k e in
    let either = bit-bit_or K.positive K.negative i in
    elim d [ inl p ↦ omega (arith, none.1, bit_lt K.negative i) | inr n ↦ omega (arith, none.1, bit_lt K.positive i) ]

pub none_left : (n all : ℕ) (K : LiteralSet) (i : ℕ) → all ≡ 2 ^ n - 1 - 0 → all < 2 ^ 64 → bit_or K.positive K.negative < 2 ^ 64 → i < n → bit (Left all K) i ≡ 0 → Decided i K
none_left n all K i same h k l e =
    let here : bit all i ≡ 1 = ap (λ x. bit x i) same ∙ omega (arith, complement_bit n 0 i (pow_pos n) l, bit_none i) in
    let either = bit-bit_or K.positive K.negative i in
    elim (bit_cases K.positive i) [
      | inr p ↦ inl p
      | inl p ↦ elim (bit_cases K.negative i) [
        | inr q ↦ inr q
        | inl q ↦ absurd (omega (arith, bit_without all (bit_or K.positive K.negative) i h k here (omega arith)))
      ]
    ]

-- a set that has grown leaves fewer literals out
pub less_left : (K L : LiteralSet) → K.positive < 2 ^ 64 → K.negative < 2 ^ 64 → L.positive < 2 ^ 64 → L.negative < 2 ^ 64 → Subset K L → Grew K L → 128 - (ones L.positive + ones L.negative) < 128 - (ones K.positive + ones K.negative)
less_left K L kp kn lp ln sub grew =
    let more = more_literals K L kp kn lp ln sub (λ e. grew.1 (subst (λ X. Member grew.0 X) e grew.2)) in
    omega (arith, more, ones-le 64 L.positive lp, ones-le 64 L.negative ln)

pub must_grow : (b : Bool) (K L N : LiteralSet) → cond {A = Type 0} b (Grew K L) (Unripe N K) → (Unripe N K → ⊥) → Grew K L
must_grow true K L N h ripe = h
must_grow false K L N h ripe = absurd (ripe h)

-- the literal that the half has more, by its calls
pub lowered : (K H : LiteralSet) (a : ℕ) (k l : Literal) → k ≡ record { atom = a; negative = false } → l ≡ complement k → (H ≡ with_literal K l) × Added K l H → (H ≡ with_literal K (record { atom = a; negative = true })) × Added K (record { atom = a; negative = true }) H
lowered K H a k l e f made = subst (λ j. (H ≡ with_literal K j) × Added K j H) (f ∙ ap complement e) made

-- a refuted lower half is ripe: it lies within what is known and one literal more
pub half_ripe : (K H R : LiteralSet) (a : ℕ) → H ≡ with_literal K (record { atom = a; negative = true }) → (Decided a K → ⊥) → Subset R H → Unripe R K → ⊥
half_ripe K H R a same free sub unripe =
    unripe (record { atom = a; negative = true }) (λ h. free (inl h)) (λ k m. with_cases K (record { atom = a; negative = true }) k (subst (λ X. Member k X) same (sub k m)))

-- a start that contradicts itself
pub contradiction_nogood : (p : Program) (S : LiteralSet) → (Consistent S → ⊥) → NoGood p S
contradiction_nogood p S clash w m all = clash (λ l h n. one_true l w (all l h) (all (complement l) n))

nogood_more : (p : Program) (R S : LiteralSet) → Subset R S → NoGood p R → NoGood p S
nogood_more p R S sub none w m all = none w m (subset_true R S w sub all)

-- the answer of a search without the part of the start that no model has
pub searched_model : (p : Program) (S : LiteralSet) (N : Type 0) (r : Result ℕ LiteralSet) → N → Searched p S r → MatchOption (result_ok r) (NoGood p S) (λ w. SmallestWith p S w × N)
searched_model p S N (Ok w) n found = (found, n)
searched_model p S N (Err R) n found = nogood_more p R S found.0 found.1
