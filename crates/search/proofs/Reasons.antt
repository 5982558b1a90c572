-- Trails: what is known, why, and how the unit step carries them on.
use Rattle.std.proofs.Common.{◌≡◌, ℕ, ◌-◌, ◌*◌, ◌%◌, ◌^◌, ◌<◌, Bool, true, false, cond, not, ◌⊎◌, List, length, get_or, set, Result, IsErrAnd, sym, refl, ap, ◌∙◌, subst, inl, inr, arith, get_or-set_other, get_or-set_same}
use lib.Bits.{bit_and, bit_or}
use Rattle.std.specs.List.{All}
use Rattle.std.proofs.lemmas.Nat.{and_le_l, one_shl, pow_below}
use Rattle.std.proofs.lemmas.List.Elements.{All-weaker}
use Rattle.std.proofs.lemmas.Result.{MatchResult-weaker, err_from_is_err_and}
use Rattle.std.proofs.lemmas.Bool.{cases_eq, true≢false, false≢true}
use Rattle.programs.specs.declared.literal.Literal.{Literal}
use Rattle.programs.specs.declared.literal.LiteralSet.{LiteralSet}
use Rattle.programs.specs.Literals.{bit, Member, Subset, complement, no_literals, with_literal, Union, Difference, TrueIn, AllTrue}
use Rattle.programs.specs.Programs.{Program, Model}
use Rattle.programs.proofs.Bits.{bit_cases, bit_lt, bit-bit_or, bit_power_same, bit_power_other, without_bit, bit_without}
use Rattle.search.specs.Nogoods.{Avoids, NoGood, Sole, Consistent}
use Rattle.search.specs.Trails.{Respects, Behind, Extended, Advanced, Refuted, Narrowed, Unripe, UnitStep}
use Rattle.search.specs.declared.trail.Trail.{Trail}
use Rattle.search.proofs.Picking.{same_literal, complement_twice, with_cases, no_bit}

-- whether a literal is in a set, and which of two literals is true
pub member_cases : (l : Literal) (X : LiteralSet) → Member l X ⊎ (Member l X → ⊥)
member_cases l X = elim (bit_cases (cond l.negative X.negative X.positive) l.atom) [ inl e ↦ inr (λ h. omega arith) | inr e ↦ inl e ]

not_same : (b : Bool) → not b ≡ b → ⊥
not_same true e = false≢true e
not_same false e = true≢false e

bool_cases : (b d : Bool) → (b ≡ d) ⊎ (b ≡ not d)
bool_cases true true = inl refl
bool_cases true false = inr refl
bool_cases false true = inr refl
bool_cases false false = inl refl

pub same_atom : (k l : Literal) → k.atom ≡ l.atom → (k ≡ l) ⊎ (k ≡ complement l)
same_atom k l e = elim (bool_cases k.negative l.negative) [ inl s ↦ inl (same_literal k l e s) | inr s ↦ inr (same_literal k (complement l) e s) ]

true_side : (x : ℕ) (b : Bool) → x < 2 → (x ≡ cond b 0 1) ⊎ (x ≡ cond (not b) 0 1)
true_side x true h = elim (cases_eq x 0) [ inl e ↦ inl e | inr d ↦ inr (omega arith) ]
true_side x false h = elim (cases_eq x 1) [ inl e ↦ inl e | inr d ↦ inr (omega arith) ]

pub true_cases : (l : Literal) (w : ℕ) → TrueIn l w ⊎ TrueIn (complement l) w
true_cases l w = true_side (bit w l.atom) l.negative (bit_lt w l.atom)

one_side : (x : ℕ) (b : Bool) → x ≡ cond b 0 1 → x ≡ cond (not b) 0 1 → ⊥
one_side x true p q = omega arith
one_side x false p q = omega arith

pub one_true : (l : Literal) (w : ℕ) → TrueIn l w → TrueIn (complement l) w → ⊥
one_true l w p q = one_side (bit w l.atom) l.negative p q

pub subset_true : (X Y : LiteralSet) (w : ℕ) → Subset X Y → AllTrue Y w → AllTrue X w
subset_true X Y w s t l m = t l (s l m)

pub union_true : (X Y Z : LiteralSet) (w : ℕ) → Union X Y Z → AllTrue X w → AllTrue Y w → AllTrue Z w
union_true X Y Z w u x y l m = elim (u.only l m) [ inl h ↦ x l h | inr h ↦ y l h ]

pub union_within : (X Y Z W : LiteralSet) → Union X Y Z → Subset X W → Subset Y W → Subset Z W
union_within X Y Z W u x y l m = elim (u.only l m) [ inl h ↦ x l h | inr h ↦ y l h ]

-- what lies behind: each atom is still to come, or its reason is gathered
abbrev pub Gathers : ℕ → List LiteralSet → ℕ → LiteralSet → Type 0
Gathers all reasons rest R = (i : ℕ) → bit all i ≡ 1 → (bit rest i ≡ 1) ⊎ Subset (get_or reasons i no_literals) R

pub start_part : (S K F R : LiteralSet) → Difference S K F → Difference S F R → Subset R K
start_part S K F R f r l m = elim (member_cases l K) [ inl h ↦ h | inr h ↦ absurd (r.apart l m (f.has l (r.from l m) h)) ]

-- `rest & !(1 << a)`
clear_shift : (rest a : ℕ) → a < 64 → bit_and rest (2 ^ 64 - 1 - (1 * 2 ^ a) % 2 ^ 64) ≡ bit_and rest (2 ^ 64 - 1 - 2 ^ a)
clear_shift rest a h = ap (λ x. bit_and rest (2 ^ 64 - 1 - x)) (one_shl a 64 h)

pub gathers_more : (all rest a : ℕ) (reasons : List LiteralSet) (R Q : LiteralSet) → rest < 2 ^ 64 → a < 64 → Union R (get_or reasons a no_literals) Q → Gathers all reasons rest R → Gathers all reasons (bit_and rest (2 ^ 64 - 1 - (1 * 2 ^ a) % 2 ^ 64)) Q
gathers_more all rest a reasons R Q h l u g i e =
    elim (g i e) [
      | inr s ↦ inr (λ k m. u.left k (s k m))
      | inl b ↦ elim (cases_eq i a) [
        | inl s ↦ inr (subst (λ j. Subset (get_or reasons j no_literals) Q) (sym s) u.right)
        | inr d ↦ inl (ap (λ x. bit x i) (clear_shift rest a l) ∙ bit_without rest (2 ^ a) i h (pow_below a 64 l) b (bit_power_other a i d))
      ]
    ]

pub rest_falls : (rest a : ℕ) → rest < 2 ^ 64 → a < 64 → bit rest a ≡ 1 → bit_and rest (2 ^ 64 - 1 - (1 * 2 ^ a) % 2 ^ 64) < rest
rest_falls rest a h l e =
    let less = and_le_l rest (2 ^ 64 - 1 - 2 ^ a) in
    let other : bit_and rest (2 ^ 64 - 1 - 2 ^ a) ≡ rest → ⊥ = λ s. omega (arith, without_bit rest (2 ^ a) a h (pow_below a 64 l) (ap (λ x. bit x a) s ∙ e), bit_power_same a) in
    omega (arith, clear_shift rest a l, other)

either_word : (X : LiteralSet) (b : Bool) (i : ℕ) → bit (cond b X.negative X.positive) i ≡ 1 → bit (bit_or X.positive X.negative) i ≡ 1
either_word X true i h = omega (arith, bit-bit_or X.positive X.negative i, bit_lt X.positive i)
either_word X false i h = omega (arith, bit-bit_or X.positive X.negative i, bit_lt X.negative i)

pub behind_all : (t : Trail) (S F P R : LiteralSet) (rest : ℕ) → Subset S t.known → Difference S t.start F → Difference S F P → Subset R t.start → Subset P R → rest ≡ 0 → Gathers (bit_or F.positive F.negative) t.reasons rest R → Behind t S R
behind_all t S F P R rest s f p within kept done g = record {
  within = within;
  gives = λ w resp all l m. elim (member_cases l t.start) [
    | inl h ↦ all l (kept l (p.has l m (λ q. f.apart l q h)))
    | inr h ↦ elim (g l.atom (either_word F l.negative l.atom (f.has l m h))) [
      | inl b ↦ absurd (no_bit rest l.atom done b)
      | inr q ↦ resp l (s l m) h (subset_true (get_or t.reasons l.atom no_literals) R w q all)
    ]
  ];
}

-- one literal more, with its reason
pub consistent_with : (K L : LiteralSet) (l : Literal) → Consistent K → (Member (complement l) K → ⊥) → L ≡ with_literal K l → Consistent L
consistent_with K L l consistent free same k m n =
    elim (with_cases K l k (subst (λ X. Member k X) same m)) [
      | inl p ↦ elim (with_cases K l (complement k) (subst (λ X. Member (complement k) X) same n)) [
        | inl q ↦ consistent k p q
        | inr e ↦ free (subst (λ j. Member j K) (sym (complement_twice k) ∙ ap complement e) p)
      ]
      | inr d ↦ elim (with_cases K l (complement k) (subst (λ X. Member (complement k) X) same n)) [
        | inl q ↦ free (subst (λ j. Member j K) (ap complement d) q)
        | inr e ↦ not_same k.negative (ap (λ j. j.negative) (e ∙ sym d))
      ]
    ]

-- what respects a trail respects it with one literal more, if it has that where it has the reason
pub respects_more : (t : Trail) (l : Literal) (R K : LiteralSet) → l.atom < 64 → (Member l t.known → ⊥) → (Member (complement l) t.known → ⊥) → K ≡ with_literal t.known l → (w : ℕ) → Respects w t → (AllTrue R w → TrueIn l w) → (k : Literal) → Member k K → (Member k t.start → ⊥) → AllTrue (get_or (set t.reasons l.atom R) k.atom no_literals) w → TrueIn k w
respects_more t l R K lt new free same w resp gives k m n all =
    elim (with_cases t.known l k (subst (λ X. Member k X) same m)) [
      | inr d ↦ subst (λ j. TrueIn j w) (sym d) (gives (subst (λ Q. AllTrue Q w) (ap (λ j. get_or (set t.reasons l.atom R) j.atom no_literals) d ∙ get_or-set_same t.reasons l.atom R no_literals (omega (arith, t.sized))) all))
      | inl p ↦
          let apart : k.atom ≡ l.atom → ⊥ = λ e. elim (same_atom k l e) [ inl s ↦ new (subst (λ j. Member j t.known) s p) | inr s ↦ free (subst (λ j. Member j t.known) s p) ] in
          resp k p n (subst (λ Q. AllTrue Q w) (get_or-set_other t.reasons l.atom k.atom R no_literals apart) all)
    ]

-- each reason lies within the start, also with one written over
pub within_set : (S R : LiteralSet) (rs : List LiteralSet) (a : ℕ) → length rs ≡ 64 → ((i : ℕ) → i < 64 → Subset (get_or rs i no_literals) S) → Subset R S → a < 64 → (i : ℕ) → i < 64 → Subset (get_or (set rs a R) i no_literals) S
within_set S R rs a sized each within lt i h =
    elim (cases_eq i a) [
      | inl e ↦ rw (e, get_or-set_same rs a R no_literals (omega arith)) within
      | inr d ↦ rw (get_or-set_other rs a i R no_literals d) (each i h)
    ]

-- steps put together
module _ (H : ℕ → Type 0) where
  pub advanced_none : (t : Trail) → Advanced H t t
  advanced_none t = record { same = refl; kept = λ l m. m; respected = λ w h r. r }

  pub advanced_then : (t u v : Trail) → Advanced H t u → Advanced H u v → Advanced H t v
  advanced_then t u v a b = record {
    same = b.same ∙ a.same;
    kept = λ l m. b.kept l (a.kept l m);
    respected = λ w h r. b.respected w h (a.respected w h r);
  }

  pub refuted_then : (t u : Trail) (R : LiteralSet) → Advanced H t u → Refuted H u R → Refuted H t R
  refuted_then t u R a b = record {
    within = λ l m. subst (λ X. Member l X) a.same (b.within l m);
    none = λ w h r. b.none w h (a.respected w h r);
  }

  -- where a step refutes, what it refuted is handed on
  pub refuted_out : {A : Type 0} (t u v : Trail) (r : Result A LiteralSet) (R : LiteralSet) → IsErrAnd r (λ e. e ≡ R) → Advanced H t u → Refuted H u R → Narrowed H t r v
  refuted_out t u v r R e a b = let out = err_from_is_err_and r e in rw (out.1, out.2) (refuted_then t u R a b)

  pub advanced_for : (G : ℕ → Type 0) → ((w : ℕ) → H w → G w) → (t u : Trail) → Advanced G t u → Advanced H t u
  advanced_for G f t u a = record { same = a.same; kept = a.kept; respected = λ w h. a.respected w (f w h) }

  pub refuted_for : (G : ℕ → Type 0) → ((w : ℕ) → H w → G w) → (t : Trail) (R : LiteralSet) → Refuted G t R → Refuted H t R
  refuted_for G f t R a = record { within = a.within; none = λ w h. a.none w (f w h) }

  pub narrowed_for : (N : LiteralSet) (t u : Trail) (r : Result Bool LiteralSet) → ((w : ℕ) → H w → Avoids N w) → UnitStep N t r u → Narrowed H t r u
  narrowed_for N t u r f step =
      MatchResult-weaker r step (λ _ a. advanced_for (Avoids N) f t u a.0) (λ R b. refuted_for (Avoids N) f t R b)

  pub narrowed_then : {A : Type 0} (t u v : Trail) (r : Result A LiteralSet) → Advanced H t u → Narrowed H u r v → Narrowed H t r v
  narrowed_then t u v r a step =
      MatchResult-weaker r step (λ _ b. advanced_then t u v a b) (λ R b. refuted_then t u R a b)

-- what was learned is avoided by every model
pub learned_avoids : (p : Program) (sets : List LiteralSet) → All (NoGood p) sets → (w : ℕ) → Model p w → All (λ N. Avoids N w) sets
learned_avoids p sets each w m = All-weaker (NoGood p) (λ N. Avoids N w) (λ N n. n w m) sets each

-- the unit step
pub unripe_several : (N K L : LiteralSet) → Difference N K L → ((l : Literal) → ((k : Literal) → Member k L → k ≡ l) → ⊥) → Unripe N K
unripe_several N K L d several l free all =
    several l (λ k m. elim (all k (d.from k m)) [ inl p ↦ absurd (d.apart k m p) | inr e ↦ e ])

-- a set but for one literal
pub forced : (N K L M : LiteralSet) (l : Literal) (w : ℕ) → Difference N K L → Difference N L M → Sole l L → Avoids N w → AllTrue M w → TrueIn (complement l) w
forced N K L M l w d e sole avoid rest =
    elim (true_cases l w) [
      | inr t ↦ t
      | inl t ↦ absurd (avoid (λ k m. elim (member_cases k L) [ inl h ↦ subst (λ j. TrueIn j w) (sym (sole.1 k h)) t | inr h ↦ rest k (e.has k m h) ]))
    ]

pub advanced_forced : (t u : Trail) (N L M R : LiteralSet) (l : Literal) → Difference N t.known L → Difference N L M → Sole l L → Behind t M R → Extended t (complement l) R u → Advanced (Avoids N) t u
advanced_forced t u N L M R l d e sole b x = record {
  same = x.same;
  kept = x.grown.kept;
  respected = λ w avoid resp. x.respected w resp (λ all. forced N t.known L M l w d e sole avoid (b.gives w resp all));
}
