-- From the marks of a reduct, over rounds, to its smallest closed set.
use Rattle.std.proofs.Common.{◌≡◌, ℕ, ◌+◌, ◌^◌, ◌<◌, Bool, true, false, ◌&&◌, ◌==◌, List, length, get_or, Decides, sym, ap, ◌∙◌, subst, inl, inr, arith, below_more}
use lib.Count.{ones}
use Rattle.std.proofs.lemmas.List.Elements.{Contains-get_or, at_from_Contains}
use Rattle.std.proofs.lemmas.Bool.{false≢true, cases_eq}
use Rattle.std.proofs.lemmas.Bool.Decides.{Decides-at, Decides-like, Decides-and, Decides-eqb}
use Rattle.programs.specs.declared.literal.LiteralSet.{LiteralSet}
use Rattle.programs.specs.Literals.{Member, Subset, Added}
use Rattle.programs.specs.Programs.{Rule, Program, Holds, Reduct, Closed, Smallest, rule_at, no_rule}
use Rattle.programs.specs.Steps.{Marked, Obeys, ObeysMarked, Fired, Grown}
use Rattle.programs.proofs.Bits.{ones_within, ones_fewer}
use Rattle.programs.proofs.Sets.{same_set, subset_both, positive_within, negative_within}

-- what one rule makes of a set
pub fired_added : (r : Rule) (X Y : LiteralSet) → Subset r.premises X → Added X r.head Y → Fired r X Y
fired_added r X Y s a = record {
  kept = a.kept;
  head = λ _. a.has;
  within = λ Z o z. a.within Z z (o (λ l m. z l (s l m)));
}

-- a round: its start, one rule more that fires or is not marked, its end
module _ (p : Program) (table : List Bool) where
  pub grown_none : (X : LiteralSet) → Grown p table 0 X X
  grown_none X = record { kept = λ l m. m; within = λ Z o z. z; quiet = λ e k l. absurd (omega arith) }

  pub grown_fired : (i : ℕ) (X Y Z : LiteralSet) → i < length p.rules → get_or table i false ≡ true → Grown p table i X Y → Fired (rule_at p i) Y Z → Grown p table (i + 1) X Z
  grown_fired i X Y Z lt on g f = record {
    kept = λ l m. f.kept l (g.kept l m);
    within = λ W o w. f.within W (o i lt on) (g.within W o w);
    quiet = λ e.
        let same = subset_both Y X (λ l m. subst (λ V. Member l V) e (f.kept l m)) g.kept in
        below_more (λ k. get_or table k false ≡ true → Obeys X (rule_at p k)) i
        (g.quiet same)
        (λ _ has. subst (λ V. Member (rule_at p i).head V) e (f.head (λ l m. g.kept l (has l m))));
  }

  pub grown_skipped : (i : ℕ) (X Y : LiteralSet) → get_or table i false ≡ false → Grown p table i X Y → Grown p table (i + 1) X Y
  grown_skipped i X Y off g = record {
    kept = g.kept;
    within = g.within;
    quiet = λ e. below_more (λ k. get_or table k false ≡ true → Obeys X (rule_at p k)) i (g.quiet e) (λ on. absurd (false≢true (sym off ∙ on)));
  }

  -- obeying the marked rules is being closed under the reduct
  module _ (w : ℕ) (marked : Marked p w (length p.rules) table) where
    pub closed_obeys : (X : LiteralSet) → Closed (Reduct p w) X → ObeysMarked p table (length p.rules) X
    closed_obeys X c k l on = c (rule_at p k) (Contains-get_or p.rules k no_rule l, (marked k l).0 on)

    pub obeys_closed : (X : LiteralSet) → ObeysMarked p table (length p.rules) X → Closed (Reduct p w) X
    obeys_closed X o r kept =
        let place = at_from_Contains p.rules r kept.0 in
        let k = place.0 in
        let l = place.1 in
        let same : rule_at p k ≡ r = place.2 no_rule in
        subst (λ q. Obeys X q) same (o k l ((marked k l).1 (subst (λ q. Holds q.justification w) (sym same) kept.1)))

-- there is one smallest closed set
pub smallest_same : (R : Rule → Type 0) (X Y : LiteralSet) → Smallest R X → Smallest R Y → X ≡ Y
smallest_same R X Y x y = subset_both X Y (x.within Y y.closed) (y.within X x.closed)

-- a set that has grown has more literals
pub more_literals : (X Y : LiteralSet) → X.positive < 2 ^ 64 → X.negative < 2 ^ 64 → Y.positive < 2 ^ 64 → Y.negative < 2 ^ 64 → Subset X Y → (Y ≡ X → ⊥) → ones X.positive + ones X.negative < ones Y.positive + ones Y.negative
more_literals X Y xp xn yp yn s grew =
    let p = positive_within X Y s in
    let n = negative_within X Y s in
    let pw = ones_within 64 X.positive Y.positive xp yp p in
    let nw = ones_within 64 X.negative Y.negative xn yn n in
    elim (cases_eq X.positive Y.positive) [
      | inl e ↦ omega (arith, pw, ones_fewer 64 X.negative Y.negative xn yn n (λ f. grew (same_set Y X (sym e) (sym f))))
      | inr d ↦ omega (arith, nw, ones_fewer 64 X.positive Y.positive xp yp p d)
    ]

-- what the derived `==` ensures
pub same_test : (b : Bool) (X Y : LiteralSet) → b ≡ ((X.positive == Y.positive) && (X.negative == Y.negative)) → Decides b (X ≡ Y)
same_test b X Y h =
    Decides-at b ((X.positive == Y.positive) && (X.negative == Y.negative)) h
    (Decides-like _ (λ e. same_set X Y e.0 e.1) (λ e. (ap (λ V. V.positive) e, ap (λ V. V.negative) e))
    (Decides-and _ _ (Decides-eqb X.positive Y.positive) (Decides-eqb X.negative Y.negative)))
