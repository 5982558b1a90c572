-- That a problem is prepared can be shown in one way only, so that it may keep the fact in a ghost field.
use Rattle.std.proofs.Common.{◌≡◌, ℕ, List, length}
use Rattle.std.proofs.Math.Nat.{ℕ_set}
use mathlib.Core.HLevel.{Π_prop, ×_prop}
use mathlib.Core.Logic.{∥∥₁_elim}
use Rattle.std.specs.Option.{MatchOption-prop}
use Rattle.std.proofs.Props.{props}
use Rattle.programs.specs.declared.literal.Literal.{Literal}
use Rattle.programs.specs.declared.literal.LiteralSet.{LiteralSet}
use Rattle.programs.specs.Programs.{Program, Justification, formula, literals, Holds, rule_at}
use Rattle.programs.specs.Questions.{HoldsAs}
use Rattle.search.specs.Nogoods.{Sole}
use Rattle.search.specs.Rows.{Keeps, Kept, KeepsAll, Prepared, RowHolds}
use Rattle.search.specs.declared.rows.KnownRule.{KnownRule}

holds_prop : (j : Justification) (w : ℕ) → IsProp (Holds j w)
holds_prop (formula f) w = hlevel props
holds_prop (literals X) w = hlevel props

holds_as_prop : (n : ℕ) (j : Justification) (X : LiteralSet) → IsProp (HoldsAs n j X)
holds_as_prop n j X = Π_prop (λ w. Π_prop (λ i. ×_prop (Π_prop (λ h. hlevel props)) (Π_prop (λ t. holds_prop j w))))

row_prop : (p : Program) (k : KnownRule) → IsProp (RowHolds p k)
row_prop p k = MatchOption-prop k.justification _ _ (hlevel props) (λ X. hlevel props)

sole_prop : (l : Literal) (X : LiteralSet) → IsProp (Sole l X)
sole_prop l X = hlevel props

same_prop : (X Y : LiteralSet) → IsProp (X ≡ Y)
same_prop X Y = hlevel props

keeps_prop : (p : Program) (k : KnownRule) → IsProp (Keeps p k)
keeps_prop p k = λ a b i. record {
  head = sole_prop (rule_at p k.number).head k.head a.head b.head i;
  premises = same_prop k.premises (rule_at p k.number).premises a.premises b.premises i;
  justification = MatchOption-prop k.justification _ _ (hlevel props) (λ X. holds_as_prop p.atoms _ X) a.justification b.justification i;
}

kept_prop : (p : Program) (n : ℕ) (k : KnownRule) → IsProp (Kept p n k)
kept_prop p n k = λ a b i. record {
  number = ℕ_set k.number n a.number b.number i;
  keeps = keeps_prop p k a.keeps b.keeps i;
  holds = row_prop p k a.holds b.holds i;
}

prepared_prop : (p : Program) (rules : List KnownRule) → IsProp (Prepared p rules)
prepared_prop p rules = λ a b i. record {
  many = ℕ_set (length rules) (length p.rules) a.many b.many i;
  all = Π_prop (λ k. Π_prop (λ l. Π_prop (λ d. kept_prop p k _))) a.all b.all i;
}

-- the fact out of the field
pub kept_prepared : (p : Program) (rules : List KnownRule) → ∥ Prepared p rules ∥₁ → Prepared p rules
kept_prepared p rules h = ∥∥₁_elim h (prepared_prop p rules) (λ f. f)

pub kept_at : (p : Program) (rules : List KnownRule) → ∥ Prepared p rules ∥₁ → KeepsAll p rules
kept_at p rules h = (kept_prepared p rules h).all
