-- What the calls on a rule source answer, and when they are refused.
use Rattle.std.specs.Prelude.{◌≡◌, ℕ, ◌<◌, ◌≤◌, Bool, ◌⊎◌, length, IfSome, Decides, Option, Result, MatchResult}
use Rattle.programs.specs.declared.literal.LiteralSet.{LiteralSet}
use Rattle.programs.specs.declared.refusal.Refusal.{Refusal}
use Rattle.programs.specs.declared.rule.ClausalRule.{ClausalRule}
use Rattle.programs.specs.Literals.{Interpretation, BitBeyond, AllTrue}
use Rattle.programs.specs.Programs.{Program, Rule, Justification, Holds, literals, rule_of, rule_at, Reduct, Smallest, Model}
use Rattle.programs.specs.Refusals.{number}

-- a part of rule i; refused with 6 exactly where there is no rule i
abbrev pub Answers : {A : Type 0} → (Rule → A) → Program → ℕ → Result A Refusal → Type 0
Answers part p i r =
    MatchResult r
    (λ v. (i < length p.rules) × (v ≡ part (rule_at p i)))
    (λ e. (length p.rules ≤ i) × (number e ≡ 6))

-- whether rule i's justification holds in w; refused with 6 exactly where there is no rule i or w has a bit beyond the atoms
abbrev pub AnswersIn : Program → ℕ → ℕ → Result Bool Refusal → Type 0
AnswersIn p i w r =
    MatchResult r
    (λ b. (i < length p.rules) × Interpretation p.atoms w × Decides b (Holds (rule_at p i).justification w))
    (λ e. ((length p.rules ≤ i) ⊎ BitBeyond p.atoms w) × (number e ≡ 6))

-- the row that stands for rule i; refused with 6 exactly where there is no rule i
abbrev pub AnswersRow : Program → ℕ → Result ClausalRule Refusal → Type 0
AnswersRow p i r =
    MatchResult r
    (λ row. (i < length p.rules) × (rule_of row ≡ rule_at p i))
    (λ e. (length p.rules ≤ i) × (number e ≡ 6))

-- the set of literals that is rule i's justification; refused with 6 exactly where there is no rule i
abbrev pub AnswersLiterals : Program → ℕ → Result LiteralSet Refusal → Type 0
AnswersLiterals p i r =
    MatchResult r
    (λ X. (i < length p.rules) × ((rule_at p i).justification ≡ literals X))
    (λ e. (length p.rules ≤ i) × (number e ≡ 6))

-- in every interpretation of n atoms that has each literal of K, b says whether j holds
abbrev pub Settles : ℕ → Justification → LiteralSet → Bool → Type 0
Settles n j K b = (w : ℕ) → Interpretation n w → AllTrue K w → Decides b (Holds j w)

-- an answer settles rule i's justification by the literals of K; no answer says nothing
abbrev pub AnswersSettled : Program → ℕ → LiteralSet → Option Bool → Type 0
AnswersSettled p i K r = IfSome r (λ b. (i < length p.rules) × Settles p.atoms (rule_at p i).justification K b)

-- j holds in exactly those interpretations of n atoms that have each literal of X
abbrev pub HoldsAs : ℕ → Justification → LiteralSet → Type 0
HoldsAs n j X = (w : ℕ) → Interpretation n w → (Holds j w → AllTrue X w) × (AllTrue X w → Holds j w)

-- an answer is a set that rule i's justification amounts to; no answer says nothing
abbrev pub AnswersAs : Program → ℕ → Option LiteralSet → Type 0
AnswersAs p i r = IfSome r (λ X. (i < length p.rules) × HoldsAs p.atoms (rule_at p i).justification X)

-- the atoms derived true and the atoms derived false under the reduct relative to w;
-- refused with 6 exactly where w has a bit beyond the atoms
abbrev pub AnswersClosure : Program → ℕ → Result (ℕ × ℕ) Refusal → Type 0
AnswersClosure p w r =
    MatchResult r
    (λ x. Interpretation p.atoms w × Smallest (Reduct p w) (record { positive = x.0; negative = x.1 }))
    (λ e. BitBeyond p.atoms w × (number e ≡ 6))

-- whether w is a model; refused with 6 exactly where w has a bit beyond the atoms
abbrev pub AnswersCheck : Program → ℕ → Result Bool Refusal → Type 0
AnswersCheck p w r =
    MatchResult r
    (λ b. Interpretation p.atoms w × Decides b (Model p w))
    (λ e. BitBeyond p.atoms w × (number e ≡ 6))
