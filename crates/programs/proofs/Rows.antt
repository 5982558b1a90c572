-- What a source that gives its rules as rows answers by them.
use Rattle.std.proofs.Common.{◌≡◌, ℕ, ◌<◌, Bool, Result, MatchResult, length, Decides, subst, inr}
use Rattle.std.proofs.lemmas.Result.{MatchResult-weaker}
use Rattle.programs.specs.declared.refusal.Refusal.{Refusal}
use Rattle.programs.specs.declared.rule.ClausalRule.{ClausalRule}
use Rattle.programs.specs.Literals.{Interpretation, BitBeyond, AllTrue}
use Rattle.programs.specs.Programs.{Program, Holds, rule_of, rule_at}
use Rattle.programs.specs.Questions.{AnswersIn}
use Rattle.programs.specs.Refusals.{number}

-- where the row of rule i tells whether its justification holds, that is the answer
pub answers_by_row : (p : Program) (i n w : ℕ) (row : ClausalRule) (r : Result Bool Refusal) → i < length p.rules → rule_of row ≡ rule_at p i → n ≡ p.atoms → MatchResult r (λ b. Interpretation n w × Decides b (AllTrue row.justification w)) (λ e. BitBeyond n w × (number e ≡ 6)) → AnswersIn p i w r
answers_by_row p i n w row r here same atoms told =
    MatchResult-weaker r told
    (λ b a. (here, subst (λ m. Interpretation m w) atoms a.0, subst (λ x. Decides b (Holds x.justification w)) same a.1))
    (λ e a. (inr (subst (λ m. BitBeyond m w) atoms a.0), a.1))
