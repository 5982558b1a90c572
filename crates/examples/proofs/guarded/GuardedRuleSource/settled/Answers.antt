use Rattle.std.proofs.Common.{◌≡◌, ℕ, zero, suc, ◌+◌, ◌-◌, ◌<◌, Bool, Some, None, Decides, Option, sym, refl, ap, ◌∙◌, subst, arith}
use Rattle.programs.specs.declared.literal.LiteralSet.{LiteralSet}
use Rattle.programs.specs.Formulas.{Formula, atom, negation}
use Rattle.programs.specs.Programs.{Justification, Holds, formula, rule_at}
use Rattle.programs.specs.Questions.{AnswersSettled}
use Rattle.examples.specs.Guards.{guarded_program, forbidden, Foresees}
use Rattle.examples.proofs.guarded.GuardedRuleSource.settled.Goals as goal

abbrev assumed : ℕ → Justification
assumed i = (rule_at guarded_program i).justification

-- the last two rules assume what is forbidden
last_two : (k : ℕ) → k < 2 → assumed (8 + k) ≡ formula forbidden
last_two zero l = refl
last_two (suc zero) l = refl
last_two (suc (suc k)) l = absurd (omega arith)

-- what is foreseen of the formula of rule i settles it
foreseen : (i : ℕ) (K : LiteralSet) (r : Option Bool) (f : Formula) → i < 10 → assumed i ≡ formula f → Foresees f K r → AnswersSettled guarded_program i K r
foreseen i K None f l j h = tt
foreseen i K (Some b) f l j h =
    (l, λ w _ t. subst (λ (x : Justification). Decides b (Holds x w)) (sym j) (λ e. h w t ∙ e, λ e. sym (h w t) ∙ e))

pub returns-in-0 : goal.returns-in-0
returns-in-0 c = foreseen _ _ _ (atom 0) (omega arith) (ap assumed c.in-0.is) c.foresee-a.ensures

pub returns-in-1 : goal.returns-in-1
returns-in-1 c =
    foreseen _ _ _ (negation (atom 0)) (omega arith) (ap assumed c.in-1.is) (λ w t. c.opposite.ensures _ (c.foresee-a.ensures w t))

pub returns-in-2 : goal.returns-in-2
returns-in-2 c = foreseen _ _ _ (atom 1) (omega arith) (ap assumed c.in-2.is) c.foresee-b.ensures

pub returns-in-3 : goal.returns-in-3
returns-in-3 c =
    foreseen _ _ _ (negation (atom 1)) (omega arith) (ap assumed c.in-3.is) (λ w t. c.opposite-in-3.ensures _ (c.foresee-b.ensures w t))

pub returns-in-4 : goal.returns-in-4
returns-in-4 c = foreseen _ _ _ (atom 2) (omega arith) (ap assumed c.in-4.is) c.foresee-c.ensures

pub returns-in-5 : goal.returns-in-5
returns-in-5 c =
    foreseen _ _ _ (negation (atom 2)) (omega arith) (ap assumed c.in-5.is) (λ w t. c.opposite-in-5.ensures _ (c.foresee-c.ensures w t))

pub returns-in-6 : goal.returns-in-6
returns-in-6 c = foreseen _ _ _ (atom 3) (omega arith) (ap assumed c.in-6.is) c.foresee-d.ensures

pub returns-in-7 : goal.returns-in-7
returns-in-7 c =
    foreseen _ _ _ (negation (atom 3)) (omega arith) (ap assumed c.in-7.is) (λ w t. c.opposite-in-7.ensures _ (c.foresee-d.ensures w t))

pub returns-in-8 : goal.returns-in-8
returns-in-8 c =
    let i = c.args.i in
    let place : i ≡ 8 + (i - 8) = omega arith in
    foreseen _ _ _ forbidden (omega arith) (ap assumed place ∙ last_two (i - 8) (omega arith))
    (λ w t.
    c.any.ensures _ _ (c.both.ensures _ _ (c.foresee-a.ensures w t) (c.foresee-b.ensures w t))
    (c.both-in-8.ensures _ _ (c.foresee-c.ensures w t) (c.foresee-d.ensures w t)))
