use Rattle.std.proofs.Common.{sym, ◌∙◌}
use Rattle.std.proofs.lemmas.Bool.{false≢true}
use Rattle.programs.proofs.Sets.{positive_below, negative_below, words_below}
use Rattle.programs.proofs.literal.LiteralSet.is_below.Goals as goal

pub returns-then-is_interpretation : goal.returns-then-is_interpretation
returns-then-is_interpretation c =
    let X = c.args.self in
    let n = c.args.atoms in
    let p = c.is_interpretation.ensures.decides in
    let q = c.is_interpretation-then-is_interpretation.ensures.decides in
    (λ e. words_below X n (p.0 c.if-is_interpretation.true) (q.0 e), λ b. q.1 (negative_below X n b))

pub returns-else-is_interpretation : goal.returns-else-is_interpretation
returns-else-is_interpretation c =
    let X = c.args.self in
    let n = c.args.atoms in
    let p = c.is_interpretation.ensures.decides in
    (λ e. absurd (false≢true (sym c.if-is_interpretation.false ∙ e)), λ b. p.1 (positive_below X n b))
