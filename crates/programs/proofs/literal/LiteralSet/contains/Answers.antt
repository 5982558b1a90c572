use Rattle.std.proofs.Common.{sym, ap, ◌∙◌, arith}
use Rattle.std.proofs.lemmas.Bool.{ltb-true, eqb-true, eq-eqb}
use Rattle.programs.specs.Literals.{bit}
use Rattle.programs.proofs.Bits.{bit_test}
use Rattle.programs.proofs.Sets.{below_of}
use Rattle.programs.proofs.literal.LiteralSet.contains.Goals as goal

pub returns-then-literal-lt-MAX_ATOMS : goal.returns-then-literal-lt-MAX_ATOMS
returns-then-literal-lt-MAX_ATOMS c =
    let a = c.args.literal.atom in
    let same = bit_test c.side.result a ∙ ap (λ x. bit x a) c.side.ensures in
    (λ e. sym same ∙ eqb-true _ _ e, λ m. eq-eqb _ _ (same ∙ m))

pub returns-else-literal-lt-MAX_ATOMS : goal.returns-else-literal-lt-MAX_ATOMS
returns-else-literal-lt-MAX_ATOMS c =
    let l = c.args.literal in (
      λ e. absurd (omega (arith, ltb-true l.atom 64 e)),
      λ m. absurd (omega (arith, below_of c.args.self 64 (omega arith) (omega arith) l m)),
    )
