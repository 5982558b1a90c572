use Rattle.std.proofs.Common.{sym, ◌∙◌, subst, inl, inr, arith, rules}
use Rattle.programs.specs.Literals.{BitBeyond}
use Rattle.programs.proofs.Bits.{bit_high}
use Rattle.floorplan.proofs.Words.{known_low, found_next}
use Rattle.floorplan.proofs.following.next_state.Goals as goal

pub returns-in_err-given : goal.returns-in_err-given
returns-in_err-given g c =
    let word = c.in_ok-known.ensures in
    let low = known_low c.args.before c.args.action word.0 word.1 in
    elim c.in_err-given.ensures.0 [
      | inl h ↦ absurd (omega arith)
      | inr beyond ↦ let b = subst (BitBeyond 16) word.2 beyond in absurd (omega (arith, b.2, bit_high _ 16 b.0 low b.1))
    ]

pub returns : goal.returns
returns g c =
    let p = g.S.RuleSource.program c.args.source.now in
    let word = c.in_ok-known.ensures in
    let mark = c.in_ok-mark.ensures in
    let whole = sym c.atoms.ensures ∙ c.if-atoms-ne-ATOMS.false in (
      record { whole = whole; from = word.0; by = word.1; past = mark.0 },
      found_next p c.args.before c.args.action whole word.0 word.1 c.args.above _ c.in_ok-given.given c.in_ok-mark.mark c.in_ok-found.found.model _ word.2 c.in_ok-given.ensures.2 mark.1 (search rules) c.in_ok-found.ensures.1,
    )
