use Rattle.std.proofs.Common.{length, sym, refl, subst, arith}
use Rattle.std.proofs.lemmas.Nat.{ones-le}
use Rattle.std.proofs.lemmas.Bool.{false≢true}
use Rattle.programs.specs.Literals.{Interpretation}
use Rattle.programs.specs.Steps.{Marked}
use Rattle.programs.proofs.Sets.{empty_subset}
use Rattle.programs.proofs.Closures.{obeys_closed, same_test, more_literals}
use Rattle.programs.proofs.closure.closure.Goals as goal

pub rounds-init : goal.rounds-init
rounds-init g c = record {
  inside = subst (λ n. Interpretation n c.args.interpretation) c.atoms.ensures (c.if-not-is_interpretation.ensures.decides.0 refl);
  marked = c.in_ok-mark_reduct.ensures.1;
  whole = c.in_ok-mark_reduct.ensures.0;
  within = λ Y _. empty_subset Y;
  positive = omega arith;
  negative = omega arith;
}

pub rounds-smaller : goal.rounds-smaller
rounds-smaller g c =
    let X = c.rounds.derived in
    let Y = c.in_ok-grown.grown in
    let grew = more_literals X Y (omega arith) (omega arith) (omega arith) (omega arith) c.in_ok-grown.ensures.kept
    (λ e. false≢true ((same_test _ Y X c.if-eq.ensures).1 e)) in
    omega (arith, grew, ones-le 64 Y.positive (omega arith), ones-le 64 Y.negative (omega arith))

pub returns : goal.returns
returns g c =
    let p = g.S.RuleSource.program c.args.source.now in
    let w = c.args.interpretation in
    let inv = c.rounds.invariant in
    let X = c.rounds.derived in
    let marked = subst (Marked p w (length p.rules)) (sym c.deref.ensures.0) inv.marked in
    let quiet = c.in_ok-grown.ensures.quiet ((same_test _ _ X c.if-eq.ensures).0 refl) in
    (inv.inside, record { closed = obeys_closed p c.deref.result.now w marked X quiet; within = inv.within })
