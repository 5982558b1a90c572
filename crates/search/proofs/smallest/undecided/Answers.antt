use Rattle.std.proofs.Common.{ap, inl, inr, arith}
use Rattle.std.proofs.lemmas.Nat.{or_lt}
use Rattle.std.proofs.lemmas.Result.{MatchResult-at_ok}
use Rattle.programs.proofs.Bits.{bit_none}
use Rattle.search.proofs.Halves.{always_ok, left_undecided, none_left}
use Rattle.search.proofs.smallest.undecided.Goals as goal

pub unwrap-all-requires : goal.unwrap-all-requires
unwrap-all-requires c = always_ok c.of_interpretation.result _ _ (λ e h. elim h.0 [ inl l ↦ omega arith | inr b ↦ omega (arith, b.2, bit_none b.0) ]) c.of_interpretation.ensures

pub returns : goal.returns
returns c =
    let K = c.args.known in
    let all = c.unwrap-all.result.negative in
    let read = MatchResult-at_ok _ _ c.unwrap-all.result c.unwrap-all.ensures c.of_interpretation.ensures in
    let wide = or_lt 64 K.positive K.negative (omega arith) (omega arith) in
    λ i. (
      left_undecided all K i (omega arith) wide,
      none_left c.args.atoms all K i (ap (λ X. X.negative) read.2) (omega arith) wide,
    )
