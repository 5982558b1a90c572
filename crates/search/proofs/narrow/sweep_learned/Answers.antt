use Rattle.std.proofs.Common.{◌≡◌, ℕ, ◌<◌, List, length, get_or, subst, sym, arith}
use Rattle.std.specs.List.{All}
use Rattle.std.proofs.lemmas.List.Elements.{All-get_or}
use Rattle.programs.specs.declared.literal.LiteralSet.{LiteralSet}
use Rattle.search.specs.Nogoods.{Avoids}
use Rattle.search.proofs.Reasons.{advanced_then, advanced_for, refuted_out, refuted_for}
use Rattle.search.proofs.narrow.sweep_learned.Goals as goal

-- who avoids every set avoids the one that is shown at a place
avoids_at : (sets shown : List LiteralSet) (i : ℕ) (d : LiteralSet) → shown ≡ sets → i < length shown → (w : ℕ) → All (λ N. Avoids N w) sets → Avoids (get_or shown i d) w
avoids_at sets shown i d same lt w all = All-get_or (λ N. Avoids N w) shown i d lt (subst (All (λ N. Avoids N w)) (sym same) all)

pub returns-in_err-grew : goal.returns-in_err-grew
returns-in_err-grew c =
    let sets = c.args.learned.now.sets.items in
    let H : ℕ → Type 0 = λ w. All (λ N. Avoids N w) sets in
    let t = c.loop-set.trail in
    let avoid = avoids_at sets c.deref-set-items.result.now c.loop-set.set-index _ c.deref-set-items.ensures.0 (omega arith) in
    refuted_out H c.args.trail.now t _ c.from_residual.result _ c.from_residual.ensures.1 c.loop-set.invariant (refuted_for H _ avoid t _ c.in_err-grew.ensures)

pub loop-set-preserved : goal.loop-set-preserved
loop-set-preserved c =
    let sets = c.args.learned.now.sets.items in
    let H : ℕ → Type 0 = λ w. All (λ N. Avoids N w) sets in
    let t = c.loop-set.trail in
    let avoid = avoids_at sets c.deref-set-items.result.now c.loop-set.set-index _ c.deref-set-items.ensures.0 (omega arith) in
    advanced_then H c.args.trail.now t _ c.loop-set.invariant (advanced_for H _ avoid t _ c.in_ok-grew.ensures.0)
