use Rattle.std.proofs.Common.{◌≡◌, length, set, sym, refl, ap, subst, length-set}
use Rattle.std.specs.List.{All}
use Rattle.std.proofs.lemmas.List.Elements.{All-set, All-push}
use Rattle.arrayvec.proofs.ArrayVecLemmas.{items-with_items}
use Rattle.search.specs.Nogoods.{NoGood}
use Rattle.search.proofs.learned.Learned.keep.Goals as goal

pub returns-then-is_full : goal.returns-then-is_full
returns-then-is_full c =
    let sets = c.args.self.now.sets in
    let i = c.args.self.now.oldest in
    let same = c.deref_mut.ensures.value in
    let written = set c.deref_mut.result.now i c.args.set in
    let whole : length written ≡ length sets.items = simp length-set (ap length same) in (
      refl,
      λ p each n.
          subst (All (NoGood p)) (sym (items-with_items sets written whole))
          (subst (λ xs. All (NoGood p) (set xs i c.args.set)) (sym same) (All-set (NoGood p) sets.items i c.args.set n each)),
    )

pub returns-else-is_full : goal.returns-else-is_full
returns-else-is_full c = (refl, λ p each n. subst (All (NoGood p)) (sym c.push.ensures.items) (All-push (NoGood p) c.args.self.now.sets.items c.args.set each n))
