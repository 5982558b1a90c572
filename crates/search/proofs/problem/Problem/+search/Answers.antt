use Rattle.std.proofs.Common.{ℕ, ◌<◌, true, sym, refl, ◌∙◌, subst, inl, inr, arith}
use Rattle.std.proofs.lemmas.Result.{err_from_is_err_and}
use Rattle.programs.specs.declared.literal.Literal.{Literal}
use Rattle.programs.specs.Literals.{Member, Subset}
use Rattle.programs.specs.Programs.{Model}
use Rattle.programs.proofs.Bits.{bit_none}
use Rattle.search.specs.Nogoods.{Avoids, SmallestWith}
use Rattle.search.specs.Trails.{Decided}
use Rattle.search.proofs.Halves.{lower_half, lowered, refuted_nogood, less_left, must_grow, half_ripe}
use Rattle.search.proofs.Reasons.{refuted_for, consistent_with}
use Rattle.search.proofs.problem.Problem.+search.Goals as goal

pub loop-reason-init : goal.loop-reason-init
loop-reason-init g t c =
    let p = g.S.RuleSource.program c.args.self.now.source.now in
    (refl, λ w m. c.starting-trail.ensures.2 w, c.count_node.ensures.1 p c.requires.0, c.count_node.ensures.0)

pub returns-in-Err : goal.returns-in-Err
returns-in-Err g t c =
    let p = g.S.RuleSource.program c.args.self.now.source.now in
    let inv = c.loop-reason.invariant in
    let R = c.in-Err.reason in
    let refuted = c.in-Err.ensures in
    let none = refuted_nogood p c.loop-reason.trail inv.1 R refuted in (
      (λ l m. subst (λ X. Member l X) (inv.0 ∙ c.starting-trail.ensures.0) (refuted.within l m), none),
      c.keep.ensures.1 p inv.2 none,
      omega (arith, c.keep.ensures.0, inv.3),
    )

pub settle-requires : goal.settle-requires
settle-requires g t c =
    let inv = c.loop-reason.invariant in
    let far = c.in_default.ensures in
    let none = c.in_default-highest.ensures in
    (λ w m. far.respected w m (inv.1 w m), λ i h. (c.undecided.ensures i).1 (omega (arith, h, c.atoms.ensures)) (rw none (bit_none i)))

pub search-requires : goal.search-requires
search-requires g t c κs within =
    let inv = c.loop-reason.invariant in
    let far = c.in_default.ensures in
    let T = c.narrow.new.trail in
    let H = c.plus-lower.result in
    let not_a : Literal = record { atom = c.in-Some.atom; negative = true } in
    let free = (c.undecided.ensures c.in-Some.atom).0 c.in-Some.ensures.1 in
    let half = lowered T.known H c.in-Some.atom c.positive.result c.complement.result c.positive.ensures c.complement.ensures c.plus-lower.ensures in
    let from = sym (far.same ∙ inv.0 ∙ c.starting-trail.ensures.0) in
    let known : Subset c.args.start T.known = λ l m. T.started l (subst (λ X. Member l X) from m) in
    let less = less_left c.args.start H (omega (arith, c.well_formed)) (omega (arith, c.well_formed)) (omega (arith, c.plus-lower.type_inv)) (omega (arith, c.plus-lower.type_inv)) (λ l m. half.1.kept l (known l m)) (not_a, λ h. free (inr (known not_a h)), half.1.has) in
    (omega (arith, less, c.decreases), (within, (inv.2, consistent_with T.known H not_a T.consistent (λ h. free (inl h)) half.0)))

pub returns-in-Ok : goal.returns-in-Ok
returns-in-Ok g t c =
    let p = g.S.RuleSource.program c.args.self.now.source.now in
    let inv = c.loop-reason.invariant in
    let far = c.in_default.ensures in
    let T = c.narrow.new.trail in
    let a = c.in-Some.atom in
    let below = c.in-Ok.ensures in
    let half = lowered T.known c.plus-lower.result a c.positive.result c.complement.result c.positive.ensures c.complement.ensures c.plus-lower.ensures in
    let above : (i : ℕ) → a < i → i < p.atoms → Decided i T.known = λ i up lt. (c.undecided.ensures i).1 (omega (arith, lt, c.atoms.ensures)) (c.in-Some.ensures.2 i up) in (
      subst (λ X. SmallestWith p X c.in-Ok.model) (far.same ∙ inv.0 ∙ c.starting-trail.ensures.0)
          (lower_half p T (λ w m. far.respected w m (inv.1 w m)) a c.in-Ok.model c.plus-lower.result half.0 half.1 above below.0),
      below.1,
      below.2,
    )

pub loop-reason-smaller : goal.loop-reason-smaller
loop-reason-smaller g t c =
    let far = c.in_default.ensures in
    let T = c.narrow.new.trail in
    let K = c.loop-reason.trail.known in
    let L = c.apply.new.self.known in
    let N = c.in-Err-search.nogood in
    let a = c.in-Some.atom in
    let free = (c.undecided.ensures a).0 c.in-Some.ensures.1 in
    let half = lowered T.known c.plus-lower.result a c.positive.result c.complement.result c.positive.ensures c.complement.ensures c.plus-lower.ensures in
    let step = c.in_ok-apply-in-Err-search.ensures in
    let grew = must_grow c.in_ok-apply-in-Err-search.field-0 T.known L N step.1 (half_ripe T.known c.plus-lower.result N a half.0 free c.in-Err-search.ensures.0.0) in
    less_left K L c.loop-reason.trail.wide.0 c.loop-reason.trail.wide.1 c.apply.new.self.wide.0 c.apply.new.self.wide.1 (λ l m. step.0.kept l (far.kept l m)) (grew.0, λ h. grew.1 (far.kept grew.0 h), grew.2)

pub loop-reason-preserved : goal.loop-reason-preserved
loop-reason-preserved g t c =
    let inv = c.loop-reason.invariant in
    let far = c.in_default.ensures in
    let below = c.in-Err-search.ensures in
    let step = c.in_ok-apply-in-Err-search.ensures.0 in
    (step.same ∙ far.same ∙ inv.0, λ w m. step.respected w (below.0.1 w m) (far.respected w m (inv.1 w m)), below.1, below.2)

pub returns-in_err-apply-in-Err-search : goal.returns-in_err-apply-in-Err-search
returns-in_err-apply-in-Err-search g t c =
    let p = g.S.RuleSource.program c.args.self.now.source.now in
    let inv = c.loop-reason.invariant in
    let far = c.in_default.ensures in
    let T = c.narrow.new.trail in
    let N = c.in-Err-search.nogood in
    let R = c.in_err-apply-in-Err-search.field-0.0 in
    let below = c.in-Err-search.ensures in
    let refuted = refuted_for (Model p) (Avoids N) below.0.1 T R c.in_err-apply-in-Err-search.ensures in
    let none = refuted_nogood p T (λ w m. far.respected w m (inv.1 w m)) R refuted in
    let out = err_from_is_err_and c.from_residual.result c.from_residual.ensures.1 in (
      rw (out.1, out.2) (λ l m. subst (λ X. Member l X) (far.same ∙ inv.0 ∙ c.starting-trail.ensures.0) (refuted.within l m), none),
      below.1,
      below.2,
    )
