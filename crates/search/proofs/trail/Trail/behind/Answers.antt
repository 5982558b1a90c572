use Rattle.std.proofs.Common.{◌-◌, ◌*◌, ◌%◌, ◌^◌, inl, arith}
use Rattle.std.proofs.lemmas.Nat.{or_lt, and_le_l}
use Rattle.search.proofs.Reasons.{start_part, union_within, gathers_more, rest_falls, behind_all}
use Rattle.search.proofs.trail.Trail.behind.Goals as goal

pub loop-atom-init : goal.loop-atom-init
loop-atom-init c =
    let t = c.args.self.now in
    let F = c.difference-found.result in
    (or_lt 64 F.positive F.negative (omega arith) (omega arith), start_part c.args.set t.start F c.difference-reason.result c.difference-found.ensures c.difference-reason.ensures, λ l m. m, λ i e. inl e)

pub loop-atom-preserved : goal.loop-atom-preserved
loop-atom-preserved c =
    let t = c.args.self.now in
    let a = c.in-Some.atom in
    let R = c.loop-atom.reason in
    let Q = c.union-reason.result in
    let inv = c.loop-atom.invariant in
    let found = c.in-Some.ensures in (
      omega (arith, and_le_l c.loop-atom.rest (2 ^ 64 - 1 - (1 * 2 ^ a) % 2 ^ 64), inv.0),
      union_within R _ Q t.start c.union-reason.ensures inv.1 (t.within a found.0),
      λ l m. c.union-reason.ensures.left l (inv.2 l m),
      gathers_more _ c.loop-atom.rest a t.reasons R Q inv.0 found.0 c.union-reason.ensures inv.3,
    )

pub loop-atom-smaller : goal.loop-atom-smaller
loop-atom-smaller c =
    let found = c.in-Some.ensures in
    rest_falls c.loop-atom.rest c.in-Some.atom c.loop-atom.invariant.0 found.0 found.1

pub returns : goal.returns
returns c =
    let inv = c.loop-atom.invariant in
    behind_all c.args.self.now c.args.set c.difference-found.result c.difference-reason.result c.loop-atom.reason c.loop-atom.rest c.requires c.difference-found.ensures c.difference-reason.ensures inv.1 inv.2 c.in_default.ensures inv.3
