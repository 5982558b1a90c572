use Rattle.std.proofs.Common.{refl}
use Rattle.search.proofs.Reasons.{consistent_with, within_set, respects_more}
use Rattle.search.proofs.trail.Trail.add.Goals as goal

pub invariant_of-self-clause-consistent : goal.invariant_of-self-clause-consistent
invariant_of-self-clause-consistent c =
    let t = c.args.self.now in
    consistent_with t.known c.plus-self.result c.args.literal t.consistent c.requires.2 c.plus-self.ensures.0

pub invariant_of-self-clause-within : goal.invariant_of-self-clause-within
invariant_of-self-clause-within c =
    let t = c.args.self.now in
    within_set t.start c.args.reason t.reasons c.args.literal.atom t.sized t.within c.requires.3 c.requires.0

pub returns : goal.returns
returns c =
    let t = c.args.self.now in
    record {
      same = refl;
      grown = c.plus-self.ensures.1;
      respected = respects_more t c.args.literal c.args.reason c.plus-self.result c.requires.0 c.requires.1 c.requires.2 c.plus-self.ensures.0;
    }
